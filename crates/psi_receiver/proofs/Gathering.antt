-- Lists that are gathered a part at a time.
use Rattle.std.proofs.Common.{◌≡◌, ◌+◌, ◌-◌, ◌<◌, ◌≤◌, ℕ, Bool, true, false, cond, List, [], ◌∷◌, ◌++◌, length, map, filter, min, take, drop, set, get_or, slice_get, Some, None, IsSome, All, rules, refl, sym, ap, ap₂, subst, ◌∙◌, arith, length-append}
use Rattle.std.specs.Simd.Lanes.{zip2}
use Rattle.std.specs.List.{range_with_len}
use Rattle.std.proofs.lemmas.List.{length-take-le, take_more, take_more_set, take_min, take-take, drop-take, take-append-drop, length-drop, get_or-drop, get_or-map, map-append, append-nil}
use Rattle.std.proofs.lemmas.List.FromFn.{filter_of_map_range_with_len_more}
use Rattle.std.proofs.lemmas.Option.{get_or_from_slice_get, slice_get-get_or}
use Rattle.std.proofs.lemmas.Slice.{take-put_mid}
use borrow.Rule.Slice.PartMut.{put_mid}
use Rattle.std.specs.Prelude.{Option, option_map}
use Rattle.std.proofs.lemmas.List.Elements.{All-take, All-drop, All-map}
use Rattle.std.proofs.lemmas.Option.{slice_get_within}
use Rattle.psi_cuckoo.specs.Table.{slot_of}
use Rattle.psi_cuckoo.specs.declared.slot.Slot.{Slot as RowSlot}
use Rattle.psi_spec.specs.Deals.{ReceiverDeal}
use Rattle.psi_spec.specs.Formulas.{padded_tag}
use Rattle.psi_spec.specs.Placement.{Slot}
use Rattle.psi_receiver.specs.Slots.{AreWithin, tag_of_word}

-- ---- parts

-- the elements up to the end of the next part
pub take_part : {X : Type 0} (xs : List X) (at end next : ℕ) → at ≤ end → end ≡ min (length xs) next
    → take next xs ≡ take at xs ++ take (end - at) (drop at xs)
take_part xs at end next le is =
    let same : min next (length xs) ≡ end = omega arith in
    let whole : at + (end - at) ≡ end = omega arith in
    sym (take_min next xs)
    ∙ (ap (λ n. take n xs) same
    ∙ (sym (take-append-drop at (take end xs))
    ∙ ap₂ (λ x y. x ++ y) (take-take at end xs le) (ap (λ n. drop at (take n xs)) (sym whole) ∙ drop-take at (end - at) xs)))

-- the elements up to the end of a part that was written
pub take_written : {X : Type 0} (xs ys : List X) (at end next : ℕ) → at ≤ end → end ≡ min (length xs) next → length ys ≡ end - at
    → take next (put_mid at (end - at) xs ys) ≡ take at xs ++ ys
take_written xs ys at end next le is long =
    let whole : List _ = put_mid at (end - at) xs ys in
    let same : min next (length whole) ≡ end =
    omega (arith, length-append (take at xs) (ys ++ drop (end - at) (drop at xs)), length-append ys (drop (end - at) (drop at xs)), length-take-le at xs (omega arith), length-drop (end - at) (drop at xs), length-drop at xs) in
    sym (take_min next whole) ∙ (ap (λ n. take n whole) same ∙ take-put_mid at (end - at) xs ys end (omega arith) (omega arith))

module _ {A B : Type 0} (f : A → B) where
  -- one element more of what a function makes of the elements from a place on
  pub mapped_more : (xs : List A) (at i : ℕ) (out : List B) (x : A) (y : B) → i < length out → at + i < length xs
      → slice_get xs (at + i) ≡ Some x → y ≡ f x → take i out ≡ map f (take i (drop at xs))
      → take (i + 1) (set out i y) ≡ map f (take (i + 1) (drop at xs))
  mapped_more xs at i out x y l m found is before =
      let rest : List A = drop at xs in
      let here : get_or rest i x ≡ x = get_or-drop at xs i x ∙ get_or_from_slice_get xs (at + i) x x found in
      take_more_set out i y l
      ∙ (ap₂ (λ zs z. zs ++ z ∷ []) before (is ∙ ap f (sym here))
      ∙ (sym (map-append f (take i rest) (get_or rest i x ∷ []))
      ∙ sym (ap (map f) (take_more rest i x (omega (arith, length-drop at xs))))))

  -- what a function makes of all elements, a part at a time
  pub mapped_part : (xs : List A) (out part : List B) (at end next : ℕ) → at ≤ end → end ≡ min (length xs) next → length out ≡ length xs
      → length part ≡ end - at → take at out ≡ map f (take at xs) → part ≡ map f (take (length part) (drop at xs))
      → take next (put_mid at (end - at) out part) ≡ map f (take next xs)
  mapped_part xs out part at end next le is long many before made =
      take_written out part at end next le (omega arith) many
      ∙ (ap₂ (λ x y. x ++ y) before (made ∙ ap (λ n. map f (take n (drop at xs))) many)
      ∙ sym (ap (map f) (take_part xs at end next le is) ∙ map-append f (take at xs) (take (end - at) (drop at xs))))

-- ---- slots

-- the slot that a placement gives for a place
pub slot_there : (slots : List Slot) (i : ℕ) (found : Option RowSlot) (slot : RowSlot) → option_map slot_of found ≡ slice_get slots i
    → found ≡ Some slot → slice_get slots i ≡ Some (slot_of slot)
slot_there slots i found slot is some = sym is ∙ ap (option_map slot_of) some

-- there is one where the place is below their count
pub some_there : (slots : List Slot) (i : ℕ) (found : Option RowSlot) → i < length slots → option_map slot_of found ≡ slice_get slots i → IsSome found
some_there slots i None l is = cc (slice_get-get_or slots i (record { row = 0; index = 0 }) l)
some_there slots i (Some slot) l is = search rules

-- the rows of some slots are below their bound
pub rows_within : (rows at count : ℕ) (slots : List Slot) → AreWithin rows slots
    → All (λ (row : ℕ). row < rows) (map (λ slot. slot.row) (take count (drop at slots)))
rows_within rows at count slots within =
    let low : Slot → Type 0 = λ slot. (slot.row < rows) × (slot.index ≤ 3) in
    let some : All low (take count (drop at slots)) = All-take low count (drop at slots) (All-drop low at slots within) in
    All-map (λ (row : ℕ). row < rows) (λ (slot : Slot). slot.row) (take count (drop at slots)) (λ k d l. (some k d l).0)

-- and so are their indices
pub indices_within : (rows at count : ℕ) (slots : List Slot) → AreWithin rows slots
    → All (λ (index : ℕ). index ≤ 3) (map (λ slot. slot.index) (take count (drop at slots)))
indices_within rows at count slots within =
    let low : Slot → Type 0 = λ slot. (slot.row < rows) × (slot.index ≤ 3) in
    let some : All low (take count (drop at slots)) = All-take low count (drop at slots) (All-drop low at slots within) in
    All-map (λ (index : ℕ). index ≤ 3) (λ (slot : Slot). slot.index) (take count (drop at slots)) (λ k d l. (some k d l).1)

-- the row of a slot is below its bound
pub row_within : (rows i : ℕ) (slots : List Slot) (slot : Slot) → AreWithin rows slots → slice_get slots i ≡ Some slot → slot.row < rows
row_within rows i slots slot within there =
    let low : get_or slots i slot ≡ slot = get_or_from_slice_get slots i slot slot there in
    subst (λ (s : Slot). s.row < rows) low (within i slot (slice_get_within slots i slot there)).0

-- ---- tags of slots

-- the tags of rows with these numbers and of their words
pub tags_of_slots : (deal : ReceiverDeal) (rows : List (List ℕ)) (slots : List Slot)
    → zip2 (padded_tag deal.key deal.tag_length) (map (λ slot. slot.row) slots) (map (λ (number : ℕ). get_or rows number []) (map (λ slot. slot.row) slots))
    ≡ map (tag_of_word deal rows) slots
tags_of_slots deal rows [] = refl
tags_of_slots deal rows (slot ∷ slots) = ap (λ (tags : List (List ℕ)). tag_of_word deal rows slot ∷ tags) (tags_of_slots deal rows slots)

module _ (test : Slot → Bool) (slots : List Slot) (tags : List (List ℕ)) where
  -- of the first tags by item, so many, those whose slot passes
  abbrev pub tags_before : ℕ → List (List ℕ × ℕ)
  tags_before n = filter (λ t. get_or (map test slots) t.1 false) (map (λ item. (get_or tags item [], item)) (range_with_len 0 n))

  -- one item more
  tags_before-more : (i : ℕ) (slot : Slot) → slice_get slots i ≡ Some slot
      → tags_before (i + 1) ≡ tags_before i ++ cond (test slot) ((get_or tags i [], i) ∷ []) []
  tags_before-more i slot is =
      let here : get_or (map test slots) i false ≡ test slot =
      get_or-map test slots i slot false (slice_get_within slots i slot is) ∙ ap test (get_or_from_slice_get slots i slot slot is) in
      filter_of_map_range_with_len_more (λ (t : List ℕ × ℕ). get_or (map test slots) t.1 false) (λ (item : ℕ). (get_or tags item [], item)) 0 i i (omega arith)
      ∙ ap (λ (b : Bool). tags_before i ++ cond b ((get_or tags i [], i) ∷ []) []) here

  -- one item more whose slot passes, and one whose slot does not
  pub tags_before-passes : (found : List (List ℕ × ℕ)) (i : ℕ) (slot : Slot) → slice_get slots i ≡ Some slot → test slot ≡ true
      → found ≡ tags_before i → found ++ (get_or tags i [], i) ∷ [] ≡ tags_before (i + 1)
  tags_before-passes found i slot is passes before =
      ap (λ (all : List (List ℕ × ℕ)). all ++ (get_or tags i [], i) ∷ []) before
      ∙ sym (tags_before-more i slot is ∙ ap (λ (b : Bool). tags_before i ++ cond b ((get_or tags i [], i) ∷ []) []) passes)

  pub tags_before-fails : (found : List (List ℕ × ℕ)) (i : ℕ) (slot : Slot) → slice_get slots i ≡ Some slot → test slot ≡ false
      → found ≡ tags_before i → found ≡ tags_before (i + 1)
  tags_before-fails found i slot is fails before =
      before
      ∙ sym (tags_before-more i slot is
      ∙ (ap (λ (b : Bool). tags_before i ++ cond b ((get_or tags i [], i) ∷ []) []) fails ∙ append-nil (tags_before i)))
