-- Own tags as their lists are made, of which none is marked.
use Rattle.std.proofs.Common.{◌≡◌, ◌+◌, ◌<◌, ◌∙◌, ℕ, zero, suc, Bool, true, false, cond, is_lt, nat_cmp, Ordering, Less, Equal, Greater, List, [], ◌∷◌, ◌++◌, length, map, filter, replicate, get_or, slice_get, Some, Contains, IsSorted, refl, sym, ap, ap₂, subst, inl, inr, ◌⊎◌, arith}
use Rattle.std.specs.Cmp.Lexicographic.{slice_cmp}
use Rattle.std.specs.List.{range_with_len}
use Rattle.std.specs.Ordering.{ordering_then}
use Rattle.std.proofs.lemmas.Bool.{eq-eqb, eqb-true}
use Rattle.std.proofs.lemmas.List.{get_or-map, length-append, length-map, length-replicate}
use Rattle.std.proofs.lemmas.List.Elements.{Contains-get_or}
use Rattle.std.proofs.lemmas.List.FromFn.{get_or-range_with_len, length-range_with_len}
use Rattle.std.proofs.lemmas.List.Sorted.{Contains-permutation, IsPermutation-sym}
use Rattle.std.proofs.lemmas.Option.{get_or_from_slice_get, none-some, same_Some, slice_get-get_or, slice_get_within}
use Rattle.psi_spec.specs.Columns.{row_of}
use Rattle.psi_spec.specs.Deals.{ReceiverDeal, zero_columns}
use Rattle.psi_spec.specs.Formulas.{padded_tag}
use Rattle.psi_spec.specs.Frames.{is_below}
use Rattle.psi_spec.specs.Hits.{list_of_slot}
use Rattle.psi_spec.specs.Limits.{bins_for, rows_for}
use Rattle.psi_spec.specs.Placement.{Slot}
use Rattle.psi_spec.specs.Rising.{rising}
use Rattle.psi_spec.proofs.Lists.{Contains-filter, Contains-from_filter, Contains-from_map, Contains-map}
use Rattle.psi_receiver.specs.Own.{AreItemsIn, AreOwnTags, AreUnmarked, IsMarkedList, Marked, marked_of, own_tag_of, own_tags, own_tags_in}
use Rattle.psi_receiver.specs.Slots.{AreWithin, is_in_list, tags_with_items, tag_of_word, tags_where}
use Rattle.psi_receiver.specs.Unmarked.{AreUnmarkedLists, IsUnmarkedList, tags_for_list}
use Rattle.psi_receiver.specs.declared.own.OwnList.{OwnList}
use Rattle.psi_receiver.specs.declared.own.OwnTags.{OwnTags}
use Rattle.psi_receiver.proofs.Shown.{list_of_marks}

-- ---- sorted pairs

-- an order by two parts is one by the first
first_below : (first second : Ordering) → is_lt (ordering_then first second) ≡ false → is_lt first ≡ false
first_below Less second e = e
first_below Equal second e = refl
first_below Greater second e = refl

-- where pairs are sorted, their first parts are
pub first_parts_sorted : (pairs : List (List ℕ × ℕ)) → IsSorted (λ a b. ordering_then (slice_cmp nat_cmp a.0 b.0) (nat_cmp a.1 b.1)) pairs
    → IsSorted (slice_cmp nat_cmp) (map (λ t. t.0) pairs)
first_parts_sorted pairs up k d low within =
    let first : List ℕ × ℕ → List ℕ = λ t. t.0 in
    let none : List ℕ × ℕ = (d, 0) in
    let many : length (map first pairs) ≡ length pairs = length-map pairs first in
    let next : List ℕ × ℕ = get_or pairs (k + 1) none in
    let here : List ℕ × ℕ = get_or pairs k none in
    ap₂ is_below (get_or-map first pairs (k + 1) none d (omega (arith, many))) (get_or-map first pairs k none d (omega (arith, many)))
    ∙ first_below (slice_cmp nat_cmp next.0 here.0) (nat_cmp next.1 here.1) (up k none low (omega (arith, many)))

-- ---- tags of a list

module _ (test : Slot → Bool) (f : Slot → List ℕ) where
  -- those of the slots that pass, in order: the slots stand from a place on
  tags_from : (slots : List Slot) (p : ℕ → Bool) (tag : ℕ → List ℕ) (at : ℕ) → ((k j : ℕ) (d : Slot) → k < length slots → at + k ≡ j → p j ≡ test (get_or slots k d))
      → ((k j : ℕ) (d : Slot) → k < length slots → at + k ≡ j → tag j ≡ f (get_or slots k d))
      → map (λ (t : List ℕ × ℕ). t.0) (filter (λ (t : List ℕ × ℕ). p t.1) (map (λ (item : ℕ). (tag item, item)) (range_with_len at (length slots)))) ≡ map f (filter test slots)
  tags_from [] p tag at passes tags = refl
  tags_from (slot ∷ slots) p tag at passes tags =
      let later = tags_from slots p tag (at + 1) (λ k j d l e. passes (suc k) j d (omega arith) (omega arith)) (λ k j d l e. tags (suc k) j d (omega arith) (omega arith)) in
      by_case (p at) (test slot) (passes 0 at slot (omega arith) (omega arith)) later
    where
      rest : List (List ℕ × ℕ)
      rest = filter (λ (t : List ℕ × ℕ). p t.1) (map (λ (item : ℕ). (tag item, item)) (range_with_len (at + 1) (length slots)))

      by_case : (a b : Bool) → a ≡ b → map (λ (t : List ℕ × ℕ). t.0) rest ≡ map f (filter test slots)
          → map (λ (t : List ℕ × ℕ). t.0) (cond a ((tag at, at) ∷ rest) rest) ≡ map f (cond b (slot ∷ filter test slots) (filter test slots))
      by_case true true e later = ap₂ (λ (x : List ℕ) (xs : List (List ℕ)). x ∷ xs) (tags 0 at slot (omega arith) (omega arith)) later
      by_case true false e later = cc
      by_case false true e later = cc
      by_case false false e later = later

  module _ (slots : List Slot) where
    pub tags_where-tags : map (λ t. t.0) (tags_where test slots (map f slots)) ≡ map f (filter test slots)
    tags_where-tags =
        ap (λ (n : ℕ). map (λ (t : List ℕ × ℕ). t.0) (filter (λ (t : List ℕ × ℕ). get_or (map test slots) t.1 false) (map (λ (item : ℕ). (get_or (map f slots) item [], item)) (range_with_len 0 n)))) (length-map slots f)
        ∙ tags_from slots (λ j. get_or (map test slots) j false) (λ j. get_or (map f slots) j []) 0
        (λ k j d l e. ap (λ (n : ℕ). get_or (map test slots) n false) (let same : j ≡ k = omega arith in same) ∙ get_or-map test slots k d false l)
        (λ k j d l e. ap (λ (n : ℕ). get_or (map f slots) n []) (let same : j ≡ k = omega arith in same) ∙ get_or-map f slots k d [] l)

    -- each is that of its item, whose slot passes
    pub tags_where-each : (t : List ℕ × ℕ) → Contains (tags_where test slots (map f slots)) t
        → (slot : Slot) × (slice_get slots t.1 ≡ Some slot) × (test slot ≡ true) × (f slot ≡ t.0)
    tags_where-each t has =
        let nothing : Slot = record { row = 0; index = 0 } in
        let passes = Contains-from_filter (λ (t : List ℕ × ℕ). get_or (map test slots) t.1 false) (tags_with_items (map f slots)) t has in
        let from = Contains-from_map (λ (item : ℕ). (get_or (map f slots) item [], item)) (range_with_len 0 (length (map f slots))) t passes.0 in
        let place : ℕ = from.1.0 in
        let inside : place < length slots = omega (arith, from.1.1, length-range_with_len 0 (length (map f slots)), length-map slots f) in
        let item : from.0 ≡ place = sym from.1.2 ∙ get_or-range_with_len 0 (length (map f slots)) place from.0 (omega (arith, inside, length-map slots f)) ∙ (let none : 0 + place ≡ place = omega arith in none) in
        let at : t.1 ≡ place = ap (λ (u : List ℕ × ℕ). u.1) (sym from.2) ∙ item in
        let slot : Slot = get_or slots place nothing in (
          slot,
          ap (slice_get slots) at ∙ slice_get-get_or slots place nothing inside,
          sym (get_or-map test slots place nothing false inside) ∙ (ap (λ (n : ℕ). get_or (map test slots) n false) (sym at) ∙ passes.1),
          sym (get_or-map f slots place nothing [] inside) ∙ (ap (λ (n : ℕ). get_or (map f slots) n []) (sym item) ∙ ap (λ (u : List ℕ × ℕ). u.0) from.2),
        )

    -- and each item whose slot passes has one
    pub tags_where-all : (item : ℕ) (slot : Slot) → slice_get slots item ≡ Some slot → test slot ≡ true
        → Contains (tags_where test slots (map f slots)) (get_or (map f slots) item [], item)
    tags_where-all item slot at passes =
        let inside : item < length slots = slice_get_within slots item slot at in
        let here : Contains (range_with_len 0 (length (map f slots))) item = (
          item,
          omega (arith, inside, length-range_with_len 0 (length (map f slots)), length-map slots f),
          get_or-range_with_len 0 (length (map f slots)) item item (omega (arith, inside, length-map slots f)) ∙ (let none : 0 + item ≡ item = omega arith in none),
        ) in
        Contains-filter (λ (t : List ℕ × ℕ). get_or (map test slots) t.1 false) (tags_with_items (map f slots)) (get_or (map f slots) item [], item)
        (Contains-map (λ (item : ℕ). (get_or (map f slots) item [], item)) (range_with_len 0 (length (map f slots))) item here)
        (get_or-map test slots item slot false inside ∙ (ap test (get_or_from_slice_get slots item slot slot at) ∙ passes))

-- ---- lists that are not marked

-- an element of a list with one behind it is of the list, or is that one
last_or_before : (lists : List OwnList) (own : OwnList) (k : ℕ) (one : OwnList) → slice_get (lists ++ own ∷ []) k ≡ Some one
    → (slice_get lists k ≡ Some one) ⊎ ((k ≡ length lists) × (own ≡ one))
last_or_before [] own zero one at = inr (refl, same_Some own one at)
last_or_before [] own (suc k) one at = absurd (none-some one at)
last_or_before (x ∷ lists) own zero one at = inl at
last_or_before (x ∷ lists) own (suc k) one at = elim (last_or_before lists own k one at) [ inl early ↦ inl early | inr last ↦ inr (ap suc last.0, last.1) ]

-- one list more
pub one_list_more : (slots : List Slot) (tags : List (List ℕ)) (count : ℕ) (lists : List OwnList) (own : OwnList) → AreUnmarkedLists slots tags count lists
    → IsUnmarkedList slots tags count own → AreUnmarkedLists slots tags (count + 1) (lists ++ own ∷ [])
one_list_more slots tags count lists own before is = record {
  many = length-append lists (own ∷ []) ∙ ap (λ (n : ℕ). n + 1) before.many;
  each = λ list one at. by_case list one at (last_or_before lists own list one at);
}
  where
    by_case : (list : ℕ) (one : OwnList) → slice_get (lists ++ own ∷ []) list ≡ Some one → (slice_get lists list ≡ Some one) ⊎ ((list ≡ length lists) × (own ≡ one))
        → IsUnmarkedList slots tags list one
    by_case list one at (inl early) = before.each list one early
    by_case list one at (inr last) =
        subst (λ (n : ℕ). IsUnmarkedList slots tags n one) (sym (last.0 ∙ before.many)) (subst (IsUnmarkedList slots tags count) last.1 is)

no_hits : (n i : ℕ) → get_or (replicate n false) i false ≡ false
no_hits zero i = refl
no_hits (suc n) zero = refl
no_hits (suc n) (suc i) = no_hits n i

-- none of their tags is marked
pub none_marked : (slots : List Slot) (tags : List (List ℕ)) (count : ℕ) (lists : List OwnList) → AreUnmarkedLists slots tags count lists
    → AreUnmarked (map marked_of lists)
none_marked slots tags count lists are list m there i =
    let found = list_of_marks lists list m there in
    let own : IsUnmarkedList slots tags list found.0 = are.each list found.0 found.1 in
    ap (λ (n : Marked). get_or n.hits i false) (sym found.2) ∙ (ap (λ (hits : List Bool). get_or hits i false) own.has.hits ∙ no_hits (length own.tagged) i)

-- where words of rows are those of the zero columns, their tags are the own tags
own_from_words : (deal : ReceiverDeal) (rows : List (List ℕ)) (slots : List Slot) → AreWithin (length rows) slots
    → ((row : ℕ) → row < length rows → get_or rows row [] ≡ row_of (zero_columns deal (length rows)) row)
    → map (tag_of_word deal rows) slots ≡ map (own_tag_of deal (length rows)) slots
own_from_words deal rows [] within words = refl
own_from_words deal rows (slot ∷ slots) within words =
    let low : slot.row < length rows = (within 0 slot (omega arith)).0 in
    ap₂ (λ (tag : List ℕ) (tags : List (List ℕ)). tag ∷ tags) (ap (padded_tag deal.key deal.tag_length slot.row) (words slot.row low))
    (own_from_words deal rows slots (λ k d l. within (suc k) d (omega arith)) words)

pub own_tags_from_words : (deal : ReceiverDeal) (rows : List (List ℕ)) (slots : List Slot) → length rows ≡ rows_for deal.stash (length slots)
    → AreWithin (length rows) slots → ((row : ℕ) → row < length rows → get_or rows row [] ≡ row_of (zero_columns deal (length rows)) row)
    → map (tag_of_word deal rows) slots ≡ own_tags deal slots
own_tags_from_words deal rows slots count within words =
    own_from_words deal rows slots within words ∙ ap (λ (n : ℕ). map (own_tag_of deal n) slots) count

module _ (deal : ReceiverDeal) (slots : List Slot) (list : ℕ) (own : OwnList) (is : IsUnmarkedList slots (own_tags deal slots) list own) where
  abbrev tag_for : Slot → List ℕ
  tag_for slot = own_tag_of deal (rows_for deal.stash (length slots)) slot

  abbrev test : Slot → Bool
  test = is_in_list (bins_for (length slots)) list

  -- the own tags of such a list
  list_has_own_tags : IsMarkedList (own_tags_in deal slots list) (marked_of own)
  list_has_own_tags = record {
    tags_are = is.has.tags ∙ (is.rise ∙ ap rising (tags_where-tags test tag_for slots));
    long = ap (λ (hits : List Bool). length hits) is.has.hits
        ∙ (length-replicate (length is.tagged) false
        ∙ sym (ap (λ (ts : List (List ℕ)). length ts) is.has.tags ∙ length-map is.tagged (λ (t : List ℕ × ℕ). t.0)));
  }

  -- and their items
  list_has_items : AreItemsIn deal slots list own.tags.items own.items.items
  list_has_items = record {
    many = ap (λ (ns : List ℕ). length ns) is.has.items
        ∙ (length-map is.tagged (λ (t : List ℕ × ℕ). t.1)
        ∙ sym (ap (λ (ts : List (List ℕ)). length ts) is.has.tags ∙ length-map is.tagged (λ (t : List ℕ × ℕ). t.0)));
    each = λ place l.
        let none : List ℕ × ℕ = ([], 0) in
        let inside : place < length is.tagged = omega (arith, l, ap (λ (ns : List ℕ). length ns) is.has.items, length-map is.tagged (λ (t : List ℕ × ℕ). t.1)) in
        let t : List ℕ × ℕ = get_or is.tagged place none in
        let has = Contains-permutation is.tagged (tags_for_list slots (own_tags deal slots) list) t
        (IsPermutation-sym (tags_for_list slots (own_tags deal slots) list) is.tagged is.moved) (Contains-get_or is.tagged place none inside) in
        let by = tags_where-each test tag_for slots t has in
        let item : t.1 ≡ get_or own.items.items place 0 =
        sym (ap (λ (ns : List ℕ). get_or ns place 0) is.has.items ∙ get_or-map (λ (t : List ℕ × ℕ). t.1) is.tagged place none 0 inside) in
        let tag : t.0 ≡ get_or own.tags.items place [] =
        sym (ap (λ (ts : List (List ℕ)). get_or ts place []) is.has.tags ∙ get_or-map (λ (t : List ℕ × ℕ). t.0) is.tagged place none [] inside) in
        record {
          slot = by.0;
          at = ap (slice_get slots) (sym item) ∙ by.1;
          listed = eqb-true (list_of_slot (bins_for (length slots)) by.0) list by.2;
          tagged = by.3 ∙ tag;
        };
    all = λ item slot at in_list.
        let t : List ℕ × ℕ = (get_or (own_tags deal slots) item [], item) in
        let has : Contains is.tagged t =
        Contains-permutation (tags_for_list slots (own_tags deal slots) list) is.tagged t is.moved
        (tags_where-all test tag_for slots item slot at (eq-eqb (list_of_slot (bins_for (length slots)) slot) list in_list)) in
        subst (λ (ns : List ℕ). Contains ns item) (sym is.has.items) (Contains-map (λ (t : List ℕ × ℕ). t.1) is.tagged t has);
  }

-- lists of own tags that are not marked
pub are_own_tags : (deal : ReceiverDeal) (slots : List Slot) (tags : List (List ℕ)) (own : OwnTags) (count : ℕ) → tags ≡ own_tags deal slots
    → AreUnmarkedLists slots tags count own.lists.items → count ≡ 3 + deal.stash → AreOwnTags deal slots own
are_own_tags deal slots tags own count tags_are made many =
    let is : AreUnmarkedLists slots (own_tags deal slots) count own.lists.items =
    subst (λ (all : List (List ℕ)). AreUnmarkedLists slots all count own.lists.items) tags_are made in
    record {
      many = is.many ∙ many;
      each = λ list m there.
          let found = list_of_marks own.lists.items list m there in
          subst (IsMarkedList (own_tags_in deal slots list)) found.2 (list_has_own_tags deal slots list found.0 (is.each list found.0 found.1));
      items = λ list one at. list_has_items deal slots list one (is.each list one at);
    }
