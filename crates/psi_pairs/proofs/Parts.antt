-- Lists that are made a part at a time.
use Rattle.std.proofs.Common.{◌≡◌, ◌+◌, ◌-◌, ◌<◌, ◌≤◌, ℕ, List, [], ◌∷◌, ◌++◌, length, map, min, take, drop, set, get_or, slice_get, Some, sym, ap, ap₂, ◌∙◌, arith, length-append}
use Rattle.std.proofs.lemmas.List.{length-take-le, take_more, take_more_set, take_min, take-take, drop-take, take-append-drop, length-drop, get_or-drop, map-append}
use Rattle.std.proofs.lemmas.Option.{get_or_from_slice_get}
use Rattle.std.proofs.lemmas.Slice.{take-put_mid}
use borrow.Rule.Slice.PartMut.{put_mid}

-- the elements up to the end of the next part
take_part : {X : Type 0} (xs : List X) (at end next : ℕ) → at ≤ end → end ≡ min (length xs) next
    → take next xs ≡ take at xs ++ take (end - at) (drop at xs)
take_part xs at end next le is =
    let same : min next (length xs) ≡ end = omega arith in
    let whole : at + (end - at) ≡ end = omega arith in
    sym (take_min next xs)
    ∙ (ap (λ n. take n xs) same
    ∙ (sym (take-append-drop at (take end xs))
    ∙ ap₂ (λ x y. x ++ y) (take-take at end xs le) (ap (λ n. drop at (take n xs)) (sym whole) ∙ drop-take at (end - at) xs)))

-- the elements up to the end of a part that was written
take_written : {X : Type 0} (xs ys : List X) (at end next : ℕ) → at ≤ end → end ≡ min (length xs) next → length ys ≡ end - at
    → take next (put_mid at (end - at) xs ys) ≡ take at xs ++ ys
take_written xs ys at end next le is long =
    let whole : List _ = put_mid at (end - at) xs ys in
    let same : min next (length whole) ≡ end =
    omega (arith, length-append (take at xs) (ys ++ drop (end - at) (drop at xs)), length-append ys (drop (end - at) (drop at xs)), length-take-le at xs (omega arith), length-drop (end - at) (drop at xs), length-drop at xs) in
    sym (take_min next whole) ∙ (ap (λ n. take n whole) same ∙ take-put_mid at (end - at) xs ys end (omega arith) (omega arith))

module _ {A B : Type 0} (f : A → B) where
  -- one element more of what a function makes of the elements from a place on
  pub mapped_more : (xs : List A) (at i : ℕ) (out : List B) (x : A) (y : B) → i < length out → at + i < length xs
      → slice_get xs (at + i) ≡ Some x → y ≡ f x → take i out ≡ map f (take i (drop at xs))
      → take (i + 1) (set out i y) ≡ map f (take (i + 1) (drop at xs))
  mapped_more xs at i out x y l m found is before =
      let rest : List A = drop at xs in
      let here : get_or rest i x ≡ x = get_or-drop at xs i x ∙ get_or_from_slice_get xs (at + i) x x found in
      take_more_set out i y l
      ∙ (ap₂ (λ zs z. zs ++ z ∷ []) before (is ∙ ap f (sym here))
      ∙ (sym (map-append f (take i rest) (get_or rest i x ∷ []))
      ∙ sym (ap (map f) (take_more rest i x (omega (arith, length-drop at xs))))))

  -- what a function makes of all elements, a part at a time
  pub mapped_part : (xs : List A) (out part : List B) (at end next : ℕ) → at ≤ end → end ≡ min (length xs) next → length out ≡ length xs
      → length part ≡ end - at → take at out ≡ map f (take at xs) → part ≡ map f (take (length part) (drop at xs))
      → take next (put_mid at (end - at) out part) ≡ map f (take next xs)
  mapped_part xs out part at end next le is long many before made =
      take_written out part at end next le (omega arith) many
      ∙ (ap₂ (λ x y. x ++ y) before (made ∙ ap (λ n. map f (take n (drop at xs))) many)
      ∙ sym (ap (map f) (take_part xs at end next le is) ∙ map-append f (take at xs) (take (end - at) (drop at xs))))
