-- Lists taken eight at a time.
use Rattle.std.proofs.Common.{◌≡◌, ◌+◌, ◌-◌, ◌≤◌, ℕ, List, [], ◌∷◌, ◌++◌, length, take, drop, slice_index_or, sym, ◌∙◌, ap, arith}
use Rattle.std.proofs.Math.Seq.{take-add}
use Rattle.std.proofs.lemmas.Simd.{length-chunk, pick_l_whole}

-- the eight elements from place n on, as a slice of them reads
abbrev pub eight_from : {X : Type 0} → List X → ℕ → List X
eight_from xs n = take (n + 8 - n) (drop n xs)

pub length-eight_from : {X : Type 0} (xs : List X) (n : ℕ) → n + 8 ≤ length xs → length (eight_from xs n) ≡ 8
length-eight_from xs n room =
    let count : n + 8 - n ≡ 8 = omega arith in
    ap (λ k. length (take k (drop n xs))) count ∙ length-chunk n 8 xs room

-- eight elements more
pub take_eight : {X : Type 0} (xs : List X) (n m : ℕ) → n + 8 ≡ m → take m xs ≡ take n xs ++ eight_from xs n
take_eight xs n m same =
    let count : 8 ≡ n + 8 - n = omega arith in
    ap (λ k. take k xs) (sym same) ∙ (take-add n 8 xs ∙ ap (λ k. take n xs ++ take k (drop n xs)) count)

-- a list of eight, element by element
pub eight_elements : {X : Type 0} (xs : List X) (d : X) → length xs ≡ 8
    → xs ≡ slice_index_or xs 0 d ∷ slice_index_or xs 1 d ∷ slice_index_or xs 2 d ∷ slice_index_or xs 3 d
    ∷ slice_index_or xs 4 d ∷ slice_index_or xs 5 d ∷ slice_index_or xs 6 d ∷ slice_index_or xs 7 d ∷ []
eight_elements xs d long = sym (pick_l_whole d xs 8 long)
