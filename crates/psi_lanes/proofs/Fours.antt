-- Four words and four others, exchanged by lanes and stored in turn.
use Rattle.std.proofs.Common.{◌≡◌, ◌<◌, ◌≤◌, ◌∙◌, ℕ, ◌+◌, ◌-◌, ◌*◌, ◌/◌, ◌%◌, ◌^◌, suc, zero, List, [], ◌∷◌, ◌++◌, length, get_or, bit_and, bit_xor, refl, sym, ap, ap₂, subst, arith}
use Rattle.std.specs.Simd.Lanes.{zip2, chunk, put_chunk}
use Rattle.std.proofs.lemmas.Simd.{length-chunk, get_or-chunk, length-put_chunk, get_or-put_chunk_below, get_or-put_chunk_at}
use Rattle.psi_lanes.specs.Tile.{MakesPair, first_of, second_of}

four : (xs : List ℕ) → length xs ≡ 4 → xs ≡ get_or xs 0 0 ∷ get_or xs 1 0 ∷ get_or xs 2 0 ∷ get_or xs 3 0 ∷ []
four [] e = cc
four (a ∷ []) e = cc
four (a ∷ b ∷ []) e = cc
four (a ∷ b ∷ c ∷ []) e = cc
four (a ∷ b ∷ c ∷ d ∷ []) e = refl
four (a ∷ b ∷ c ∷ d ∷ x ∷ xs) e = absurd (omega arith)

-- the lanes that the code computes, and what it stores
module _ (shift mask : ℕ) (low high : List ℕ) where
  abbrev pub all : ℕ → List ℕ
  all n = n ∷ n ∷ n ∷ n ∷ []

  abbrev pub moved : List ℕ
  moved = zip2 bit_and (zip2 bit_xor (zip2 (λ x n. x / 2 ^ n) low (all shift)) high) (all mask)

  abbrev pub firsts : List ℕ
  firsts = zip2 bit_xor low (zip2 (λ x n. x * 2 ^ n % 2 ^ 64) moved (all shift))

  abbrev pub seconds : List ℕ
  seconds = zip2 bit_xor high moved

  abbrev pub both : List ℕ
  both = firsts ++ seconds

  abbrev pub stored : ℕ → List ℕ → List ℕ
  stored at new = put_chunk (2 * at + 4)
      (put_chunk (2 * at) new (get_or both 0 0 ∷ get_or both 4 0 ∷ get_or both 1 0 ∷ get_or both 5 0 ∷ []))
      (get_or both 2 0 ∷ get_or both 6 0 ∷ get_or both 3 0 ∷ get_or both 7 0 ∷ [])

-- words 2 i to 2 i + 3 of the eight
abbrev turns : ℕ → ℕ → List ℕ → List ℕ → ℕ → ℕ → List ℕ
turns shift mask low high i j =
    first_of shift mask (get_or low i 0) (get_or high i 0) ∷ second_of shift mask (get_or low i 0) (get_or high i 0)
    ∷ first_of shift mask (get_or low j 0) (get_or high j 0) ∷ second_of shift mask (get_or low j 0) (get_or high j 0) ∷ []

abbrev written : ℕ → List ℕ → List ℕ → List ℕ → List ℕ
written at new p q = put_chunk (2 * at + 4) (put_chunk (2 * at) new p) q

stored_is : (shift mask at : ℕ) (new low high : List ℕ) → length low ≡ 4 → length high ≡ 4
    → stored shift mask low high at new ≡ written at new (turns shift mask low high 0 1) (turns shift mask low high 2 3)
stored_is shift mask at new low high l h =
    let P : List ℕ → List ℕ → Type 0 = λ xs ys. stored shift mask xs ys at new ≡ written at new (turns shift mask low high 0 1) (turns shift mask low high 2 3) in
    let Q : List ℕ → Type 0 = λ xs. P xs high in
    let R : List ℕ → Type 0 = λ ys. P (get_or low 0 0 ∷ get_or low 1 0 ∷ get_or low 2 0 ∷ get_or low 3 0 ∷ []) ys in
    subst Q (sym (four low l)) (subst R (sym (four high h)) refl)

module _ (at : ℕ) (new p q : List ℕ) (long : length new ≡ 64) (p_long : length p ≡ 4) (q_long : length q ≡ 4) (room : 2 * at + 8 ≤ 64) where
  before : (v : ℕ) → v < 2 * at → get_or (written at new p q) v 0 ≡ get_or new v 0
  before v l =
      get_or-put_chunk_below (2 * at + 4) (put_chunk (2 * at) new p) q v 0 (omega arith) ∙ get_or-put_chunk_below (2 * at) new p v 0 l

  front : (j : ℕ) → j < 4 → get_or (written at new p q) (2 * at + j) 0 ≡ get_or p j 0
  front j l =
      get_or-put_chunk_below (2 * at + 4) (put_chunk (2 * at) new p) q (2 * at + j) 0 (omega arith)
      ∙ get_or-put_chunk_at (2 * at) new p j 0 (omega arith) (omega arith)

  back : (j : ℕ) → j < 4 → get_or (written at new p q) (2 * at + 4 + j) 0 ≡ get_or q j 0
  back j l =
      get_or-put_chunk_at (2 * at + 4) (put_chunk (2 * at) new p) q j 0 (omega arith) (omega (arith, length-put_chunk (2 * at) new p))

module _ (shift mask at : ℕ) (old new : List ℕ) (old_long : length old ≡ 64) (new_long : length new ≡ 64) (room : at + 36 ≤ 64) where
  low : List ℕ
  low = chunk at 4 old

  high : List ℕ
  high = chunk (at + 32) 4 old

  out : List ℕ
  out = written at new (turns shift mask (chunk at 4 old) (chunk (at + 32) 4 old) 0 1) (turns shift mask (chunk at 4 old) (chunk (at + 32) 4 old) 2 3)

  out_is : stored shift mask (chunk at 4 old) (chunk (at + 32) 4 old) at new ≡ out
  unfolding out
  out_is = stored_is shift mask at new (chunk at 4 old) (chunk (at + 32) 4 old) (length-chunk at 4 old (omega arith)) (length-chunk (at + 32) 4 old (omega arith))

  low_word : (i : ℕ) → i < 4 → get_or (chunk at 4 old) i 0 ≡ get_or old (at + i) 0
  low_word i l = get_or-chunk at 4 old i 0 l

  high_word : (i : ℕ) → i < 4 → get_or (chunk (at + 32) 4 old) i 0 ≡ get_or old (at + i + 32) 0
  high_word i l = let e : at + 32 + i ≡ at + i + 32 = omega arith in get_or-chunk (at + 32) 4 old i 0 l ∙ ap (λ n. get_or old n 0) e

  front_out : (k j : ℕ) → j < 4 → k ≡ 2 * at + j → get_or out k 0 ≡ get_or (turns shift mask (chunk at 4 old) (chunk (at + 32) 4 old) 0 1) j 0
  unfolding out
  front_out k j l e = ap (λ n. get_or out n 0) e ∙ front at new (turns shift mask (chunk at 4 old) (chunk (at + 32) 4 old) 0 1) (turns shift mask (chunk at 4 old) (chunk (at + 32) 4 old) 2 3) new_long refl refl (omega arith) j l

  back_out : (k j : ℕ) → j < 4 → k ≡ 2 * at + 4 + j → get_or out k 0 ≡ get_or (turns shift mask (chunk at 4 old) (chunk (at + 32) 4 old) 2 3) j 0
  unfolding out
  back_out k j l e = ap (λ n. get_or out n 0) e ∙ back at new (turns shift mask (chunk at 4 old) (chunk (at + 32) 4 old) 0 1) (turns shift mask (chunk at 4 old) (chunk (at + 32) 4 old) 2 3) new_long refl refl (omega arith) j l

  firsts_of : (i : ℕ) → i < 4 → first_of shift mask (get_or (chunk at 4 old) i 0) (get_or (chunk (at + 32) 4 old) i 0) ≡ first_of shift mask (get_or old (at + i) 0) (get_or old (at + i + 32) 0)
  firsts_of i l = ap₂ (first_of shift mask) (low_word i l) (high_word i l)

  seconds_of : (i : ℕ) → i < 4 → second_of shift mask (get_or (chunk at 4 old) i 0) (get_or (chunk (at + 32) 4 old) i 0) ≡ second_of shift mask (get_or old (at + i) 0) (get_or old (at + i + 32) 0)
  seconds_of i l = ap₂ (second_of shift mask) (low_word i l) (high_word i l)

  out_pair : (i : ℕ) → i < 4 → MakesPair shift mask old out (at + i)
  out_pair zero l = record {
    first = front_out (2 * (at + 0)) 0 (omega arith) (omega arith) ∙ firsts_of 0 l;
    second = front_out (2 * (at + 0) + 1) 1 (omega arith) (omega arith) ∙ seconds_of 0 l;
  }
  out_pair (suc zero) l = record {
    first = front_out (2 * (at + 1)) 2 (omega arith) (omega arith) ∙ firsts_of 1 l;
    second = front_out (2 * (at + 1) + 1) 3 (omega arith) (omega arith) ∙ seconds_of 1 l;
  }
  out_pair (suc (suc zero)) l = record {
    first = back_out (2 * (at + 2)) 0 (omega arith) (omega arith) ∙ firsts_of 2 l;
    second = back_out (2 * (at + 2) + 1) 1 (omega arith) (omega arith) ∙ seconds_of 2 l;
  }
  out_pair (suc (suc (suc zero))) l = record {
    first = back_out (2 * (at + 3)) 2 (omega arith) (omega arith) ∙ firsts_of 3 l;
    second = back_out (2 * (at + 3) + 1) 3 (omega arith) (omega arith) ∙ seconds_of 3 l;
  }
  out_pair (suc (suc (suc (suc i)))) l = absurd (omega arith)

  pub makes_pair : (k : ℕ) → at ≤ k → k < at + 4 → MakesPair shift mask old (stored shift mask (chunk at 4 old) (chunk (at + 32) 4 old) at new) k
  makes_pair k p q =
      let e : at + (k - at) ≡ k = omega arith in
      let P : List ℕ → Type 0 = λ xs. MakesPair shift mask old xs k in
      let Q : ℕ → Type 0 = λ n. MakesPair shift mask old out n in
      subst P (sym out_is) (subst Q e (out_pair (k - at) (omega arith)))

  pub keeps_before : (v : ℕ) → v < 2 * at → get_or (stored shift mask (chunk at 4 old) (chunk (at + 32) 4 old) at new) v 0 ≡ get_or new v 0
  unfolding out
  keeps_before v l =
      ap (λ xs. get_or xs v 0) out_is
      ∙ before at new (turns shift mask (chunk at 4 old) (chunk (at + 32) 4 old) 0 1) (turns shift mask (chunk at 4 old) (chunk (at + 32) 4 old) 2 3) new_long refl refl (omega arith) v l
