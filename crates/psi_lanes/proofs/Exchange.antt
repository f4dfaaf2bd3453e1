-- The bits of two words after an exchange.
use Rattle.std.proofs.Common.{◌≡◌, ◌<◌, ◌≤◌, ℕ, ◌+◌, ◌-◌, ◌*◌, ◌/◌, ◌%◌, ◌^◌, List, get_or, min, suc, sym, ◌∙◌, ap, ap₂, subst, arith, bit_xor, ⊎_elim, ◌⊎◌, inl, inr}
use Rattle.std.specs.Int.{bit_at}
use Rattle.std.proofs.lemmas.Bool.{cases_lt}
use Rattle.std.proofs.lemmas.Nat.Bits.{bit_at_xor, bit_at_and, bit_at-lt}
use Rattle.std.proofs.lemmas.Nat.{div-mul-add, div-add-mod', mod_below}
use Rattle.psi_lanes.proofs.Shifts.{bit_at_shr, bit_at_shl, bit_at_shl_low}
use Rattle.psi_lanes.specs.Tile.{IsMask, IsExchanged, MakesPair, turned, first_of, second_of}

-- a run further
next_run : (s j : ℕ) → 0 < s → (s + j) / s ≡ suc (j / s)
next_run s j p =
    let whole : j / s * s + j % s ≡ j = div-add-mod' j s in
    let next : s + j ≡ suc (j / s) * s + j % s = omega (arith, whole) in
    ap (λ n. n / s) next ∙ div-mul-add (suc (j / s)) s (j % s) (mod_below j s p)

module _ (s mask : ℕ) (pos : 0 < s) (small : s < 64) (masks : IsMask s mask) (a b : ℕ) where
  bit_at_turned : (j : ℕ) → j < 64 → bit_at (turned s mask a b) j ≡ min ((bit_at a (s + j) + bit_at b j) % 2) (1 - j / s % 2)
  bit_at_turned j l =
      bit_at_and (bit_xor (a / 2 ^ s) b) mask j
      ∙ ap₂ min (bit_at_xor (a / 2 ^ s) b j ∙ ap (λ n. (n + bit_at b j) % 2) (bit_at_shr a s j)) (masks j l)

  -- the second word has the first one's odd runs, and keeps its own
  second_even : (j : ℕ) → j < 64 → j / s % 2 ≡ 0 → bit_at (second_of s mask a b) j ≡ bit_at a (s + j)
  second_even j l even =
      bit_at_xor b (turned s mask a b) j ∙ ap (λ n. (bit_at b j + n) % 2) (bit_at_turned j l)
      ∙ gained (bit_at a (s + j)) (bit_at b j) (j / s) (bit_at-lt a (s + j)) (bit_at-lt b j) even
    where
      gained : (x y q : ℕ) → x < 2 → y < 2 → q % 2 ≡ 0 → (y + min ((x + y) % 2) (1 - q % 2)) % 2 ≡ x
      gained x y q p r e = omega arith

  second_odd : (j : ℕ) → j < 64 → j / s % 2 ≡ 1 → bit_at (second_of s mask a b) j ≡ bit_at b j
  second_odd j l odd =
      bit_at_xor b (turned s mask a b) j ∙ ap (λ n. (bit_at b j + n) % 2) (bit_at_turned j l)
      ∙ left (bit_at a (s + j)) (bit_at b j) (j / s) (bit_at-lt b j) odd
    where
      left : (x y q : ℕ) → y < 2 → q % 2 ≡ 1 → (y + min ((x + y) % 2) (1 - q % 2)) % 2 ≡ y
      left x y q p e = omega arith

  -- the first word has the second one's even runs, and keeps its own
  first_past : (j : ℕ) → s + j < 64 → bit_at (first_of s mask a b) (s + j) ≡ (bit_at a (s + j) + min ((bit_at a (s + j) + bit_at b j) % 2) (1 - j / s % 2)) % 2
  first_past j l =
      bit_at_xor a (turned s mask a b * 2 ^ s % 2 ^ 64) (s + j)
      ∙ ap (λ n. (bit_at a (s + j) + n) % 2) (bit_at_shl (turned s mask a b) 64 s j l ∙ bit_at_turned j (omega arith))

  first_odd : (j : ℕ) → s + j < 64 → (s + j) / s % 2 ≡ 1 → bit_at (first_of s mask a b) (s + j) ≡ bit_at b j
  first_odd j l odd =
      first_past j l ∙ gained (bit_at a (s + j)) (bit_at b j) (j / s) (bit_at-lt a (s + j)) (bit_at-lt b j) (ap (λ n. n % 2) (sym (next_run s j pos)) ∙ odd)
    where
      gained : (x y q : ℕ) → x < 2 → y < 2 → suc q % 2 ≡ 1 → (x + min ((x + y) % 2) (1 - q % 2)) % 2 ≡ y
      gained x y q p r e = omega arith

  first_even_past : (j : ℕ) → s + j < 64 → (s + j) / s % 2 ≡ 0 → bit_at (first_of s mask a b) (s + j) ≡ bit_at a (s + j)
  first_even_past j l even =
      first_past j l ∙ left (bit_at a (s + j)) (bit_at b j) (j / s) (bit_at-lt a (s + j)) (ap (λ n. n % 2) (sym (next_run s j pos)) ∙ even)
    where
      left : (x y q : ℕ) → x < 2 → suc q % 2 ≡ 0 → (x + min ((x + y) % 2) (1 - q % 2)) % 2 ≡ x
      left x y q p e = omega arith

  first_start : (j : ℕ) → j < s → bit_at (first_of s mask a b) j ≡ bit_at a j
  first_start j l =
      bit_at_xor a (turned s mask a b * 2 ^ s % 2 ^ 64) j ∙ ap (λ n. (bit_at a j + n) % 2) (bit_at_shl_low (turned s mask a b) 64 s j l (omega arith)) ∙ same (bit_at a j) (bit_at-lt a j)
    where
      same : (x : ℕ) → x < 2 → (x + 0) % 2 ≡ x
      same x p = omega arith

  first_even : (j : ℕ) → j < 64 → j / s % 2 ≡ 0 → bit_at (first_of s mask a b) j ≡ bit_at a j
  first_even j l even =
      ⊎_elim (λ p. first_start j p)
      (λ p. let e : s + (j - s) ≡ j = omega arith in
      let P : ℕ → Type 0 = λ n. n < 64 → n / s % 2 ≡ 0 → bit_at (first_of s mask a b) n ≡ bit_at a n in
      subst P e (first_even_past (j - s)) l even)
      (cases_lt j s)

  first_odd_at : (j : ℕ) → j < 64 → s ≤ j → j / s % 2 ≡ 1 → bit_at (first_of s mask a b) j ≡ bit_at b (j - s)
  first_odd_at j l p odd =
      let e : s + (j - s) ≡ j = omega arith in
      let P : ℕ → Type 0 = λ n. n < 64 → n / s % 2 ≡ 1 → bit_at (first_of s mask a b) n ≡ bit_at b (j - s) in
      subst P e (first_odd (j - s)) l odd

parity_cases : (n : ℕ) → (n % 2 ≡ 0) ⊎ (n % 2 ≡ 1)
parity_cases n = ⊎_elim (λ (p : n % 2 < 1). inl (omega arith)) (λ (p : 1 ≤ n % 2). inr (omega arith)) (cases_lt (n % 2) 1)

-- words that are made in pairs have the exchanged bits
pub exchanged : (s mask : ℕ) → 0 < s → s < 64 → IsMask s mask → (old new : List ℕ)
    → ((k : ℕ) → k < 32 → MakesPair s mask old new k) → IsExchanged s old new
exchanged s mask pos small masks old new pairs v c p q =
    let pair = pairs (v / 2) (omega arith) in
    let low = get_or old (v / 2) 0 in
    let high = get_or old (v / 2 + 32) 0 in
    ⊎_elim
    (λ (e : v % 2 ≡ 0).
    let here : 2 * (v / 2) ≡ v = omega arith in
    let word : get_or new v 0 ≡ first_of s mask low high = ap (λ n. get_or new n 0) (sym here) ∙ pair.first in
    ⊎_elim
    (λ (d : c / s % 2 ≡ 0). let to_word : v / 2 ≡ v / 2 + 32 * (c / s % 2) = rw d (omega arith) in
    let to_bit : c ≡ c + s * (v % 2) - s * (c / s % 2) = rw (d, e) (omega arith) in
    ap (λ x. bit_at x c) word ∙ first_even s mask pos small masks low high c q d ∙ at to_word to_bit)
    (λ (d : c / s % 2 ≡ 1). let to_word : v / 2 + 32 ≡ v / 2 + 32 * (c / s % 2) = rw d (omega arith) in
    let to_bit : c - s ≡ c + s * (v % 2) - s * (c / s % 2) = rw (d, e) (omega arith) in
    let past : s ≤ c = later d in
    ap (λ x. bit_at x c) word ∙ first_odd_at s mask pos small masks low high c q past d ∙ at to_word to_bit)
    (parity_cases (c / s)))
    (λ (e : v % 2 ≡ 1).
    let here : 2 * (v / 2) + 1 ≡ v = omega arith in
    let word : get_or new v 0 ≡ second_of s mask low high = ap (λ n. get_or new n 0) (sym here) ∙ pair.second in
    ⊎_elim
    (λ (d : c / s % 2 ≡ 0). let to_word : v / 2 ≡ v / 2 + 32 * (c / s % 2) = rw d (omega arith) in
    let to_bit : s + c ≡ c + s * (v % 2) - s * (c / s % 2) = rw (d, e) (omega arith) in
    ap (λ x. bit_at x c) word ∙ second_even s mask pos small masks low high c q d ∙ at to_word to_bit)
    (λ (d : c / s % 2 ≡ 1). let to_word : v / 2 + 32 ≡ v / 2 + 32 * (c / s % 2) = rw d (omega arith) in
    let to_bit : c ≡ c + s * (v % 2) - s * (c / s % 2) = rw (d, e) (omega arith) in
    ap (λ x. bit_at x c) word ∙ second_odd s mask pos small masks low high c q d ∙ at to_word to_bit)
    (parity_cases (c / s)))
    (parity_cases v)
  where
    at : {i i' j j' : ℕ} → i ≡ i' → j ≡ j' → bit_at (get_or old i 0) j ≡ bit_at (get_or old i' 0) j'
    at e f = ap₂ (λ n m. bit_at (get_or old n 0) m) e f

    later : c / s % 2 ≡ 1 → s ≤ c
    later d = ⊎_elim (λ (l : c < s). absurd (let none : c / s ≡ 0 = zero_run s c l in omega arith)) (λ l. l) (cases_lt c s)
      where
        zero_run : (s c : ℕ) → c < s → c / s ≡ 0
        zero_run s c l = let e : c ≡ 0 * s + c = omega arith in ap (λ n. n / s) e ∙ div-mul-add 0 s c l
