-- The bits of a word that is read from bytes, and of the bytes that a word is written to.
use Rattle.std.proofs.Common.{◌≡◌, ◌<◌, ◌≤◌, ℕ, ◌+◌, ◌-◌, ◌*◌, ◌/◌, ◌%◌, ◌^◌, suc, zero, List, [], ◌∷◌, ◌++◌, length, get_or, take, refl, sym, ◌∙◌, ap, ap₂, arith, ⊎_elim}
use Rattle.std.specs.Int.{bit_at, from_le_bytes, to_le_bytes, w64}
use Rattle.std.specs.Simd.Lanes.{number_l}
use Rattle.std.proofs.lemmas.Bool.{cases_lt}
use Rattle.std.proofs.lemmas.List.{get_or-append_right, get_or_append_left, get_or-take, length-take}
use Rattle.std.proofs.lemmas.Nat.Bits.{bit_at_cat_low, bit_at_cat_high, bit_at-zero}
use Rattle.psi_spec.specs.Bits.{bit_of}
use Rattle.psi_spec.proofs.Packing.{AreBytes}
use Rattle.psi_lanes.specs.Strips.{PutsWord}
use Rattle.psi_spec.proofs.KeyStream.{bit_at_low}
use Rattle.psi_lanes.proofs.Shifts.{bit_at_shr}

-- ---- a word of bytes

-- the bits of the first byte, and those of the rest
pub bit_of-first : (x : ℕ) (xs : List ℕ) (j : ℕ) → j < 8 → bit_of (x ∷ xs) j ≡ bit_at x j
bit_of-first x xs j l = let q : j / 8 ≡ 0 = omega arith in let r : j % 8 ≡ j = omega arith in rw (q, r) refl

pub bit_of-rest : (x : ℕ) (xs : List ℕ) (j : ℕ) → bit_of (x ∷ xs) (8 + j) ≡ bit_of xs j
bit_of-rest x xs j = let q : (8 + j) / 8 ≡ suc (j / 8) = omega arith in let r : (8 + j) % 8 ≡ j % 8 = omega arith in rw (q, r) refl

bit_at-number_l : (bytes : List ℕ) → AreBytes bytes → (j : ℕ) → bit_at (number_l 256 bytes) j ≡ bit_of bytes j
bit_at-number_l [] small j = bit_at-zero j ∙ sym (bit_at-zero (j % 8))
bit_at-number_l (x ∷ xs) small j =
    let turned : x + 256 * number_l 256 xs ≡ number_l 256 xs * 2 ^ 8 + x = omega arith in
    ap (λ n. bit_at n j) turned
    ∙ ⊎_elim
    (λ (l : j < 8). bit_at_cat_low (number_l 256 xs) 8 x j l ∙ sym (bit_of-first x xs j l))
    (λ (l : 8 ≤ j). let e : 8 + (j - 8) ≡ j = omega arith in
    bit_at_cat_high (number_l 256 xs) 8 x j (small 0) l ∙ bit_at-number_l xs (λ i. small (suc i)) (j - 8)
    ∙ sym (bit_of-rest x xs (j - 8)) ∙ ap (bit_of (x ∷ xs)) e)
    (cases_lt j 8)

number_l-from_le_bytes : (bytes : List ℕ) → length bytes ≡ 8 → from_le_bytes w64 bytes ≡ number_l 256 bytes
number_l-from_le_bytes [] e = absurd (omega arith)
number_l-from_le_bytes (a ∷ []) e = absurd (omega arith)
number_l-from_le_bytes (a ∷ b ∷ []) e = absurd (omega arith)
number_l-from_le_bytes (a ∷ b ∷ c ∷ []) e = absurd (omega arith)
number_l-from_le_bytes (a ∷ b ∷ c ∷ d ∷ []) e = absurd (omega arith)
number_l-from_le_bytes (a ∷ b ∷ c ∷ d ∷ f ∷ []) e = absurd (omega arith)
number_l-from_le_bytes (a ∷ b ∷ c ∷ d ∷ f ∷ g ∷ []) e = absurd (omega arith)
number_l-from_le_bytes (a ∷ b ∷ c ∷ d ∷ f ∷ g ∷ h ∷ []) e = absurd (omega arith)
number_l-from_le_bytes (a ∷ b ∷ c ∷ d ∷ f ∷ g ∷ h ∷ i ∷ []) e = omega arith
number_l-from_le_bytes (a ∷ b ∷ c ∷ d ∷ f ∷ g ∷ h ∷ i ∷ j ∷ xs) e = absurd (omega arith)

-- the bits of a word that was read from a place on
pub bit_at-read : (bytes word : List ℕ) (at : ℕ) → length word ≡ 8 → AreBytes word
    → ((k : ℕ) → k < 8 → get_or word k 0 ≡ get_or bytes (at + k) 0)
    → (i : ℕ) → i < 64 → bit_at (from_le_bytes w64 word) i ≡ bit_of bytes (8 * at + i)
bit_at-read bytes word at long small same i l =
    let q : at + i / 8 ≡ (8 * at + i) / 8 = omega arith in
    let r : i % 8 ≡ (8 * at + i) % 8 = omega arith in
    ap (λ n. bit_at n i) (number_l-from_le_bytes word long) ∙ bit_at-number_l word small i
    ∙ ap (λ n. bit_at n (i % 8)) (same (i / 8) (omega arith)) ∙ ap₂ (λ m n. bit_at (get_or bytes m 0) n) q r

-- ---- bytes of a word

bit_at-byte : (word k r : ℕ) → k < 8 → r < 8 → bit_at (get_or (to_le_bytes w64 word) k 0) r ≡ bit_at word (8 * k + r)
bit_at-byte word zero r k l = bit_at_low word 8 r l ∙ ap (bit_at word) (omega arith)
bit_at-byte word (suc zero) r k l = bit_at_low (word / 2 ^ 8) 8 r l ∙ bit_at_shr word 8 r
bit_at-byte word (suc (suc zero)) r k l = bit_at_low (word / 2 ^ 16) 8 r l ∙ bit_at_shr word 16 r
bit_at-byte word (suc (suc (suc zero))) r k l = bit_at_low (word / 2 ^ 24) 8 r l ∙ bit_at_shr word 24 r
bit_at-byte word (suc (suc (suc (suc zero)))) r k l = bit_at_low (word / 2 ^ 32) 8 r l ∙ bit_at_shr word 32 r
bit_at-byte word (suc (suc (suc (suc (suc zero))))) r k l = bit_at_low (word / 2 ^ 40) 8 r l ∙ bit_at_shr word 40 r
bit_at-byte word (suc (suc (suc (suc (suc (suc zero)))))) r k l = bit_at_low (word / 2 ^ 48) 8 r l ∙ bit_at_shr word 48 r
bit_at-byte word (suc (suc (suc (suc (suc (suc (suc zero))))))) r k l = bit_at_low (word / 2 ^ 56) 8 r l ∙ bit_at_shr word 56 r
bit_at-byte word (suc (suc (suc (suc (suc (suc (suc (suc k)))))))) r l m = absurd (omega arith)

-- bytes that end with those of a word from a place on
pub puts_word : (at word : ℕ) (old new tail : List ℕ) → at + length new ≡ length old
    → length (take at old ++ (new ++ tail)) ≡ length old
    → ((k : ℕ) → k < 8 → k < length new → get_or new k 0 ≡ get_or (to_le_bytes w64 word) k 0)
    → PutsWord at word old (take at old ++ (new ++ tail))
puts_word at word old new tail long whole same = record {
  inside = λ i l fits.
      let q : (8 * at + i) / 8 ≡ at + i / 8 = omega arith in
      let r : (8 * at + i) % 8 ≡ i % 8 = omega arith in
      let back : at + i / 8 - at ≡ i / 8 = omega arith in
      let place : 8 * (i / 8) + i % 8 ≡ i = omega arith in
      let front : length (take at old) ≡ at = omega (arith, length-take at old) in
      let byte : get_or (take at old ++ (new ++ tail)) (at + i / 8) 0 ≡ get_or (to_le_bytes w64 word) (i / 8) 0 =
      get_or-append_right (take at old) (new ++ tail) at (at + i / 8) 0 front (omega arith)
      ∙ ap (λ n. get_or (new ++ tail) n 0) back
      ∙ get_or_append_left new tail 0 (i / 8) (omega arith)
      ∙ same (i / 8) (omega arith) (omega arith) in
      ap₂ (λ m n. bit_at (get_or (take at old ++ (new ++ tail)) m 0) n) q r
      ∙ ap (λ n. bit_at n (i % 8)) byte ∙ bit_at-byte word (i / 8) (i % 8) (omega arith) (omega arith) ∙ ap (bit_at word) place;
  below = λ i l.
      let front : length (take at old) ≡ at = omega (arith, length-take at old) in
      ap (λ n. bit_at n (i % 8)) (get_or_append_left (take at old) (new ++ tail) 0 (i / 8) (omega arith) ∙ get_or-take at old (i / 8) 0 (omega arith));
}
