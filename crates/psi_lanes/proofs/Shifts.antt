-- The bits of numbers moved up and down.
use Rattle.std.proofs.Common.{◌≡◌, ◌<◌, ◌≤◌, ℕ, ◌+◌, ◌-◌, ◌*◌, ◌/◌, ◌%◌, ◌^◌, sym, ◌∙◌, ap, arith}
use Rattle.std.specs.Int.{bit_at}
use Rattle.std.proofs.lemmas.Nat.Bits.{bit_at_cat_low, bit_at_cat_high, bit_at-zero}
use Rattle.std.proofs.lemmas.Nat.{shr-shr, pow_pos}
use Rattle.psi_spec.proofs.KeyStream.{bit_at_low}

-- bit j of a word moved down by k
pub bit_at_shr : (a k j : ℕ) → bit_at (a / 2 ^ k) j ≡ bit_at a (k + j)
bit_at_shr a k j = ap (λ n. n % 2) (shr-shr a k j)

-- bit k + j of a word moved up by k
pub bit_at_shl : (t w k j : ℕ) → k + j < w → bit_at (t * 2 ^ k % 2 ^ w) (k + j) ≡ bit_at t j
bit_at_shl t w k j small =
    let plain : t * 2 ^ k + 0 ≡ t * 2 ^ k = omega arith in
    let back : k + j - k ≡ j = omega arith in
    bit_at_low (t * 2 ^ k) w (k + j) small ∙ ap (λ m. bit_at m (k + j)) (sym plain)
    ∙ bit_at_cat_high t k 0 (k + j) (pow_pos k) (omega arith) ∙ ap (bit_at t) back

-- a lower bit is zero
pub bit_at_shl_low : (t w k j : ℕ) → j < k → k ≤ w → bit_at (t * 2 ^ k % 2 ^ w) j ≡ 0
bit_at_shl_low t w k j small fits =
    let plain : t * 2 ^ k + 0 ≡ t * 2 ^ k = omega arith in
    bit_at_low (t * 2 ^ k) w j (omega arith) ∙ ap (λ m. bit_at m j) (sym plain) ∙ bit_at_cat_low t k 0 j small ∙ bit_at-zero j
