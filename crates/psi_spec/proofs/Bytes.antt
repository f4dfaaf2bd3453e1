-- Lists whose elements are bytes.
use Rattle.std.proofs.Common.{◌≡◌, ◌^◌, ◌<◌, ℕ, List, length, get_or, sym, subst, arith}
use Rattle.std.proofs.lemmas.Nat.{xor_lt, and_le_r}
use Rattle.psi_spec.specs.Bits.{xor, both}
use Rattle.psi_spec.proofs.Xor.{get_or-xor, get_or-both}
use Rattle.psi_spec.proofs.Packing.{AreBytes}

pub AreBytes-xor : (a b : List ℕ) → length a ≡ length b → AreBytes a → AreBytes b → AreBytes (xor a b)
AreBytes-xor a b l ha hb i = subst (λ (x : ℕ). x < 2 ^ 8) (sym (get_or-xor a b i l)) (xor_lt 8 (get_or a i 0) (get_or b i 0) (ha i) (hb i))

pub AreBytes-both : (a b : List ℕ) → AreBytes b → AreBytes (both a b)
AreBytes-both a b hb i = omega (arith, get_or-both a b i, and_le_r (get_or a i 0) (get_or b i 0), hb i)
