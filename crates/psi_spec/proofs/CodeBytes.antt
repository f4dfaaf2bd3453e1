-- The elements of codes, and so of the words of rows, are bytes.
use Rattle.std.proofs.Common.{◌-◌, ◌^◌, ◌<◌, ◌≤◌, ℕ, suc, zero, Bool, true, false, cond, List, [], ◌∷◌, ◌++◌, length, replicate, get_or, codes, nat_eq, refl, sym, subst, arith, ⊎_elim}
use Rattle.std.specs.Int.{w32, to_be_bytes}
use Rattle.std.proofs.lemmas.Bool.{cases_lt}
use Rattle.std.proofs.lemmas.List.{get_or_append_left, get_or-append_right}
use Rattle.sha2.specs.Sha256.{sha256, digest_bytes, final_hash, initial_hash_256}
use Rattle.psi_spec.specs.Bits.{zero_word}
use Rattle.psi_spec.specs.Formulas.{item_digest, code_half, code}
use Rattle.psi_spec.specs.Meeting.{Placed, row_word}
use Rattle.psi_spec.proofs.Packing.{AreBytes}

pub AreBytes-append : (a b : List ℕ) → AreBytes a → AreBytes b → AreBytes (a ++ b)
AreBytes-append a b ha hb i =
    ⊎_elim
    (λ (l : i < length a). subst (λ (x : ℕ). x < 2 ^ 8) (sym (get_or_append_left a b 0 i l)) (ha i))
    (λ (l : length a ≤ i). subst (λ (x : ℕ). x < 2 ^ 8) (sym (get_or-append_right a b (length a) i 0 refl l)) (hb (i - length a)))
    (cases_lt i (length a))

AreBytes-zeros : (n : ℕ) → AreBytes (replicate n 0)
AreBytes-zeros zero i = omega arith
AreBytes-zeros (suc n) zero = omega arith
AreBytes-zeros (suc n) (suc i) = AreBytes-zeros n i

AreBytes-zero_word : AreBytes zero_word
unfolding zero_word
AreBytes-zero_word = AreBytes-zeros 64

AreBytes-to_be_bytes : (n : ℕ) → AreBytes (to_be_bytes w32 n)
AreBytes-to_be_bytes n zero = omega arith
AreBytes-to_be_bytes n (suc zero) = omega arith
AreBytes-to_be_bytes n (suc (suc zero)) = omega arith
AreBytes-to_be_bytes n (suc (suc (suc zero))) = omega arith
AreBytes-to_be_bytes n (suc (suc (suc (suc i)))) = omega arith

AreBytes-digest_bytes : (h : List ℕ) (n : ℕ) → AreBytes (digest_bytes h n)
unfolding digest_bytes
AreBytes-digest_bytes h zero = λ i. omega arith
AreBytes-digest_bytes h (suc n) =
    AreBytes-append (digest_bytes h n) (to_be_bytes w32 (get_or h n 0)) (AreBytes-digest_bytes h n) (AreBytes-to_be_bytes (get_or h n 0))

AreBytes-sha256 : (message : List ℕ) → AreBytes (sha256 message)
unfolding sha256
AreBytes-sha256 message = AreBytes-digest_bytes (final_hash initial_hash_256 message) 8

AreBytes-code : (key : List ℕ) (index : ℕ) (digest : List ℕ) → AreBytes (code key index digest)
unfolding code
AreBytes-code key index digest =
    AreBytes-append (code_half key index 0 digest) (code_half key index 1 digest)
    (AreBytes-sha256 (codes "psi-code" ++ key ++ index ∷ 0 ∷ [] ++ digest)) (AreBytes-sha256 (codes "psi-code" ++ key
    ++ index ∷ 1 ∷ [] ++ digest))

pub AreBytes-row_word : (key : List ℕ) (placed : List Placed) (row : ℕ) → AreBytes (row_word key placed row)
AreBytes-row_word key [] row = AreBytes-zero_word
AreBytes-row_word key (p ∷ placed) row = by_case (nat_eq p.slot.row row) (AreBytes-row_word key placed row)
  where
    by_case : (b : Bool) → AreBytes (row_word key placed row)
        → AreBytes (cond b (code key p.slot.index (item_digest p.item)) (row_word key placed row))
    by_case true later = AreBytes-code key p.slot.index (item_digest p.item)
    by_case false later = later
