-- Columns that are clean: no bit is set from the row count on.
use Rattle.std.proofs.Common.{◌≡◌, ◌+◌, ◌*◌, ◌/◌, ◌%◌, ◌^◌, ◌<◌, ◌≤◌, ◌&&◌, ℕ, Bool, true, false, not, List, [], length, get_or, nat_eq, nat_le, refl, sym, ap, ◌∙◌, subst, arith, ⊎_elim}
use Rattle.std.specs.Int.{bit_at}
use Rattle.std.proofs.lemmas.Bool.{cases_lt, cases_eq, eqb-true, eqb-false, leb-true, leb-false, false≢true}
use Rattle.std.proofs.lemmas.List.{get_or_past}
use Rattle.std.proofs.lemmas.Nat.{pow_pos, mod_below}
use Rattle.std.proofs.lemmas.Nat.Bits.{bit_at-zero, bit_at_above, same_from_bits}
use Rattle.psi_spec.specs.Bits.{bit_of, xor}
use Rattle.psi_spec.specs.Columns.{column_bytes, column, row_of}
use Rattle.psi_spec.specs.Matrices.{IsClean, has_padding}
use Rattle.psi_spec.specs.Laws.{PaddingIsSeen, ColumnsAreClean, RowsTurnColumns, ColumnsTurnBack}
use Rattle.psi_spec.proofs.Packing.{AreBytes, AreBytes-row_of, bit_of-row_of, same_from_bits_of}
use Rattle.psi_spec.proofs.ColumnSets.{length-row_of_words}
use Rattle.psi_spec.proofs.Xor.{bit_of-xor}
use Rattle.psi_spec.proofs.KeyStream.{bit_at_low, bit_at_cleared, bit_of_past, length-column, bit_of-column, bit_of-column_above}

-- ---- padding bits

-- the last byte, where it has padding bits
abbrev last : ℕ → List ℕ → ℕ
last rows bytes = get_or bytes (rows / 8) 0

pub clean_from_padding : (rows : ℕ) (bytes : List ℕ) → length bytes ≡ column_bytes rows → has_padding rows bytes ≡ false → IsClean rows bytes
clean_from_padding rows bytes long none j l = by_case (nat_eq (rows % 8) 0) (nat_le (2 ^ (rows % 8)) (last rows bytes)) refl refl none
  where
    by_case : (whole high : Bool) → nat_eq (rows % 8) 0 ≡ whole → nat_le (2 ^ (rows % 8)) (last rows bytes) ≡ high → (not whole && high) ≡ false → bit_of bytes j ≡ 0
    by_case true high w h none = let r : rows % 8 ≡ 0 = eqb-true (rows % 8) 0 w in bit_of_past bytes j (omega arith)
    by_case false true w h none = absurd (false≢true (sym none))
    by_case false false w h none =
        let r : rows % 8 ≡ 0 → ⊥ = eqb-false (rows % 8) 0 w in
        let small : last rows bytes < 2 ^ (rows % 8) = leb-false (2 ^ (rows % 8)) (last rows bytes) h in
        ⊎_elim
        (λ (e : j / 8 ≡ rows / 8). ap (λ (k : ℕ). bit_at (get_or bytes k 0) (j % 8)) e ∙ bit_at_above (last rows bytes) (rows % 8) (j % 8) small (omega arith))
        (λ (ne : j / 8 ≡ rows / 8 → ⊥). bit_of_past bytes j (omega arith))
        (cases_eq (j / 8) (rows / 8))

-- the last byte of a clean column is below the power of two that its padding begins with
small_last : (rows : ℕ) (bytes : List ℕ) → AreBytes bytes → IsClean rows bytes → last rows bytes < 2 ^ (rows % 8)
small_last rows bytes small clean =
    let k : ℕ = rows % 8 in
    let byte : ℕ = last rows bytes in
    let same : byte % 2 ^ k ≡ byte = same_from_bits (byte % 2 ^ k) byte (λ i.
    ⊎_elim
    (λ (l : i < k). bit_at_low byte k i l)
    (λ (l : k ≤ i). bit_at_cleared byte k i l ∙ sym (⊎_elim
    (λ (m : i < 8).
    let q : (8 * (rows / 8) + i) / 8 ≡ rows / 8 = omega arith in
    let r : (8 * (rows / 8) + i) % 8 ≡ i = omega arith in
    let zero : bit_of bytes (8 * (rows / 8) + i) ≡ 0 = clean (8 * (rows / 8) + i) (omega arith) in
    rw (q, r) at zero)
    (λ (m : 8 ≤ i). bit_at_above byte 8 i (small (rows / 8)) m)
    (cases_lt i 8)))
    (cases_lt i k)) in
    subst (λ (b : ℕ). b < 2 ^ k) same (mod_below byte (2 ^ k) (pow_pos k))

pub padding_from_clean : (rows : ℕ) (bytes : List ℕ) → AreBytes bytes → IsClean rows bytes → has_padding rows bytes ≡ false
padding_from_clean rows bytes small clean = by_case (nat_eq (rows % 8) 0) (nat_le (2 ^ (rows % 8)) (last rows bytes)) refl refl
  where
    by_case : (whole high : Bool) → nat_eq (rows % 8) 0 ≡ whole → nat_le (2 ^ (rows % 8)) (last rows bytes) ≡ high → (not whole && high) ≡ false
    by_case true high w h = refl
    by_case false false w h = refl
    by_case false true w h =
        let low : last rows bytes < 2 ^ (rows % 8) = small_last rows bytes small clean in
        let high : 2 ^ (rows % 8) ≤ last rows bytes = leb-true (2 ^ (rows % 8)) (last rows bytes) h in
        absurd (omega arith)

pub padding_is_seen : PaddingIsSeen
padding_is_seen rows bytes small long = (clean_from_padding rows bytes long, padding_from_clean rows bytes small)

-- ---- what is clean

pub clean-column : (seed : List ℕ) (session rows : ℕ) → IsClean rows (column seed session rows)
clean-column seed session rows j l = bit_of-column_above seed session rows j l

pub clean-xor : (rows : ℕ) (a b : List ℕ) → length a ≡ length b → IsClean rows a → IsClean rows b → IsClean rows (xor a b)
clean-xor rows a b l ca cb j m = bit_of-xor a b j l ∙ (let x = ca j m in let y = cb j m in omega arith)

pub clean-row_of : (rows : ℕ) (words : List (List ℕ)) (c : ℕ) → length words ≤ rows → IsClean rows (row_of words c)
clean-row_of rows words c l j m =
    bit_of-row_of words c j ∙ ap (λ (word : List ℕ). bit_of word c) (get_or_past words j [] (omega arith)) ∙ bit_at-zero (c % 8)

-- ---- laws

pub rows_turn_columns : RowsTurnColumns
rows_turn_columns columns j c = bit_of-row_of columns j c

pub columns_turn_back : ColumnsTurnBack
columns_turn_back columns words c are is =
    same_from_bits_of (row_of words c) (get_or columns c []) (length-row_of_words words c ∙ sym is.size) (AreBytes-row_of words c) is.bytes
    (λ j l. bit_of-row_of words c j ∙ ⊎_elim
    (λ (within : j < length words). ap (λ (word : List ℕ). bit_of word c) (are j within) ∙ bit_of-row_of columns j c)
    (λ (past : length words ≤ j).
    ap (λ (word : List ℕ). bit_of word c) (get_or_past words j [] past) ∙ (bit_at-zero (c % 8) ∙ sym (is.padding j past)))
    (cases_lt j (length words)))

pub columns_are_clean : ColumnsAreClean
columns_are_clean seed session rows = record {
  long = length-column seed session rows;
  bits = λ j n l within. bit_of-column seed session rows n j l within;
  clean = clean-column seed session rows;
}
