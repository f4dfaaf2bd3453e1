-- Columns: what their bytes spell, and which are right.
use Rattle.std.proofs.Common.{◌≡◌, ◌<◌, ◌≤◌, ◌+◌, ◌/◌, ◌^◌, ◌∙◌, ℕ, Bool, false, cond, get_or, List, [], ◌∷◌, ◌++◌, length, take, drop, Some, None, refl, sym, ap, arith, length-drop}
use Rattle.std.specs.Int.{w16, to_be_bytes, from_be_bytes}
use Rattle.std.proofs.lemmas.List.{take-append-drop, length-take-le, take_all}
use Rattle.std.proofs.lemmas.Nat.{be_bytes_2, from_be_bytes-to_be_bytes_2}
use Rattle.psi_spec.specs.Columns.{column_bytes}
use Rattle.psi_spec.specs.Matrices.{has_padding}
use Rattle.psi_spec.specs.Frames.{AreBytes, first_wrong}
use Rattle.psi_spec.proofs.Frames.{AreBytes-take, first_right, first_wrong-more}
use Rattle.psi_frames.specs.declared.reasons.Reason.TheVariants as reason
use Rattle.psi_frames.specs.Fields.{index_field}
use Rattle.psi_frames.specs.Column.{IsColumnOf, column_field, column_fields}
use Rattle.psi_frames.proofs.Headers.{failed, last_right, number_right, right_number, small_2}

-- the payload of a column in which nothing is wrong
pub spelled_column : (index rows : ℕ) (bytes : List ℕ) → AreBytes bytes → length bytes ≡ 2 + column_bytes rows → first_wrong (column_fields index rows) bytes ≡ None
    → (to_be_bytes w16 index ++ drop 2 bytes ≡ bytes) × (index < 2 ^ 16) × IsColumnOf index rows index (drop 2 bytes)
spelled_column index rows bytes small long right =
    let two : 2 ≤ length bytes = omega (arith, long) in
    let at_index = first_right (index_field w16 index) (column_field rows ∷ []) bytes two right in
    let is_index : from_be_bytes w16 (take 2 bytes) ≡ index = right_number (λ found. reason.Index found index) index (from_be_bytes w16 (take 2 bytes)) at_index.0 in
    let size : length (drop 2 bytes) ≡ column_bytes rows = omega (arith, long, length-drop 2 bytes) in
    let at_column = first_right (column_field rows) [] (drop 2 bytes) (omega (arith, size)) at_index.1 in
    let all : take (column_bytes rows) (drop 2 bytes) ≡ drop 2 bytes = take_all (column_bytes rows) (drop 2 bytes) (omega (arith, size)) in
    let clean : has_padding rows (take (column_bytes rows) (drop 2 bytes)) ≡ false = failed (has_padding rows (take (column_bytes rows) (drop 2 bytes))) _ at_column.0 in
    let bound = small_2 (take 2 bytes) (AreBytes-take 2 bytes small) in (
      ap (λ (xs : List ℕ). xs ++ drop 2 bytes) (be_bytes_2 (take 2 bytes) index (length-take-le 2 bytes two) (AreBytes-take 2 bytes small) (sym is_index)) ∙ take-append-drop 2 bytes,
      omega (arith, bound, is_index),
      record { index_is = refl; long = size; clean = sym (ap (has_padding rows) all) ∙ clean },
    )

-- a column with the expected parts is right
pub column_right : (index rows place : ℕ) (bytes : List ℕ) → place < 2 ^ 16 → IsColumnOf index rows place bytes → first_wrong (column_fields index rows) (to_be_bytes w16 place ++ bytes) ≡ None
column_right index rows place bytes small parts =
    let same : from_be_bytes w16 (to_be_bytes w16 place) ≡ index = from_be_bytes-to_be_bytes_2 place small ∙ parts.index_is in
    let clean : (column_field rows).refuse bytes ≡ None = ap (λ (b : Bool). cond b (Some (reason.Padding (get_or bytes (rows / 8) 0))) None) parts.clean in
    first_wrong-more (index_field w16 index) (column_field rows ∷ []) (to_be_bytes w16 place) bytes refl (number_right (λ found. reason.Index found index) index _ same)
    (last_right (column_field rows) bytes parts.long clean)

-- the index of a column that is right is the expected one
pub column_of : (index rows place : ℕ) (bytes : List ℕ) → place < 2 ^ 16 → first_wrong (column_fields index rows) (to_be_bytes w16 place ++ bytes) ≡ None → index ≡ place
column_of index rows place bytes fits right =
    let at_index = first_right (index_field w16 index) (column_field rows ∷ []) (to_be_bytes w16 place ++ bytes) (omega arith) right in
    let is_index : from_be_bytes w16 (to_be_bytes w16 place) ≡ index = right_number (λ found. reason.Index found index) index _ at_index.0 in
    sym is_index ∙ from_be_bytes-to_be_bytes_2 place fits
