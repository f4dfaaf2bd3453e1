-- Matrices of which one column is written.
use Rattle.std.proofs.Common.{◌≡◌, ◌≢◌, ◌/◌, ◌<◌, ◌∙◌, ℕ, Bool, true, false, not, cond, All, List, [], ◌++◌, Some, None, length, take, drop, get_or, set, nat_eq, refl, sym, ap, subst, arith, append-nil, ⊎_elim}
use Rattle.std.specs.Prelude.{Vec}
use Rattle.std.specs.Global.{Global}
use Rattle.std.proofs.lemmas.Bool.{cases_eq, eqb-true}
use Rattle.std.proofs.lemmas.List.{get_or-map, length-map, length-set, length-append, length-drop, length-take-le, get_or-set_same, get_or-set_other, take_all, drop_all}
use Rattle.psi_spec.specs.Columns.{column_bytes}
use Rattle.psi_spec.specs.Matrices.{Matrix, IsMatrix, IsClean, IsCleanMatrix, column_of, with_column, has_padding}
use Rattle.psi_spec.proofs.Clean.{clean_from_padding}
use Rattle.psi_bits.specs.declared.columns.BadColumn.TheVariants.{Length, Padding}
use Rattle.psi_bits.specs.BadColumns.{bad_column}
use Rattle.psi_bits.specs.Shape.{columns_of}
use Rattle.psi_bits.specs.Lending.{refilled}

-- ---- columns in vectors

-- a column of the list that contracts see is the one in its vector
pub columns_of-items : (columns : List (Vec ℕ Global)) (c : ℕ) (x : Vec ℕ Global) → c < length columns → x ≡ get_or columns c x → get_or (columns_of columns) c [] ≡ x.items
columns_of-items columns c x l e = get_or-map (λ (v : Vec ℕ Global). v.items) columns c x [] l ∙ ap (λ (v : Vec ℕ Global). v.items) (sym e)

-- ---- bytes that were written over

pub refilled_whole : (old bytes : List ℕ) → length bytes ≡ length old → refilled old bytes ≡ bytes
refilled_whole old bytes l =
    ap (λ (rest : List ℕ). take (length old) (bytes ++ rest)) (drop_all (length bytes) old (omega arith))
    ∙ (ap (take (length old)) (append-nil bytes) ∙ take_all (length old) bytes (omega arith))

pub length-refilled : (old bytes : List ℕ) → length (refilled old bytes) ≡ length old
length-refilled old bytes = length-take-le (length old) (bytes ++ drop (length bytes) old) (omega (arith, length-append bytes (drop (length bytes) old), length-drop (length bytes) old))

-- ---- one column is set

all_set : (P : List ℕ → Type 0) (columns : List (List ℕ)) (c : ℕ) (bytes : List ℕ) → All P columns → P bytes → All P (set columns c bytes)
all_set P columns c bytes h p k d l =
    ⊎_elim
    (λ (e : k ≡ c).
    let within : c < length columns = omega (arith, length-set columns c bytes) in
    subst (λ (i : ℕ). P (get_or (set columns c bytes) i d)) (sym e) (subst P (sym (get_or-set_same columns c bytes d within)) p))
    (λ (ne : k ≢ c). subst P (sym (get_or-set_other columns c k bytes d ne)) (h k d (omega (arith, length-set columns c bytes))))
    (cases_eq k c)

pub matrix_with_column : (m : Matrix) (c : ℕ) (bytes : List ℕ) → IsMatrix m → length bytes ≡ column_bytes m.rows → IsMatrix (with_column m c bytes)
matrix_with_column m c bytes h l = record {
  least = h.least;
  most = h.most;
  columns = record {
    count = length-set m.columns c bytes ∙ h.columns.count;
    long = all_set (λ column. length column ≡ column_bytes m.rows) m.columns c bytes h.columns.long l;
  };
}

pub clean_with_column : (m : Matrix) (c : ℕ) (bytes : List ℕ) → IsMatrix m → c < 512 → IsCleanMatrix m → IsClean m.rows bytes → IsCleanMatrix (with_column m c bytes)
clean_with_column m c bytes h l old clean k within =
    ⊎_elim
    (λ (e : k ≡ c). subst (λ (i : ℕ). IsClean m.rows (get_or (set m.columns c bytes) i [])) (sym e) (subst (IsClean m.rows) (sym (get_or-set_same m.columns c bytes [] (omega (arith, h.columns.count)))) clean))
    (λ (ne : k ≢ c). subst (IsClean m.rows) (sym (get_or-set_other m.columns c k bytes [] ne)) (old k within))
    (cases_eq k c)

-- ---- the column of a matrix

pub long_column : (m : Matrix) (c : ℕ) → IsMatrix m → c < 512 → length (column_of m c) ≡ column_bytes m.rows
long_column m c h l = h.columns.long c [] (omega (arith, h.columns.count))

-- each vector has its length
pub long_vectors : (columns : List (Vec ℕ Global)) (n : ℕ) → All (λ column. length column ≡ n) (columns_of columns) → All (λ v. length v.items ≡ n) columns
long_vectors columns n h k d l =
    let within : k < length (columns_of columns) = omega (arith, length-map columns (λ (v : Vec ℕ Global). v.items)) in
    ap length (sym (get_or-map (λ (v : Vec ℕ Global). v.items) columns k d [] l)) ∙ h k [] within

-- ---- bytes that are a column

pub column_from_no_fault : (rows : ℕ) (bytes : List ℕ) → bad_column rows bytes ≡ None → (length bytes ≡ column_bytes rows) × IsClean rows bytes
column_from_no_fault rows bytes none = by_case (nat_eq (length bytes) (column_bytes rows)) (has_padding rows bytes) refl refl none
  where
    by_case : (long padded : Bool) → nat_eq (length bytes) (column_bytes rows) ≡ long → has_padding rows bytes ≡ padded
        → cond (not long) (Some (Length (length bytes))) (cond padded (Some (Padding (get_or bytes (rows / 8) 0))) None) ≡ None
        → (length bytes ≡ column_bytes rows) × IsClean rows bytes
    by_case false padded l p none = cc
    by_case true true l p none = cc
    by_case true false l p none =
        let long : length bytes ≡ column_bytes rows = eqb-true (length bytes) (column_bytes rows) l in
        (long, clean_from_padding rows bytes long p)
