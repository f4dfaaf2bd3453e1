-- What stands in a matrix when a borrow of a part of it ends.
use Rattle.std.specs.Prelude.{ℕ, List, ◌++◌, take, drop, length, slice_set}
use Rattle.std.specs.Borrow.{Lends, MutBor, Fml, Array, u8}
use Rattle.psi_spec.specs.Matrices.{Matrix, column_of, with_column}
use Rattle.psi_bits.specs.contracts.words.Word512.{the_row as word_row}
use Rattle.psi_bits.specs.contracts.rows.Rows.{the_row as rows_row}
use Rattle.psi_bits.specs.contracts.columns.Columns.{the_row as columns_row}

-- bytes that were written over others: a slice keeps its length, so what is missing is taken from there, and what is
-- more is cut off
abbrev pub refilled : List ℕ → List ℕ → List ℕ
refilled old bytes = take (length old) (bytes ++ drop (length bytes) old)

-- the matrix ends with the last bytes behind r as its column c
abbrev pub LendsColumn : MutBor Matrix → ℕ → MutBor (List ℕ) → Fml
LendsColumn m c r =
    Lends columns_row (Array u8 0) m r (λ bytes. with_column m.now c (refilled (column_of m.now c) bytes))

-- the rows end with the last value behind r as row j
abbrev pub LendsRow : MutBor (List (List ℕ)) → ℕ → MutBor (List ℕ) → Fml
LendsRow rows j r = Lends rows_row word_row rows r (slice_set rows.now j)

-- the rows end with the last values behind r, as many as there were
abbrev pub LendsRows : MutBor (List (List ℕ)) → MutBor (List (List ℕ)) → Fml
LendsRows rows r =
    Lends rows_row (Array word_row 0) rows r
    (λ words. take (length rows.now) (words ++ drop (length words) rows.now))
