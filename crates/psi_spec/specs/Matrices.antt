-- Matrices of bits by columns, and columns whose padding is clean.
use Rattle.std.specs.Prelude.{◌≡◌, ◌≤◌, ◌<◌, ℕ, ◌/◌, ◌%◌, ◌^◌, ◌==◌, ◌&&◌, Bool, not, List, [], length, replicate, slice_index, slice_index_or, slice_set, nat_le, All}
use Rattle.psi_spec.specs.Bits.{bit_of}
use Rattle.psi_spec.specs.Columns.{column_bytes}
use Rattle.psi_spec.specs.Limits.{row_limit}

-- 512 columns, each of as few bytes as hold a bit for each of so many rows
pub record AreColumns (rows : ℕ) (columns : List (List ℕ)) : Type 0 where
  pub count : length columns ≡ 512
  pub long : All (λ column. length column ≡ column_bytes rows) columns

-- a matrix of columns: a row count, and the bytes of each column
pub record Matrix : Type 0 where
  pub rows : ℕ
  pub columns : List (List ℕ)

-- a matrix has 512 columns of its rows, of which there are 1 to 1,258,308
pub record IsMatrix (m : Matrix) : Type 0 where
  pub least : 1 ≤ m.rows
  pub most : m.rows ≤ row_limit
  pub columns : AreColumns m.rows m.columns

-- the bytes of column c
abbrev pub column_of : Matrix → ℕ → List ℕ
column_of m c = slice_index_or m.columns c []

-- the matrix with these bytes as column c
abbrev pub with_column : Matrix → ℕ → List ℕ → Matrix
with_column m c bytes = record m { columns = slice_set m.columns c bytes }

-- the matrix of zero bits
unfoldable pub zero_matrix : ℕ → Matrix
zero_matrix rows = record { rows = rows; columns = replicate 512 (replicate (column_bytes rows) 0) }

-- a column is clean where every bit from `rows` on is zero
abbrev pub IsClean : ℕ → List ℕ → Type 0
IsClean rows column = (j : ℕ) → rows ≤ j → bit_of column j ≡ 0

-- a clean column of so many rows: its size, and no bit set past them
pub record IsColumn (rows : ℕ) (column : List ℕ) : Type 0 where
  pub size : length column ≡ column_bytes rows
  pub bytes : (i : ℕ) → slice_index column i < 2 ^ 8
  pub padding : IsClean rows column

-- 512 clean columns of so many rows
pub record IsColumnSet (rows : ℕ) (columns : List (List ℕ)) : Type 0 where
  pub count : length columns ≡ 512
  pub each : All (IsColumn rows) columns

-- a matrix is clean where its columns are
abbrev pub IsCleanMatrix : Matrix → Type 0
IsCleanMatrix m = (c : ℕ) → c < 512 → IsClean m.rows (column_of m c)

-- whether a bit from `rows` on is set in the last byte of a column
abbrev pub has_padding : ℕ → List ℕ → Bool
has_padding rows bytes = not (rows % 8 == 0) && nat_le (2 ^ (rows % 8)) (slice_index bytes (rows / 8))
