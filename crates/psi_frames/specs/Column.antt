-- Columns: their fields, and what they say.
use Rattle.std.specs.Prelude.{◌≡◌, ◌+◌, ◌*◌, ◌/◌, ℕ, false, List, [], ◌∷◌, length, slice_index, Some, None, if◌then◌else◌}
use Rattle.std.specs.Int.{w16}
use Rattle.psi_spec.specs.Columns.{column_bytes}
use Rattle.psi_spec.specs.Matrices.{has_padding}
use Rattle.psi_spec.specs.Frames.{Field, column_head}
use Rattle.psi_frames.specs.declared.reasons.Reason.{Reason}
use Rattle.psi_frames.specs.declared.reasons.Reason.TheVariants as reason
use Rattle.psi_frames.specs.Fields.{index_field}

abbrev pub column_kind : ℕ
column_kind = 3

-- the length of its payload: an index, and a bit for each row
abbrev pub column_length : ℕ → ℕ
column_length rows = 2 + column_bytes rows

abbrev pub column_field : ℕ → Field Reason
column_field rows = record {
  size = column_bytes rows;
  refuse = λ bytes.
      if has_padding rows bytes then Some (reason.Padding (slice_index bytes (rows / 8)))
      else None;
}

-- the fields of its payload
abbrev pub column_fields : ℕ → ℕ → List (Field Reason)
column_fields index rows = index_field w16 index ∷ column_field rows ∷ []

-- the bytes of the frames of 512 columns of so many rows
abbrev pub columns_size : ℕ → ℕ
columns_size rows = 512 * (column_head + column_bytes rows)

-- a column is the one with this index, has a bit for each row, and none behind the last
pub record IsColumnOf (index rows place : ℕ) (bytes : List ℕ) : Type 0 where
  pub index_is : place ≡ index
  pub long : length bytes ≡ column_bytes rows
  pub clean : has_padding rows bytes ≡ false
