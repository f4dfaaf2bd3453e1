-- Why bytes are no column.
use Rattle.std.specs.Prelude.{ℕ, ◌/◌, ◌==◌, not, List, length, slice_index, Option, Some, None, if◌then◌else◌}
use Rattle.psi_spec.specs.Columns.{column_bytes}
use Rattle.psi_spec.specs.Matrices.{has_padding}
use Rattle.psi_bits.specs.declared.columns.BadColumn.{BadColumn}
use Rattle.psi_bits.specs.declared.columns.BadColumn.TheVariants.{Length, Padding}

-- what is wrong with bytes as a column of so many rows: their count, else a padding bit of the last byte
abbrev pub bad_column : ℕ → List ℕ → Option BadColumn
bad_column rows bytes =
    if not (length bytes == column_bytes rows) then Some (Length (length bytes))
    else if has_padding rows bytes then Some (Padding (slice_index bytes (rows / 8)))
    else None
