use Rattle.std.proofs.Common.{◌≡◌, ◌<◌, ◌*◌, ℕ, [], get_or}
use Rattle.psi_spec.specs.Bits.{bit_of}
use Rattle.psi_spec.specs.Columns.{column_bytes}
use Rattle.psi_spec.specs.Matrices.{column_of}
use Rattle.psi_lanes.specs.Strips.{IsBytes}
use Rattle.psi_lanes.proofs.flips_back.flip_back.Given as goal

-- the columns have the bits of the strips so far
abbrev pub invariant-strips : goal.invariant-strips
invariant-strips l = record {
  rows : l.columns.rows ≡ l.fn.columns.rows;
  bits : (k j : ℕ) → k < 512 → j < 64 * l.strip → j < 8 * column_bytes l.fn.columns.rows
      → bit_of (column_of l.columns k) j ≡ bit_of (get_or l.rows j []) k;
  whole : (k : ℕ) → k < 512 → 0 < l.strip → IsBytes (column_bytes l.fn.columns.rows) (column_of l.columns k);
}
