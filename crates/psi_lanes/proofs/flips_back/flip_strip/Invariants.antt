use Rattle.std.proofs.Common.{◌≡◌, ◌<◌, ◌≤◌, ◌+◌, ◌*◌, ℕ, [], get_or}
use Rattle.psi_spec.specs.Bits.{bit_of}
use Rattle.psi_spec.specs.Columns.{column_bytes}
use Rattle.psi_spec.specs.Matrices.{column_of}
use Rattle.psi_lanes.specs.Strips.{IsBytes}
use Rattle.psi_lanes.proofs.flips_back.flip_strip.Given as goal

-- the columns of the groups so far have their bits, and the others are as they were
abbrev pub invariant-groups : goal.invariant-groups
invariant-groups l = record {
  rows : l.columns.rows ≡ l.fn.columns.rows;
  inside : (k j : ℕ) → k < 64 * l.group → j < 64 → 8 * l.at + j < 8 * column_bytes l.fn.columns.rows
      → bit_of (column_of l.columns k) (8 * l.at + j) ≡ bit_of (get_or l.strip j []) k;
  below : (k j : ℕ) → k < 64 * l.group → j < 8 * l.at → bit_of (column_of l.columns k) j ≡ bit_of (column_of l.fn.columns k) j;
  whole : (k : ℕ) → k < 64 * l.group → IsBytes (column_bytes l.fn.columns.rows) (column_of l.columns k);
  rest : (k : ℕ) → 64 * l.group ≤ k → column_of l.columns k ≡ column_of l.fn.columns k;
}
