use Rattle.std.proofs.Common.{◌≡◌, ◌<◌, ◌≤◌, ◌+◌, ◌*◌, ℕ, get_or}
use Rattle.psi_spec.specs.Columns.{column_bytes}
use Rattle.psi_spec.specs.Matrices.{column_of}
use Rattle.psi_lanes.specs.Strips.{IsBytes, PutsWord}
use Rattle.psi_lanes.proofs.flips_back.store_columns.Given as goal

-- the columns of the group so far have their words, and the others are as they were
abbrev pub invariant-loop-i : goal.invariant-loop-i
invariant-loop-i l = record {
  rows : l.columns.rows ≡ l.fn.columns.rows;
  puts : (k : ℕ) → k < l.i
      → PutsWord l.at (get_or l.tile k 0) (column_of l.fn.columns (64 * l.group + k)) (column_of l.columns (64 * l.group + k));
  whole : (k : ℕ) → k < l.i → IsBytes (column_bytes l.fn.columns.rows) (column_of l.columns (64 * l.group + k));
  below : (k : ℕ) → k < 64 * l.group → column_of l.columns k ≡ column_of l.fn.columns k;
  rest : (k : ℕ) → 64 * l.group + l.i ≤ k → column_of l.columns k ≡ column_of l.fn.columns k;
}
