use Rattle.std.proofs.Common.{◌≡◌, ◌<◌, ℕ}
use Rattle.psi_spec.specs.Columns.{row_of}
use Rattle.psi_spec.specs.Matrices.{column_of}
use Rattle.psi_bits.proofs.flips.flip_back_plain.Given as goal

-- the columns so far
abbrev pub invariant-loop-c : goal.invariant-loop-c
invariant-loop-c l = record {
  rows : l.columns.rows ≡ l.fn.columns.rows;
  done : (k : ℕ) → k < l.c → column_of l.columns k ≡ row_of l.rows k;
}
