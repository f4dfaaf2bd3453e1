use Rattle.std.proofs.Common.{◌≡◌, ◌<◌, ◌≤◌, ℕ, length}
use Rattle.psi_spec.specs.Bits.{xor}
use Rattle.psi_spec.specs.Matrices.{IsMatrix, column_of}
use Rattle.psi_oprf.proofs.columns.xor_columns.Given as goal

-- the columns so far are changed, and the others stay
abbrev pub invariant-loop-c : goal.invariant-loop-c
invariant-loop-c l = record {
  rows : l.columns.rows ≡ l.fn.columns.rows;
  done : (k : ℕ) → k < l.c → column_of l.columns k ≡ xor (column_of l.fn.columns k) (column_of l.by k);
  rest : (k : ℕ) → l.c ≤ k → k < 512 → column_of l.columns k ≡ column_of l.fn.columns k;
  begun : l.c ≡ 0 → l.columns ≡ l.fn.columns;
  count : 0 < l.c → length l.columns.columns ≡ 512;
  first : 0 < l.c → IsMatrix l.fn.columns;
  by : 0 < l.c → IsMatrix l.by;
}
