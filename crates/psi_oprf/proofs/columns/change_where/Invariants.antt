use Rattle.std.proofs.Common.{◌≡◌, ◌<◌, ◌≤◌, ℕ, cond, nat_eq, length}
use Rattle.psi_spec.specs.Bits.{bit_of, xor}
use Rattle.psi_spec.specs.Matrices.{IsMatrix, column_of}
use Rattle.psi_oprf.proofs.columns.change_where.Given as goal

-- the columns so far are changed where their bit says so, and the others stay
abbrev pub invariant-loop-c : goal.invariant-loop-c
invariant-loop-c l = record {
  rows : l.columns.rows ≡ l.fn.columns.rows;
  done : (k : ℕ) → k < l.c → column_of l.columns k
      ≡ cond (nat_eq (bit_of l.choice k) (cond l.bit 1 0)) (xor (column_of l.fn.columns k) (column_of l.by k)) (column_of l.fn.columns k);
  rest : (k : ℕ) → l.c ≤ k → k < 512 → column_of l.columns k ≡ column_of l.fn.columns k;
  begun : l.c ≡ 0 → l.columns ≡ l.fn.columns;
  count : 0 < l.c → length l.columns.columns ≡ 512;
  first : 0 < l.c → IsMatrix l.fn.columns;
  by : 0 < l.c → IsMatrix l.by;
}
