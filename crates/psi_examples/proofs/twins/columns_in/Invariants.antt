use Rattle.std.proofs.Common.{◌≡◌}
use Rattle.psi_spec.specs.Matrices.{IsCleanMatrix}
use Rattle.psi_examples.proofs.twins.columns_in.Given as goal

-- both matrices keep their rows, and are clean
abbrev pub invariant-loop-c : goal.invariant-loop-c
invariant-loop-c g l = record {
  zeros : l.zeros.rows ≡ l.rows;
  ones : l.ones.rows ≡ l.rows;
  zeros_clean : IsCleanMatrix l.zeros;
  ones_clean : IsCleanMatrix l.ones;
}
