use Rattle.std.proofs.Common.{◌≡◌, ◌<◌, ◌++◌, drop}
use Rattle.psi_spec.specs.Changes.{joined_columns}
use Rattle.psi_spec.specs.Matrices.{IsMatrix}
use Rattle.psi_twin.proofs.hiding.columns_file.Given as goal

-- what was written and what is left are the file
abbrev pub invariant-loop-c : goal.invariant-loop-c
invariant-loop-c l = record {
  written : l.bytes.items ++ joined_columns (drop l.c l.zeros.columns) (drop l.c l.ones.columns)
      ≡ joined_columns l.zeros.columns l.ones.columns;
  zeros : 0 < l.c → IsMatrix l.zeros;
  ones : 0 < l.c → IsMatrix l.ones;
}
