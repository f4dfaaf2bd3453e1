use Rattle.std.proofs.Common.{◌≡◌, length, map, take}
use Rattle.psi_spec.specs.Columns.{column}
use Rattle.psi_spec.specs.Deals.{chosen_seed}
use Rattle.psi_deal.specs.Pairs.{pairs_of}
use Rattle.psi_deal.proofs.receiver.put_columns.Given as goal

-- the columns so far
abbrev pub invariant-loop-c : goal.invariant-loop-c
invariant-loop-c l = record {
  rows : l.out.rows ≡ l.fn.out.rows;
  count : length l.out.columns ≡ 512;
  made : take l.c l.out.columns ≡ map (λ pair. column (chosen_seed l.which pair) l.session l.fn.out.rows) (pairs_of (take l.c l.pairs));
}
