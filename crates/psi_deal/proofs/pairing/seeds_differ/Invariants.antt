use Rattle.std.proofs.Common.{◌≡◌, drop}
use Rattle.psi_spec.specs.Deals.{chosen_from}
use Rattle.psi_deal.specs.Differences.{differ_from}
use Rattle.psi_deal.specs.Pairs.{pairs_of}
use Rattle.psi_deal.proofs.pairing.seeds_differ.Given as goal

-- the seeds so far agree
abbrev pub invariant-loop-c : goal.invariant-loop-c
invariant-loop-c l = differ_from 0 (chosen_from l.choice 0 (pairs_of l.pairs)) l.seeds ≡ differ_from l.c (drop l.c (chosen_from l.choice 0 (pairs_of l.pairs))) (drop l.c l.seeds)
