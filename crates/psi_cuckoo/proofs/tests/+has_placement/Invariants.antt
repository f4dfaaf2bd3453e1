use Rattle.std.proofs.Common.{◌<◌, length}
use Rattle.psi_cuckoo.proofs.tests.+has_placement.Given as goal

abbrev pub decreases-has_placement : goal.decreases-has_placement
decreases-has_placement l = length l.cands.now

-- one item fewer is left
abbrev pub invariant-loop-bin : goal.invariant-loop-bin
invariant-loop-bin l = length l.rest < length l.cands
