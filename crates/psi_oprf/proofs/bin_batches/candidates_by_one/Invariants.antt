use Rattle.std.proofs.Common.{◌≡◌, map, take}
use Rattle.psi_oprf.specs.Candidates.{digest_candidates}
use Rattle.psi_oprf.proofs.bin_batches.candidates_by_one.Given as goal

-- the bins so far
abbrev pub invariant-loop-i : goal.invariant-loop-i
invariant-loop-i l = take l.i l.out ≡ map (digest_candidates l.key l.bins) (take l.i l.digests)
