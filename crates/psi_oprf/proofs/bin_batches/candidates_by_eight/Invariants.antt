use Rattle.std.proofs.Common.{◌≡◌, ◌*◌, map, take}
use Rattle.psi_oprf.specs.Candidates.{digest_candidates}
use Rattle.psi_oprf.proofs.bin_batches.candidates_by_eight.Given as goal

-- the bins so far
abbrev pub invariant-loop-turn : goal.invariant-loop-turn
invariant-loop-turn l = take (8 * l.turn) l.out ≡ map (digest_candidates l.key l.bins) (take (8 * l.turn) l.digests)
