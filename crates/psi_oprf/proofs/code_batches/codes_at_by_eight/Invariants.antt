use Rattle.std.proofs.Common.{◌≡◌, ◌*◌, take}
use Rattle.std.specs.Simd.Lanes.{zip2}
use Rattle.psi_spec.specs.Formulas.{code}
use Rattle.psi_oprf.proofs.code_batches.codes_at_by_eight.Given as goal

-- the codes so far
abbrev pub invariant-loop-turn : goal.invariant-loop-turn
invariant-loop-turn l = take (8 * l.turn) l.out ≡ zip2 (code l.key) (take (8 * l.turn) l.indices) (take (8 * l.turn) l.digests)
