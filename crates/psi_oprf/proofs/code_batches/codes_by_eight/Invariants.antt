use Rattle.std.proofs.Common.{◌≡◌, ◌*◌, map, take}
use Rattle.psi_spec.specs.Formulas.{code}
use Rattle.psi_oprf.proofs.code_batches.codes_by_eight.Given as goal

-- the codes so far
abbrev pub invariant-loop-turn : goal.invariant-loop-turn
invariant-loop-turn l = take (8 * l.turn) l.out ≡ map (code l.key l.index) (take (8 * l.turn) l.digests)
