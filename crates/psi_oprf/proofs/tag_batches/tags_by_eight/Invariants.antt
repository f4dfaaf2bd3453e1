use Rattle.std.proofs.Common.{◌≡◌, ◌*◌, take}
use Rattle.std.specs.Simd.Lanes.{zip2}
use Rattle.psi_spec.specs.Formulas.{padded_tag}
use Rattle.psi_oprf.proofs.tag_batches.tags_by_eight.Given as goal

-- the tags so far
abbrev pub invariant-loop-turn : goal.invariant-loop-turn
invariant-loop-turn l = take (8 * l.turn) l.out ≡ zip2 (padded_tag l.key l.tag_length) (take (8 * l.turn) l.rows) (take (8 * l.turn) l.words)
