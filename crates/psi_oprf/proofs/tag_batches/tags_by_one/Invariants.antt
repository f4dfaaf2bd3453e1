use Rattle.std.proofs.Common.{◌≡◌, take}
use Rattle.std.specs.Simd.Lanes.{zip2}
use Rattle.psi_spec.specs.Formulas.{padded_tag}
use Rattle.psi_oprf.proofs.tag_batches.tags_by_one.Given as goal

-- the tags so far
abbrev pub invariant-loop-i : goal.invariant-loop-i
invariant-loop-i l = take l.i l.out ≡ zip2 (padded_tag l.key l.tag_length) (take l.i l.rows) (take l.i l.words)
