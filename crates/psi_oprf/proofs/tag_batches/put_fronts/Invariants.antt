use Rattle.std.proofs.Common.{◌≡◌, ◌<◌, ℕ, [], slice_index_or, take}
use Rattle.psi_spec.specs.Formulas.{padded}
use Rattle.psi_oprf.proofs.tag_batches.put_fronts.Given as goal

-- the tags so far
abbrev pub invariant-loop-j : goal.invariant-loop-j
invariant-loop-j l = (k : ℕ) → k < l.j → slice_index_or l.tags k [] ≡ padded l.tag_length (take l.tag_length (slice_index_or l.digests k []))
