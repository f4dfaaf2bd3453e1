use Rattle.std.proofs.Common.{◌≡◌, ◌<◌, ◌++◌, ℕ, [], slice_index_or}
use Rattle.psi_oprf.proofs.code_batches.put_joined.Given as goal

-- the codes so far
abbrev pub invariant-loop-j : goal.invariant-loop-j
invariant-loop-j l = (k : ℕ) → k < l.j → slice_index_or l.out k [] ≡ slice_index_or l.low k [] ++ slice_index_or l.high k []
