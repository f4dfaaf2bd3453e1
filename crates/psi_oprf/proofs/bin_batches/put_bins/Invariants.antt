use Rattle.std.proofs.Common.{◌≡◌, ◌<◌, ℕ, [], slice_index_or}
use Rattle.psi_oprf.specs.Candidates.{bins_in}
use Rattle.psi_oprf.proofs.bin_batches.put_bins.Given as goal

-- the bins so far
abbrev pub invariant-loop-j : goal.invariant-loop-j
invariant-loop-j l = (k : ℕ) → k < l.j → slice_index_or l.out k [] ≡ bins_in l.bins (slice_index_or l.hashes k [])
