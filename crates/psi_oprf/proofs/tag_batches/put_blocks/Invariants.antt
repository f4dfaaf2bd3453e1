use Rattle.std.proofs.Common.{◌≡◌, ◌<◌, ℕ, [], length, slice_index, slice_index_or}
use Rattle.psi_lanes.specs.Digests.{IsTwoBlocks}
use Rattle.psi_oprf.specs.Messages.{tag_message}
use Rattle.psi_oprf.proofs.tag_batches.put_blocks.Given as goal

-- the blocks so far
abbrev pub invariant-loop-j : goal.invariant-loop-j
invariant-loop-j l = record {
  long_first : length l.first ≡ 8;
  long_second : length l.second ≡ 8;
  blocks : (k : ℕ) → k < l.j
      → IsTwoBlocks (tag_message l.key (slice_index l.rows k) (slice_index_or l.words k [])) (slice_index_or l.first k []) (slice_index_or l.second k []);
}
