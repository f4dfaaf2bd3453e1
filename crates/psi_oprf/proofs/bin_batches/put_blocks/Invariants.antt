use Rattle.std.proofs.Common.{◌≡◌, ◌<◌, ℕ, [], length, slice_index_or}
use Rattle.psi_lanes.specs.Digests.{IsTwoBlocks}
use Rattle.psi_oprf.specs.Messages.{bins_message}
use Rattle.psi_oprf.specs.declared.messages.TheConstants.{BINS_END}
use Rattle.psi_oprf.proofs.bin_batches.put_blocks.Given as goal

-- the blocks so far
abbrev pub invariant-loop-j : goal.invariant-loop-j
invariant-loop-j l = record {
  long : length l.blocks ≡ 8;
  blocks : (k : ℕ) → k < l.j → IsTwoBlocks (bins_message l.key (slice_index_or l.digests k [])) (slice_index_or l.blocks k []) BINS_END;
}
