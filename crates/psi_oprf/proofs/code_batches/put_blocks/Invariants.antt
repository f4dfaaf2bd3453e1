use Rattle.std.proofs.Common.{◌≡◌, ◌<◌, ℕ, [], length, slice_index, slice_index_or}
use Rattle.psi_lanes.specs.Digests.{IsTwoBlocks}
use Rattle.psi_oprf.specs.Messages.{code_message}
use Rattle.psi_oprf.specs.declared.messages.TheConstants.{CODE_END}
use Rattle.psi_oprf.proofs.code_batches.put_blocks.Given as goal

-- the blocks so far
abbrev pub invariant-loop-j : goal.invariant-loop-j
invariant-loop-j l = record {
  long : length l.blocks ≡ 8;
  blocks : (k : ℕ) → k < l.j
      → IsTwoBlocks (code_message l.key (slice_index l.indices k) l.half (slice_index_or l.digests k [])) (slice_index_or l.blocks k []) CODE_END;
}
