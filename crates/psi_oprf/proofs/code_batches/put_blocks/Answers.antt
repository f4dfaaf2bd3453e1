use Rattle.std.proofs.Common.{[], slice_index, slice_index_or, ◌∙◌, arith}
use Rattle.std.proofs.lemmas.List.{length-set}
use Rattle.psi_lanes.specs.Digests.{IsTwoBlocks}
use Rattle.psi_oprf.specs.Messages.{code_message}
use Rattle.psi_oprf.specs.declared.messages.TheConstants.{CODE_END}
use Rattle.psi_oprf.proofs.Written.{one_written}
use Rattle.psi_oprf.proofs.code_batches.put_blocks.Goals as goal

pub loop-j-preserved : goal.loop-j-preserved
loop-j-preserved c =
    let blocks = c.loop-j.blocks in
    let j = c.loop-j.j in
    let long = c.loop-j.invariant.long in
    record {
      long = length-set blocks j _ ∙ long;
      blocks = one_written (λ k block. IsTwoBlocks (code_message c.args.key.now (slice_index c.args.indices.now k) c.args.half (slice_index_or c.args.digests.now k [])) block CODE_END)
          blocks j _ (omega arith) c.put_code_block.ensures c.loop-j.invariant.blocks;
    }
