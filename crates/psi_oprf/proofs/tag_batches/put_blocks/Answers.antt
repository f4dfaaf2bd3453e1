use Rattle.std.proofs.Common.{ℕ, List, [], slice_index, slice_index_or, ◌∙◌, subst, arith}
use Rattle.std.proofs.lemmas.List.{get_or_default, length-set}
use Rattle.psi_lanes.specs.Digests.{IsTwoBlocks}
use Rattle.psi_oprf.specs.Messages.{tag_message}
use Rattle.psi_oprf.proofs.Written.{two_written}
use Rattle.psi_oprf.proofs.tag_batches.put_blocks.Goals as goal

pub loop-j-preserved : goal.loop-j-preserved
loop-j-preserved c =
    let firsts = c.loop-j.first in
    let seconds = c.loop-j.second in
    let j = c.loop-j.j in
    let words = c.args.words.now in
    let long_first = c.loop-j.invariant.long_first in
    let long_second = c.loop-j.invariant.long_second in
    let word = c.to_bytes-word.ensures ∙ (c.index-words-j.is ∙ get_or_default words j c.index-words-j.result [] (omega arith)) in
    record {
      long_first = length-set firsts j _ ∙ long_first;
      long_second = length-set seconds j _ ∙ long_second;
      blocks = two_written (λ k first second. IsTwoBlocks (tag_message c.args.key.now (slice_index c.args.rows.now k) (slice_index_or words k [])) first second)
          firsts seconds j _ _ (omega arith) (omega arith)
          (subst (λ (w : List ℕ). IsTwoBlocks (tag_message c.args.key.now (slice_index c.args.rows.now j) w) c.put_tag_blocks.new.first c.put_tag_blocks.new.second) word c.put_tag_blocks.ensures)
          c.loop-j.invariant.blocks;
    }
