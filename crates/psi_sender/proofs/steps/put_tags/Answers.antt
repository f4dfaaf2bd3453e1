use Rattle.std.proofs.Common.{map, take, ap, ◌∙◌}
use Rattle.psi_spec.specs.Frames.{layout}
use Rattle.psi_spec.specs.Streams.{block_frame}
use Rattle.psi_frames.specs.Boxes.{with_added}
use Rattle.psi_sender.proofs.steps.put_tags.Goals as goal

pub returns-clause-outbox : goal.returns-clause-outbox
returns-clause-outbox c =
    let tags = (λ i. map (λ tag. take (c.tag_length.ensures i) tag) (c.deref.ensures.value i)) ∙ c.ready_tags.ensures.made in
    c.put_block.ensures ∙ (λ i. with_added (layout (block_frame c.args.list (tags i) c.args.block)) ((ap (λ m. m.outbox) c.ready_tags.ensures.memory) i))
