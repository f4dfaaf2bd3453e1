use Rattle.std.proofs.Common.{◌∙◌, List, ℕ, take, ap}
use Rattle.std.specs.List.{concat}
use Rattle.psi_spec.specs.Frames.{layout, tags_frame}
use Rattle.psi_frames.specs.Boxes.{with_added}
use Rattle.psi_sender.proofs.Making.{block_of-cut}
use Rattle.psi_sender.proofs.answer.put_block.Goals as goal

pub returns : goal.returns
returns c =
    let cut : List ℕ → List ℕ = λ tag. take c.args.tag_length tag in
    let bytes = c.join_tags.ensures ∙ ap concat (block_of-cut cut c.args.tags.now c.args.block c.min-end.result c.min-end.ensures) in
    c.put.ensures ∙ ap (λ (joined : List ℕ). with_added (layout (tags_frame c.args.list c.args.block joined)) c.args.outbox.now) bytes
