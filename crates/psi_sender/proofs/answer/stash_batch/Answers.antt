use Rattle.std.proofs.Common.{◌∙◌, ap, length}
use Rattle.std.specs.Simd.Lanes.{zip2}
use Rattle.psi_sender.specs.Answering.{word_tag}
use Rattle.std.proofs.lemmas.List.{take-replicate}
use Rattle.psi_sender.proofs.Making.{zip2-replicate}
use Rattle.psi_sender.proofs.answer.stash_batch.Goals as goal

pub returns : goal.returns
returns c =
    let size = length c.args.out.now in
    let formula = word_tag c.args.deal.now c.args.opened.now in
    c.tag_batch.ensures
    ∙ (ap (λ rows. zip2 formula rows c.args.stored.now) (take-replicate size 64 c.args.row c.requires.few)
    ∙ zip2-replicate formula size c.args.row c.args.stored.now c.requires.stored)
