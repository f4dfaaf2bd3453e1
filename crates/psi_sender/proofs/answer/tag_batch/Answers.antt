use Rattle.std.proofs.Common.{◌∙◌}
use Rattle.std.specs.Simd.Lanes.{zip2}
use Rattle.psi_spec.specs.Formulas.{padded_tag}
use Rattle.psi_sender.specs.Answering.{flipped_word}
use Rattle.psi_sender.proofs.Making.{zip2-nested}
use Rattle.psi_sender.proofs.answer.tag_batch.Goals as goal

pub returns : goal.returns
returns c =
    let formula = padded_tag c.args.deal.now.key c.args.deal.now.tag_length in
    c.tags.ensures
    ∙ ((λ i. zip2 (padded_tag (c.key.ensures i) (c.tag_length.ensures i)) c.args.rows.now (c.put_words.ensures i))
    ∙ ((λ i. zip2 formula c.args.rows.now (zip2 (flipped_word (c.choice.ensures i) c.args.opened.now) c.args.rows.now c.args.codes.now))
    ∙ zip2-nested formula (flipped_word c.args.deal.now.choice c.args.opened.now) c.args.rows.now c.args.codes.now))
