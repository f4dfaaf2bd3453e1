use Rattle.std.proofs.Common.{◌∙◌, ◌++◌, ap, codes}
use Rattle.std.specs.Prelude.{decimal}
use Rattle.psi_texts.proofs.texts.Line.about_crowd.Goals as goal

pub returns : goal.returns
returns c =
    c.with-2.ensures.text ∙ ap (λ t. t ++ codes " bins\n")
    (c.with_number-2.ensures.text ∙ ap (λ n. c.with.result.text.bytes ++ decimal n) c.from.ensures
    ∙ ap (λ t. t ++ decimal c.args.touched)
    (c.with.ensures.text ∙ ap (λ t. t ++ codes " items touch ")
    (c.with_number.ensures.text ∙ ap (λ t. t ++ decimal c.args.count) c.about_word.ensures.text)))
