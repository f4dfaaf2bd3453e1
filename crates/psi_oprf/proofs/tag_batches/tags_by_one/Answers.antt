use Rattle.std.proofs.Common.{◌≡◌, [], ◌∷◌, ◌++◌, length, slice_index, slice_index_or, take, sym, ◌∙◌, ap, ap₂, arith}
use Rattle.std.specs.Simd.Lanes.{zip2}
use Rattle.std.proofs.lemmas.List.{length-take-le, take_more, take_more_set}
use Rattle.psi_spec.specs.Formulas.{padded_tag}
use Rattle.psi_spec.proofs.Lists.{zip2-append}
use Rattle.psi_oprf.proofs.tag_batches.tags_by_one.Goals as goal

pub loop-i-preserved : goal.loop-i-preserved
loop-i-preserved c =
    let i = c.loop-i.i in
    let rows = c.args.rows.now in
    let words = c.args.words.now in
    let none = c.index-words-i.result in
    let out = c.loop-i.out in
    let formula = padded_tag c.args.key.now c.args.tag_length in
    let kept = c.loop-i.auto.out in
    let as_many : length (take i rows) ≡ length (take i words) = length-take-le i rows (omega arith) ∙ sym (length-take-le i words (omega arith)) in
    let made = c.own_tag.ensures ∙ ap (formula (slice_index rows i)) c.index-words-i.is in
    take_more_set out i c.own_tag.result (omega arith)
    ∙ (ap₂ (λ l t. l ++ t ∷ []) c.loop-i.invariant made
    ∙ sym (ap₂ (zip2 formula) (take_more rows i 0 (omega arith)) (take_more words i none (omega arith))
    ∙ zip2-append formula (take i rows) (slice_index rows i ∷ []) (take i words) (slice_index_or words i none ∷ []) as_many))
