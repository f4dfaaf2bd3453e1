use Rattle.std.proofs.Common.{◌≡◌, ◌/◌, ◌*◌, ◌++◌, length, take, drop, sym, ◌∙◌, ap₂, arith}
use Rattle.std.specs.Simd.Lanes.{zip2}
use Rattle.std.proofs.lemmas.List.{length-take-le, take-append-drop}
use Rattle.psi_spec.specs.Formulas.{padded_tag}
use Rattle.psi_spec.proofs.Lists.{zip2-append}
use Rattle.psi_oprf.proofs.tag_batches.tags.Goals as goal

pub returns : goal.returns
returns c =
    let formula = padded_tag c.args.key.now c.args.tag_length in
    let rows = c.args.rows.now in
    let words = c.args.words.now in
    let eights = length c.args.out.now / 8 * 8 in
    let as_many : length (take eights rows) ≡ length (take eights words) = length-take-le eights rows (omega arith) ∙ sym (length-take-le eights words (omega arith)) in
    let first = c.tags_by_eight.ensures ∙ ap₂ (zip2 formula) c.split_at.ensures.front c.split_at-2.ensures.front in
    let last = c.tags_by_one.ensures ∙ ap₂ (zip2 formula) c.split_at.ensures.back c.split_at-2.ensures.back in
    ap₂ (λ x y. x ++ y) first last
    ∙ (sym (zip2-append formula (take eights rows) (drop eights rows) (take eights words) (drop eights words) as_many)
    ∙ ap₂ (zip2 formula) (take-append-drop eights rows) (take-append-drop eights words))
