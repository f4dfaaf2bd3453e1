use Rattle.std.proofs.Common.{◌≡◌, ◌+◌, ◌*◌, ◌++◌, length, take, sym, ◌∙◌, ap, ap₂, arith}
use Rattle.std.specs.Simd.Lanes.{zip2}
use Rattle.std.proofs.lemmas.List.{length-take-le}
use Rattle.std.proofs.lemmas.Simd.{length-zip2}
use Rattle.std.proofs.lemmas.Slice.{take-put_mid}
use Rattle.psi_spec.specs.Formulas.{padded_tag}
use Rattle.psi_oprf.proofs.Eights.{eight_from, length-eight_from, take_eight}
use Rattle.psi_spec.proofs.Lists.{zip2-append}
use Rattle.psi_oprf.proofs.tag_batches.tags_by_eight.Goals as goal

pub loop-turn-preserved : goal.loop-turn-preserved
loop-turn-preserved c =
    let at = 8 * c.loop-turn.turn in
    let next = 8 * (c.loop-turn.turn + 1) in
    let rows = c.args.rows.now in
    let words = c.args.words.now in
    let out = c.loop-turn.out in
    let formula = padded_tag c.args.key.now c.args.tag_length in
    let some_rows = eight_from rows at in
    let some_words = eight_from words at in
    let long_rows = length-eight_from rows at (omega arith) in
    let long_words = length-eight_from words at (omega arith) in
    let made = c.eight_tags.ensures in
    let eight : length c.eight_tags.new.out ≡ 8 =
    ap length made ∙ (length-zip2 formula some_rows some_words (long_rows ∙ sym long_words) ∙ long_rows) in
    let kept = c.loop-turn.auto.out in
    let as_many : length (take at rows) ≡ length (take at words) = length-take-le at rows (omega arith) ∙ sym (length-take-le at words (omega arith)) in
    take-put_mid at _ out c.eight_tags.new.out next (omega arith) (omega arith)
    ∙ (ap₂ (λ x y. x ++ y) c.loop-turn.invariant made
    ∙ sym (ap₂ (zip2 formula) (take_eight rows at next (omega arith)) (take_eight words at next (omega arith))
    ∙ zip2-append formula (take at rows) some_rows (take at words) some_words as_many))
