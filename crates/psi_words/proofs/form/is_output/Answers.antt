use Rattle.std.proofs.Common.{◌≡◌, ◌∙◌, sym, ap, false}
use Rattle.std.specs.Str.{bytes_eq}
use Rattle.psi_words.specs.Words.{word_at}
use Rattle.psi_words.proofs.Forms.{is_among-later}
use Rattle.psi_words.proofs.form.is_output.Goals as goal

pub loop-place-preserved : goal.loop-place-preserved
loop-place-preserved c =
    let words = c.args.words.now in
    let word = c.word_at-word.result.now in
    let place = c.loop-place.place in
    let other : bytes_eq (word_at words place) word ≡ false =
    ap (λ n. bytes_eq (word_at words n) word) (sym c.from.ensures)
    ∙ ap (λ w. bytes_eq w word) (sym c.word_at.ensures) ∙ sym c.eq.ensures ∙ c.if-eq.false in
    c.loop-place.invariant ∙ is_among-later words word place c.args.to c.loop-place-test.true other
