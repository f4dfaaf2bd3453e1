use Rattle.std.proofs.Common.{◌∙◌, sym, ap, ◌&&◌, ◌≡◌, true, nat_lt, ◌^◌}
use Rattle.psi_words.specs.Words.{are_digits, number_of}
use Rattle.psi_words.proofs.WordValues.{has_digits, parse_fits}
use Rattle.psi_words.proofs.values.is_session.Goals as goal

pub returns-then-are_digits : goal.returns-then-are_digits
returns-then-are_digits c =
    let word = c.args.word.now in
    let digits : are_digits 20 word ≡ true = sym c.are_digits.ensures ∙ c.if-are_digits.true in
    c.is_ok.ensures.value ∙ parse_fits 64 20 word _ c.parse.ensures.value.0 (has_digits 20 word digits) ∙ sym (ap (λ b. b && nat_lt (number_of word) (2 ^ 64)) digits)
