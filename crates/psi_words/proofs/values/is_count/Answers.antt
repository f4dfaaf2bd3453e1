use Rattle.std.proofs.Common.{◌≡◌, ◌∙◌, sym, true, ◌^◌, ◌<◌, arith}
use Rattle.psi_words.specs.Words.{are_digits, number_of}
use Rattle.psi_words.proofs.WordValues.{has_digits, seven_digits, parse_number}
use Rattle.psi_words.proofs.values.is_count.Goals as goal

pub returns-in-Err : goal.returns-in-Err
returns-in-Err c =
    let word = c.args.word.now in
    let digits : are_digits 7 word ≡ true = sym c.are_digits.ensures ∙ c.if-not-are_digits.false in
    let has = has_digits 7 word digits in
    let small : number_of word < 2 ^ 32 = let s = seven_digits word has in omega arith in
    let ok = parse_number 32 7 word c.parse.result c.parse.ensures.value.0 has small in
    cc (ok, c.in-Err.is)
