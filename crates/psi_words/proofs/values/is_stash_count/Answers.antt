use Rattle.std.proofs.Common.{◌≡◌, ◌∙◌, sym, true, ◌^◌, ◌<◌, arith}
use Rattle.psi_words.specs.Words.{are_digits, number_of}
use Rattle.psi_words.proofs.WordValues.{has_digits, two_digits, parse_number}
use Rattle.psi_words.proofs.values.is_stash_count.Goals as goal

pub returns-in-Err : goal.returns-in-Err
returns-in-Err c =
    let word = c.args.word.now in
    let digits : are_digits 2 word ≡ true = sym c.are_digits.ensures ∙ c.if-not-are_digits.false in
    let has = has_digits 2 word digits in
    let small : number_of word < 2 ^ 8 = let s = two_digits word has in omega arith in
    let ok = parse_number 8 2 word c.parse.result c.parse.ensures.value.0 has small in
    cc (ok, c.in-Err.is)
