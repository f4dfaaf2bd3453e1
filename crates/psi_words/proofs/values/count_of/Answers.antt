use Rattle.std.proofs.Common.{refl, ◌<◌, ◌^◌, arith}
use Rattle.psi_words.specs.Words.{number_of}
use Rattle.psi_words.proofs.WordValues.{count_parts, parse_number}
use Rattle.psi_words.proofs.values.count_of.Goals as goal

pub unwrap-requires : goal.unwrap-requires
unwrap-requires c =
    let word = c.args.word.now in
    let parts = count_parts word c.requires in
    let small : number_of word < 2 ^ 32 = let high = parts.1 in omega arith in
    rw (parse_number 32 7 word c.parse.result c.parse.ensures.value.0 parts.0 small) refl
