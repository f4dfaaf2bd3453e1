use Rattle.std.proofs.Common.{refl, ◌<◌, ◌^◌, arith}
use Rattle.psi_words.specs.Words.{number_of}
use Rattle.psi_words.proofs.WordValues.{tag_length_parts, parse_number}
use Rattle.psi_words.proofs.values.number_of_tag_length.Goals as goal

pub unwrap-requires : goal.unwrap-requires
unwrap-requires c =
    let word = c.args.word.now in
    let parts = tag_length_parts word c.requires in
    let small : number_of word < 2 ^ 8 = let high = parts.2 in omega arith in
    rw (parse_number 8 2 word c.parse.result c.parse.ensures.value.0 parts.0 small) refl
