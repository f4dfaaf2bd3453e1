use Rattle.std.proofs.Common.{refl, ◌<◌, ◌^◌, arith}
use Rattle.psi_words.specs.Words.{number_of}
use Rattle.psi_words.proofs.WordValues.{stash_parts, parse_number}
use Rattle.psi_words.proofs.values.number_of_stash_count.Goals as goal

pub unwrap-requires : goal.unwrap-requires
unwrap-requires c =
    let word = c.args.word.now in
    let parts = stash_parts word c.requires in
    let small : number_of word < 2 ^ 8 = let high = parts.1 in omega arith in
    rw (parse_number 8 2 word c.parse.result c.parse.ensures.value.0 parts.0 small) refl
