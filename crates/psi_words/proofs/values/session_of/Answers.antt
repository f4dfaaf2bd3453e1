use Rattle.std.proofs.Common.{refl}
use Rattle.psi_words.proofs.WordValues.{session_parts, parse_number}
use Rattle.psi_words.proofs.values.session_of.Goals as goal

pub unwrap-requires : goal.unwrap-requires
unwrap-requires c =
    let word = c.args.word.now in
    let parts = session_parts word c.requires in
    rw (parse_number 64 20 word c.parse.result c.parse.ensures.value.0 parts.0 parts.1) refl
