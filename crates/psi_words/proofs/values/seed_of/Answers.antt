use Rattle.std.proofs.Common.{◌∙◌, ap, sym}
use Rattle.std.specs.Result.{is_ok}
use Rattle.psi_words.proofs.WordValues.{decoded_sized, decoded_seed}
use Rattle.psi_words.proofs.values.seed_of.Goals as goal

pub unwrap-requires : goal.unwrap-requires
unwrap-requires c = ap (λ r. is_ok r) c.from_hex.ensures ∙ decoded_sized c.args.word.now ∙ c.requires

pub returns : goal.returns
returns c = decoded_seed c.args.word.now c.unwrap.result c.requires (sym c.from_hex.ensures ∙ c.unwrap.ensures)
