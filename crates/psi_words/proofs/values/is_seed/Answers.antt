use Rattle.psi_words.proofs.WordValues.{decoded_sized}
use Rattle.std.proofs.Common.{◌∙◌, ap}
use Rattle.std.specs.Result.{is_ok}
use Rattle.psi_words.proofs.values.is_seed.Goals as goal

pub returns : goal.returns
returns c = c.is_ok.ensures.value ∙ ap (λ r. is_ok r) c.from_hex.ensures ∙ decoded_sized c.args.word.now
