use Rattle.std.proofs.Common.{◌≡◌, ◌∙◌, ap, true, arith}
use Rattle.std.proofs.lemmas.Grind.{common_steps}
use Rattle.std.specs.List.{after_first, list_any}
use Rattle.psi_words.specs.Words.{is_stash_count, is_stroke}
use Rattle.psi_words.proofs.WordValues.{sizes_parts}
use Rattle.psi_words.proofs.values.sizes_of.Goals as goal

pub number_of_stash_count-requires : goal.number_of_stash_count-requires
number_of_stash_count-requires c =
    let word = c.args.word.now in
    let stroke : list_any is_stroke word ≡ true = grind (arith, common_steps) in
    let count : c.in-Some.count.now ≡ after_first is_stroke word = grind (arith, common_steps) in
    ap is_stash_count count ∙ (sizes_parts word c.requires stroke).1
