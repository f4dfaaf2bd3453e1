use Rattle.std.proofs.Common.{◌∙◌, ap}
use Rattle.psi_words.specs.Words.{is_seed}
use Rattle.psi_local.proofs.MakeWords.{trial_words}
use Rattle.psi_local.proofs.trial.trial_deals.Goals as goal

pub seed_of-seed-requires : goal.seed_of-seed-requires
seed_of-seed-requires c =
    ap is_seed c.word_at.ensures ∙ (trial_words c.args.words.now c.requires.fit).seed
