use Rattle.std.proofs.Common.{◌∙◌, ap₂}
use Rattle.psi_words.specs.Words.{is_part}
use Rattle.psi_local.proofs.MakeWords.{trial_words}
use Rattle.psi_local.proofs.trial.trial_steps.Goals as goal

pub counts_of-count-requires : goal.counts_of-count-requires
counts_of-count-requires g c =
    ap₂ is_part c.word_at.ensures c.word_at-2.ensures ∙ (trial_words c.args.words.now c.requires.fit).counts
