use Rattle.std.proofs.Common.{◌∙◌, ap, ap₂}
use Rattle.psi_words.specs.Words.{is_part, is_session}
use Rattle.psi_local.proofs.MakeWords.{make_words}
use Rattle.psi_local.proofs.make.make_steps.Goals as goal

pub counts_of-count-requires : goal.counts_of-count-requires
counts_of-count-requires g c =
    ap₂ is_part c.word_at.ensures c.word_at-2.ensures ∙ (make_words c.args.words.now c.requires.fit).counts

pub session_of-number-requires : goal.session_of-number-requires
session_of-number-requires g c =
    ap is_session c.word_at-3.ensures ∙ (make_words c.args.words.now c.requires.fit).number
