use Rattle.std.proofs.Common.{[], slice_index_or}
use Rattle.sha2.specs.Sha256.{word_at}
use Rattle.psi_lanes.proofs.Each.{eight}
use Rattle.psi_lanes.proofs.schedules.words_at.Goals as goal

pub returns-clause-value : goal.returns-clause-value
returns-clause-value c =
    eight (λ j. word_at (slice_index_or c.args.blocks.now j []) c.args.at) _ _ _ _ _ _ _ _
    c.word_at.ensures c.word_at-2.ensures c.word_at-3.ensures c.word_at-4.ensures
    c.word_at-5.ensures c.word_at-6.ensures c.word_at-7.ensures c.word_at-8.ensures
