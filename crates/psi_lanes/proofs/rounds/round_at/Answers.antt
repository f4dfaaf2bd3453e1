use Rattle.std.proofs.Common.{refl, arith}
use Rattle.psi_lanes.specs.Lanes.{lane}
use Rattle.psi_lanes.specs.Rounds.{word_list}
use Rattle.psi_lanes.proofs.Scheduling.{round_next, word_list-at}
use Rattle.psi_lanes.proofs.rounds.round_at.Goals as goal

pub returns-clause-value : goal.returns-clause-value
returns-clause-value c j lt b h held before =
    let words = c.args.w.now in
    round_next b h (word_list j words) (lane j c.args.v) _ c.args.t _ _ before refl
    (word_list-at j c.args.t words c.index-w-t.result (omega arith)) held (c.round.ensures.value j lt)
