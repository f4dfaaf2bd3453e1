use Rattle.std.proofs.Common.{◌+◌, arith}
use Rattle.psi_lanes.proofs.Scheduling.{scheduled_at}
use Rattle.psi_lanes.proofs.rounds.step.Goals as goal

pub returns-clause-value : goal.returns-clause-value
returns-clause-value c j lt b h held =
    let t = c.args.t in
    let more = c.extend.ensures j lt b held.0 in
    (scheduled_at (t + 16 + 1) (t + 1 + 16) b _ (omega arith) more, c.round_at.ensures.value j lt b h (scheduled_at (t + 16 + 1) (t + 1) b _ (omega arith) more) held.1)
