use Rattle.std.proofs.Common.{◌+◌, ap, ◌∙◌, arith}
use Rattle.sha2.specs.Sha256.{rounds, schedule}
use Rattle.psi_lanes.proofs.Scheduling.{scheduled_at}
use Rattle.psi_lanes.proofs.rounds.four_rounds.Goals as goal

pub returns-clause-value : goal.returns-clause-value
returns-clause-value c j lt b h held before =
    let t = c.args.t in
    let after = rounds h (schedule b 48) in
    let first = c.round_at-v.ensures.value j lt b h (scheduled_at 64 (t + 1) b _ (omega arith) held) before in
    let second = c.round_at-v-2.ensures.value j lt b h (scheduled_at 64 (t + 1 + 1) b _ (omega arith) held) first in
    let third = c.round_at-v-3.ensures.value j lt b h (scheduled_at 64 (t + 2 + 1) b _ (omega arith) held) (second ∙ ap after (omega arith)) in
    let fourth = c.round_at.ensures.value j lt b h (scheduled_at 64 (t + 3 + 1) b _ (omega arith) held) (third ∙ ap after (omega arith)) in
    fourth ∙ ap after (omega arith)
