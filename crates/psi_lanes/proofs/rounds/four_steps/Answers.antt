use Rattle.std.proofs.Common.{arith}
use Rattle.psi_lanes.proofs.Scheduling.{after_rounds_at}
use Rattle.psi_lanes.proofs.rounds.four_steps.Goals as goal

pub returns-clause-value : goal.returns-clause-value
returns-clause-value c j lt b h held =
    let first = c.step-v.ensures.value j lt b h held in
    let second = c.step-v-2.ensures.value j lt b h first in
    let third = c.step-v-3.ensures.value j lt b h (after_rounds_at b h _ _ _ _ (omega arith) second) in
    let fourth = c.step.ensures.value j lt b h (after_rounds_at b h _ _ _ _ (omega arith) third) in
    after_rounds_at b h _ _ _ _ (omega arith) fourth
