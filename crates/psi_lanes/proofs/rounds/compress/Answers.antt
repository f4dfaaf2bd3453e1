use Rattle.std.proofs.Common.{◌+◌, ◌*◌, refl, ap, ◌∙◌, arith}
use Rattle.sha2.specs.Sha256.{rounds, schedule}
use Rattle.psi_lanes.specs.Lanes.{lane}
use Rattle.psi_lanes.proofs.Scheduling.{after_rounds_at, scheduled_at}
use Rattle.psi_lanes.proofs.rounds.compress.Goals as goal

pub loop-turn-init : goal.loop-turn-init
unfolding rounds
loop-turn-init c = record { lanes = c.requires.h; value = λ j lt b held. (held, refl) }

pub loop-turn-preserved : goal.loop-turn-preserved
loop-turn-preserved c = record {
  lanes = c.four_steps-v.ensures.lanes;
  value = λ j lt b held.
      after_rounds_at b (lane j c.args.h.now) _ _ _ _ (omega arith) (c.four_steps-v.ensures.value j lt b (lane j c.args.h.now) (c.loop-turn.invariant.value j lt b held));
}

pub returns-clause-value : goal.returns-clause-value
returns-clause-value c j lt b held =
    let before = c.loop-turn.invariant.value j lt b held in
    c.finished.ensures.value j lt b (scheduled_at (4 * c.loop-turn.turn + 16) 64 b _ (omega arith) before.0)
    (before.1 ∙ ap (rounds (lane j c.args.h.now) (schedule b 48)) (omega arith))
