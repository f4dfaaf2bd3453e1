use Rattle.std.proofs.Common.{ap, ◌∙◌, arith}
use Rattle.sha2.specs.Sha256.{add_state, compress, rounds, schedule}
use Rattle.psi_lanes.specs.Lanes.{lane}
use Rattle.psi_lanes.proofs.rounds.finished.Goals as goal

pub returns-clause-value : goal.returns-clause-value
unfolding compress
returns-clause-value c j lt b held before =
    let h = lane j c.args.h.now in
    let after = c.loop-turn.invariant.value j lt b held before ∙ ap (rounds h (schedule b 48)) (omega arith) in
    c.add_state.ensures.value j lt ∙ ap (add_state h) after
