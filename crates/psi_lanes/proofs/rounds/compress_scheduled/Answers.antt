use Rattle.std.proofs.Common.{refl}
use Rattle.sha2.specs.Sha256.{rounds}
use Rattle.psi_lanes.proofs.rounds.compress_scheduled.Goals as goal

pub returns-clause-value : goal.returns-clause-value
unfolding rounds
returns-clause-value c j lt b held = c.finished.ensures.value j lt b held refl
