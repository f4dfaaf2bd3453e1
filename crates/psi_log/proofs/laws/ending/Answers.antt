use Rattle.psi_spec.proofs.Records.{wires_end}
use Rattle.psi_log.proofs.laws.ending.Goals as goal

pub returns : goal.returns
returns c = wires_end
