use Rattle.psi_log.proofs.Lawful.{records_read_back}
use Rattle.psi_log.proofs.laws.reading.Goals as goal

pub returns : goal.returns
returns c = records_read_back
