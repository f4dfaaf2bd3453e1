use Rattle.psi_log.proofs.Lawful.{written_in_pieces}
use Rattle.psi_log.proofs.laws.writing.Goals as goal

pub returns : goal.returns
returns c = written_in_pieces
