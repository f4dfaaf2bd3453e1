use Rattle.psi_sender.proofs.Owing.{owes_by_what_came}
use Rattle.psi_sender.proofs.laws.owes_by_what_came.Goals as goal

pub returns : goal.returns
returns c = owes_by_what_came
