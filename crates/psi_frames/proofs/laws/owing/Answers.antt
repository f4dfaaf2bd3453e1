use Rattle.psi_frames.proofs.Readings.{owed_grows, owes_all, owes_on}
use Rattle.psi_frames.proofs.laws.owing.Goals as goal

pub returns-clause-all : goal.returns-clause-all
returns-clause-all c = owes_all

pub returns-clause-on : goal.returns-clause-on
returns-clause-on c = owes_on

pub returns-clause-grows : goal.returns-clause-grows
returns-clause-grows c = owed_grows
