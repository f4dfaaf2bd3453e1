use Rattle.psi_receiver.proofs.Hearing.{hears_nothing_else, hears_streams}
use Rattle.psi_receiver.proofs.laws.hears_streams.Goals as goal

pub returns-clause-streams : goal.returns-clause-streams
returns-clause-streams c = hears_streams

pub returns-clause-only : goal.returns-clause-only
returns-clause-only c = hears_nothing_else
