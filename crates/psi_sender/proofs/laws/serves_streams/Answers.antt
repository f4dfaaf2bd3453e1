use Rattle.psi_sender.proofs.Serving.{serves_nothing_else, serves_streams}
use Rattle.psi_sender.proofs.laws.serves_streams.Goals as goal

pub returns-clause-streams : goal.returns-clause-streams
returns-clause-streams c = serves_streams

pub returns-clause-only : goal.returns-clause-only
returns-clause-only c = serves_nothing_else
