use Rattle.psi_spec.proofs.Hiding.{sets_are_hidden, streams_are_over}
use Rattle.psi_spec.proofs.laws.sets_are_hidden.Goals as goal

pub returns-clause-hidden : goal.returns-clause-hidden
returns-clause-hidden c = sets_are_hidden

pub returns-clause-over : goal.returns-clause-over
returns-clause-over c = streams_are_over
