use Rattle.psi_audit.proofs.Lawful.{differences_lie_inside}
use Rattle.psi_audit.proofs.laws.differences_lie_inside.Goals as goal

pub returns : goal.returns
returns c = differences_lie_inside
