use Rattle.psi_audit.proofs.Lawful.{slots_have_faults}
use Rattle.psi_audit.proofs.laws.slots_have_faults.Goals as goal

pub returns : goal.returns
returns c = slots_have_faults
