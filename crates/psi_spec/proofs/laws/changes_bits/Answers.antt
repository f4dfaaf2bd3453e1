use Rattle.psi_spec.proofs.Hiding.{changes_bits}
use Rattle.psi_spec.proofs.laws.changes_bits.Goals as goal

pub returns : goal.returns
returns c = changes_bits
