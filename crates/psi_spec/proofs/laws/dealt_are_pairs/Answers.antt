use Rattle.psi_spec.proofs.Dealing.{dealt_are_pairs}
use Rattle.psi_spec.proofs.laws.dealt_are_pairs.Goals as goal

pub returns : goal.returns
returns c = dealt_are_pairs
