use Rattle.psi_spec.proofs.Crowding.{no_placement}
use Rattle.psi_spec.proofs.laws.crowded_excludes_placement.Goals as goal

pub returns : goal.returns
returns c = no_placement
