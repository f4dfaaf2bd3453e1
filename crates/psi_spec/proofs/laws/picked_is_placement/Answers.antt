use Rattle.psi_spec.proofs.Picked.{picked_is_placement}
use Rattle.psi_spec.proofs.laws.picked_is_placement.Goals as goal

pub returns : goal.returns
returns c = picked_is_placement
