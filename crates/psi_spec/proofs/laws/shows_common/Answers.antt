use Rattle.psi_spec.proofs.Meeting.{shows_common}
use Rattle.psi_spec.proofs.laws.shows_common.Goals as goal

pub returns : goal.returns
returns c = shows_common
