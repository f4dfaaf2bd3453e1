use Rattle.psi_log.proofs.Sizes.{records_have_sizes}
use Rattle.psi_log.proofs.laws.sizes.Goals as goal

pub returns : goal.returns
returns c = records_have_sizes
