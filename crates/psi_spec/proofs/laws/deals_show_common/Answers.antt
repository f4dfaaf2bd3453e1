use Rattle.psi_spec.proofs.Dealing.{deals_show_common, stash_shows_common}
use Rattle.psi_spec.proofs.laws.deals_show_common.Goals as goal

pub returns-clause-placed : goal.returns-clause-placed
returns-clause-placed c = deals_show_common

pub returns-clause-stash : goal.returns-clause-stash
returns-clause-stash c = stash_shows_common
