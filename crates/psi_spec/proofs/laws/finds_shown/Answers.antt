use Rattle.psi_spec.proofs.Finding.{setups_hit_shown, pairs_find_shown}
use Rattle.psi_spec.proofs.laws.finds_shown.Goals as goal

pub returns-clause-setups : goal.returns-clause-setups
returns-clause-setups c = setups_hit_shown

pub returns-clause-pairs : goal.returns-clause-pairs
returns-clause-pairs c = pairs_find_shown
