use Rattle.psi_pairs.proofs.Values.{opened_columns_make_values}
use Rattle.psi_pairs.proofs.laws.opened_columns_make_values.Goals as goal

pub returns : goal.returns
returns c = opened_columns_make_values
