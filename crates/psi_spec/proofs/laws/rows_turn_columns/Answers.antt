use Rattle.psi_spec.proofs.Clean.{rows_turn_columns, columns_turn_back}
use Rattle.psi_spec.proofs.laws.rows_turn_columns.Goals as goal

pub returns-clause-bits : goal.returns-clause-bits
returns-clause-bits c = rows_turn_columns

pub returns-clause-back : goal.returns-clause-back
returns-clause-back c = columns_turn_back
