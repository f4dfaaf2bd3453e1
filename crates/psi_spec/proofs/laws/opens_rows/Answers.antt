use Rattle.psi_spec.proofs.ColumnSets.{opens_columns, opens_rows}
use Rattle.psi_spec.proofs.laws.opens_rows.Goals as goal

pub returns-clause-columns : goal.returns-clause-columns
returns-clause-columns c = opens_columns

pub returns-clause-rows : goal.returns-clause-rows
returns-clause-rows c = opens_rows
