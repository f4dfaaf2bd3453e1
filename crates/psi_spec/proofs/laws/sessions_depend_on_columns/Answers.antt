use Rattle.psi_spec.proofs.Depending.{sessions_depend_on_columns}
use Rattle.psi_spec.proofs.laws.sessions_depend_on_columns.Goals as goal

pub returns : goal.returns
returns c = sessions_depend_on_columns
