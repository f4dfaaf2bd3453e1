use Rattle.psi_spec.proofs.Opening.{opened_columns_answer}
use Rattle.psi_spec.proofs.laws.opened_columns_answer.Goals as goal

pub returns : goal.returns
returns c = opened_columns_answer
