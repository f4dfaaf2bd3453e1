use Rattle.psi_spec.proofs.Reordering.{order_is_hidden, sessions_hide_order}
use Rattle.psi_spec.proofs.laws.order_is_hidden.Goals as goal

pub returns-clause-stream : goal.returns-clause-stream
returns-clause-stream c = order_is_hidden

pub returns-clause-session : goal.returns-clause-session
returns-clause-session c = sessions_hide_order
