use Rattle.psi_spec.proofs.SessionMoves.{ends_move, sessions_have_streams, wires_join_streams}
use Rattle.psi_spec.proofs.laws.sessions_are_moves.Goals as goal

pub returns-clause-ends : goal.returns-clause-ends
returns-clause-ends c = ends_move

pub returns-clause-streams : goal.returns-clause-streams
returns-clause-streams c = sessions_have_streams

pub returns-clause-sizes : goal.returns-clause-sizes
returns-clause-sizes c = wires_join_streams
