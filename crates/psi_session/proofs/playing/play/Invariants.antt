use Rattle.psi_session.proofs.Moves.{moves_left}
use Rattle.psi_session.proofs.Progress.{PlayedSoFar}
use Rattle.psi_session.proofs.playing.play.Given as goal

-- some moves were made, and the others are due
abbrev pub invariant-loop-expect : goal.invariant-loop-expect
invariant-loop-expect g l = PlayedSoFar (g.A.End.state l.fn.first) (g.B.End.state l.fn.second) (g.A.End.keeps l.fn.first) (g.B.End.keeps l.fn.second) (g.T.Transcript.hears l.fn.transcript) (g.A.End.state l.first) (g.B.End.state l.second)
    (g.A.End.keeps l.first) (g.B.End.keeps l.second) (g.T.Transcript.hears l.transcript) l.inbox

abbrev pub decreases-loop-expect : goal.decreases-loop-expect
decreases-loop-expect g l = moves_left (g.A.End.state l.first) (g.B.End.state l.second)
