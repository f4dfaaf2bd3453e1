use Rattle.std.proofs.Common.{length}
use Rattle.psi_frames.proofs.Sending.{SentSoFar}
use Rattle.psi_frames.proofs.talk.send_owed.Given as goal

-- what was sent so far, and what is still owed
abbrev pub invariant-loop-world : goal.invariant-loop-world
invariant-loop-world g l =
    SentSoFar (g.W.World.outside l.fn.world) (g.E.End.state l.fn.end) (g.E.End.keeps l.fn.end) (g.W.World.outside l.world) (g.E.End.state l.end) (g.E.End.keeps l.end)

abbrev pub decreases-loop-world : goal.decreases-loop-world
decreases-loop-world g l = length (g.E.End.state l.end).owes
