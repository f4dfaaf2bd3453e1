use Rattle.std.proofs.Common.{◌≡◌, ◌-◌, length}
use Rattle.psi_frames.specs.Expected.{frame_length}
use Rattle.psi_frames.proofs.Sending.{CameSoFar}
use Rattle.psi_frames.proofs.talk.hear.Given as goal

-- what came so far begins the frame, is held, and was not shown to the end
abbrev pub invariant-loop-inbox : goal.invariant-loop-inbox
invariant-loop-inbox g l = record {
  came : CameSoFar g.W.World.known l.expect l.fn.inbox (g.W.World.outside l.fn.world) l.inbox (g.W.World.outside l.world);
  same : l.end ≡ l.fn.end;
}

abbrev pub decreases-loop-inbox : goal.decreases-loop-inbox
decreases-loop-inbox g l = frame_length l.expect - length l.inbox.held
