use Rattle.std.proofs.Common.{◌-◌, length}
use Rattle.psi_frames.specs.Expected.{frame_length}
use Rattle.psi_session.proofs.Filling.{FilledSoFar}
use Rattle.psi_session.proofs.playing.fill.Given as goal

-- what came into the inbox was sent, and heard by the transcript
abbrev pub invariant-loop-from : goal.invariant-loop-from
invariant-loop-from g l = FilledSoFar l.expect (g.F.End.state l.fn.from) (g.F.End.keeps l.fn.from) l.fn.inbox (g.T.Transcript.hears l.fn.transcript) (g.F.End.state l.from) (g.F.End.keeps l.from) l.inbox (g.T.Transcript.hears l.transcript)

abbrev pub decreases-loop-from : goal.decreases-loop-from
decreases-loop-from g l = frame_length l.expect - length l.inbox.held
