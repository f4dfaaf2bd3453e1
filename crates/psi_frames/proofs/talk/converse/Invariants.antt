use Rattle.std.proofs.Common.{◌≡◌, ◌-◌, length}
use Rattle.psi_frames.specs.Script.{script_of}
use Rattle.psi_frames.proofs.Standing.{At}
use Rattle.psi_frames.proofs.talk.converse.Given as goal

-- after so many frames
abbrev pub invariant-loop : goal.invariant-loop
invariant-loop g l = record {
  at : At (g.E.End.keeps l.fn.end) (g.E.End.keeps l.end) g.W.World.known (script_of (g.E.End.state l.fn.end)) (g.W.World.outside l.fn.world) l.counter (l.most_frames - l.counter) (g.E.End.state l.end) l.inbox (g.W.World.outside l.world);
  buffer : length l.buffer ≡ 16384;
}
