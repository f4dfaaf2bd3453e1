use Rattle.std.proofs.Common.{length}
use Rattle.psi_lines.proofs.Reading.{HasReadLines}
use Rattle.psi_lines.proofs.lines.Lines.pack.Given as goal

abbrev pub invariant-loop-line : goal.invariant-loop-line
invariant-loop-line l = record { read : HasReadLines l.content (length l.yielded) l.ends.items l.bytes.items }
