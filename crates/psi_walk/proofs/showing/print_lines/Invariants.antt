use Rattle.std.proofs.Common.{◌≡◌, ◌≤◌, ◌-◌, length}
use Rattle.psi_base.specs.Outside.{printed_too}
use Rattle.psi_walk.proofs.MarkedLines.{lines_to}
use Rattle.psi_walk.proofs.showing.print_lines.Given as goal

-- the lines so far
abbrev pub invariant-loop-item : goal.invariant-loop-item
invariant-loop-item g l = record {
  within : l.place ≤ length l.items;
  printed : g.W.World.outside l.world ≡ printed_too (g.W.World.outside l.fn.world) (lines_to l.place l.marks l.items);
}

abbrev pub decreases-loop-item : goal.decreases-loop-item
decreases-loop-item g l = length l.items - l.place
