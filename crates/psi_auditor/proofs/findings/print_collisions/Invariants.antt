use Rattle.std.proofs.Common.{◌≡◌, take}
use Rattle.psi_base.specs.Outside.{printed_too}
use Rattle.psi_auditor.specs.Audit.{collision_lines}
use Rattle.psi_auditor.proofs.findings.print_collisions.Given as goal

-- the lines so far
abbrev pub invariant-loop-place : goal.invariant-loop-place
invariant-loop-place g l = record {
  printed : g.W.World.outside l.world ≡ printed_too (g.W.World.outside l.fn.world) (collision_lines (take l.place l.collisions));
}
