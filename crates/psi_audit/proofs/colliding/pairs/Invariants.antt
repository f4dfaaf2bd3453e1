use Rattle.std.proofs.Common.{◌≡◌, map, take}
use Rattle.psi_audit.specs.Naming.{named_pairs}
use Rattle.psi_audit.specs.Searching.{found_at}
use Rattle.psi_audit.proofs.colliding.pairs.Given as goal

-- the pairs so far
abbrev pub invariant-loop-i : goal.invariant-loop-i
invariant-loop-i l = l.pairs ≡ named_pairs (take l.i l.strangers) (map (found_at l.search) (take l.i l.tags))
