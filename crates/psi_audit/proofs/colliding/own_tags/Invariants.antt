use Rattle.std.proofs.Common.{◌≡◌, map, take}
use Rattle.psi_audit.specs.Naming.{setup_in, stranger_tag}
use Rattle.psi_audit.proofs.colliding.own_tags.Given as goal

-- the tags so far
abbrev pub invariant-loop-i : goal.invariant-loop-i
invariant-loop-i l = l.tags.items ≡ map (stranger_tag (setup_in l.inputs)) (take l.i l.strangers)
