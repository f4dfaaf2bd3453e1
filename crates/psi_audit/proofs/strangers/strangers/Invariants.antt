use Rattle.std.proofs.Common.{◌≡◌, take}
use Rattle.psi_audit.specs.Naming.{setup_in, strangers_from}
use Rattle.psi_audit.proofs.strangers.strangers.Given as goal

-- the strangers so far
abbrev pub invariant-loop-item : goal.invariant-loop-item
invariant-loop-item l = l.made.items ≡ strangers_from (setup_in l.inputs) l.inputs.peer.now 0 (take l.item (setup_in l.inputs).placed)
