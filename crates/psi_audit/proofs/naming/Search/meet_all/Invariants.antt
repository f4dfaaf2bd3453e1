use Rattle.std.proofs.Common.{◌+◌, take}
use Rattle.psi_audit.specs.Naming.{setup_in}
use Rattle.psi_audit.specs.Searching.{HasMetAll}
use Rattle.psi_audit.proofs.naming.Search.meet_all.Given as goal

-- the items so far
abbrev pub invariant-loop-place : goal.invariant-loop-place
invariant-loop-place l = HasMetAll (setup_in l.inputs) (3 + l.inputs.receiver.now.stash) (take l.place l.inputs.peer.now) l.fn.self l.self
