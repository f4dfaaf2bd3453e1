use Rattle.psi_audit.specs.Naming.{setup_in}
use Rattle.psi_audit.specs.Searching.{HasMetIn}
use Rattle.psi_audit.proofs.naming.Search.meet_item.Given as goal

-- the lists so far
abbrev pub invariant-loop-list : goal.invariant-loop-list
invariant-loop-list l = HasMetIn (setup_in l.inputs) l.list l.item l.place l.fn.self l.self
