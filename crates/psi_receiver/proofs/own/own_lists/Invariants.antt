use Rattle.psi_receiver.specs.Unmarked.{AreUnmarkedLists}
use Rattle.psi_receiver.proofs.own.own_lists.Given as goal

-- the lists so far
abbrev pub invariant-loop-list : goal.invariant-loop-list
invariant-loop-list l = AreUnmarkedLists l.placement l.by_item l.list l.lists.items
