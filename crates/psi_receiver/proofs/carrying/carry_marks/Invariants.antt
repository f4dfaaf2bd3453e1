use Rattle.psi_receiver.proofs.Shown.{AreCarriedBefore}
use Rattle.psi_receiver.proofs.carrying.carry_marks.Given as goal

-- the items of the lists so far are shown by their marks
abbrev pub invariant-loop-list : goal.invariant-loop-list
invariant-loop-list l = AreCarriedBefore l.own.lists.items l.list-index l.shown
