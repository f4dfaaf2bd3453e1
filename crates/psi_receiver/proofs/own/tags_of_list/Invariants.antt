use Rattle.std.proofs.Common.{◌≡◌}
use Rattle.psi_receiver.specs.Slots.{is_in_list}
use Rattle.psi_receiver.proofs.Gathering.{tags_before}
use Rattle.psi_receiver.proofs.own.tags_of_list.Given as goal

-- the tags of the list so far
abbrev pub invariant-loop-i : goal.invariant-loop-i
invariant-loop-i l = l.found.items ≡ tags_before (is_in_list l.bins l.list) l.placement l.by_item l.i
