use Rattle.std.proofs.Common.{◌≡◌, ◌<◌, ℕ, None, take}
use Rattle.psi_cuckoo.specs.Table.{AreSeated}
use Rattle.psi_cuckoo.specs.Refusal.{fault_of}
use Rattle.psi_cuckoo.proofs.checking.seat_given.Given as goal

-- the items so far have the given slots, which have no fault
abbrev pub invariant-loop-item : goal.invariant-loop-item
invariant-loop-item l = record {
  kept : l.table.slots.items ≡ take l.item l.slots;
  seated : AreSeated l.task.stash l.task.bins l.task.candidates.now l.table.slots.items l.table.occupants.items;
  right : (j : ℕ) → j < l.item → fault_of l.task.stash l.task.bins l.task.candidates.now l.slots j ≡ None;
}
