use Rattle.std.proofs.Common.{◌≡◌, ◌<◌, ◌≤◌, ◌+◌, ◌-◌, ℕ, length, map}
use Rattle.psi_spec.specs.Picking.{walk}
use Rattle.psi_cuckoo.specs.Table.{slot_of}
use Rattle.psi_cuckoo.specs.Picks.{ways_of}
use Rattle.psi_cuckoo.specs.Search.{Extends, IsForest, AllReached, NoneFree, visit_at}
use Rattle.psi_cuckoo.proofs.search.Search.go_on.Given as goal

-- the rows that the items so far name are reached
abbrev pub invariant-loop-at : goal.invariant-loop-at
invariant-loop-at l = record {
  forest : IsForest l.task l.table l.self;
  taken : NoneFree l.task l.table l.self;
  within : l.at ≤ length l.self.visits.items;
  grows : Extends l.fn.self.visits.items l.self.visits.items;
  named : (k : ℕ) → k < l.at → AllReached l.task.candidates.now l.table.occupants.items l.self.visits.items (visit_at l.self.visits.items k).item;
  way : walk (length l.table.slots.items) l.task.candidates.now (map slot_of l.table.slots.items) 0 (ways_of (l.task.bins + l.task.stash) l.table.slots.items l.fn.self.visits.items)
      ≡ walk (length l.table.slots.items - l.at) l.task.candidates.now (map slot_of l.table.slots.items) l.at (ways_of (l.task.bins + l.task.stash) l.table.slots.items l.self.visits.items);
}

abbrev pub decreases-loop-at : goal.decreases-loop-at
decreases-loop-at l = length l.table.slots.items - l.at
