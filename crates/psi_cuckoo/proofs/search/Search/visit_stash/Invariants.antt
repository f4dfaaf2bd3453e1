use Rattle.std.proofs.Common.{◌≡◌, ◌<◌, ◌≤◌, ◌+◌, ◌-◌, ℕ, map}
use Rattle.std.specs.Prelude.{fold}
use Rattle.psi_spec.specs.Placement.{stash_slots}
use Rattle.psi_spec.specs.Picking.{led_to}
use Rattle.psi_cuckoo.specs.Table.{slot_of}
use Rattle.psi_cuckoo.specs.Picks.{first_ways, waiting_way, ways_of}
use Rattle.psi_cuckoo.specs.Search.{IsForest, IsReached, NoneFree}
use Rattle.psi_cuckoo.proofs.search.Search.visit_stash.Given as goal

-- the rows so far are reached
abbrev pub invariant-loop-row : goal.invariant-loop-row
invariant-loop-row l = record {
  forest : IsForest l.task l.table l.self;
  taken : NoneFree l.task l.table l.self;
  reached : (row : ℕ) → l.task.bins ≤ row → row < l.row → IsReached l.table.occupants.items l.self.visits.items row;
  last : IsReached l.table.occupants.items l.self.visits.items (l.task.bins + l.task.stash);
  stash : first_ways l.task.stash l.task.bins (map slot_of l.table.slots.items) (waiting_way l.table.slots.items)
      ≡ fold (led_to (map slot_of l.table.slots.items) (waiting_way l.table.slots.items)) (ways_of (l.task.bins + l.task.stash) l.table.slots.items l.self.visits.items) (stash_slots l.row (l.task.bins + l.task.stash - l.row));
}
