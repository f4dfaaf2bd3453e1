use Rattle.std.proofs.Common.{◌≡◌, ◌<◌, ◌+◌, ◌-◌, ℕ, [], drop, get_or, map}
use Rattle.std.specs.Prelude.{fold}
use Rattle.psi_spec.specs.Picking.{choices_of, led_to, numbered}
use Rattle.psi_cuckoo.specs.Picks.{way_at, ways_of}
use Rattle.psi_cuckoo.specs.Table.{Names, slot_of}
use Rattle.psi_cuckoo.specs.Search.{Extends, IsForest, IsReached, NoneFree, visit_at}
use Rattle.psi_cuckoo.proofs.search.Search.visit_candidates.Given as goal

-- the candidates so far are reached
abbrev pub invariant-loop-index : goal.invariant-loop-index
invariant-loop-index l = record {
  forest : IsForest l.task l.table l.self;
  grows : Extends l.fn.self.visits.items l.self.visits.items;
  reached : (index row : ℕ) → index < l.index → Names l.task.candidates.now (visit_at l.fn.self.visits.items l.at).item index row → IsReached l.table.occupants.items l.self.visits.items row;
  taken : NoneFree l.task l.table l.self;
  ways : fold (led_to (map slot_of l.table.slots.items) (way_at (ways_of (l.task.bins + l.task.stash) l.table.slots.items l.fn.self.visits.items) l.at)) (ways_of (l.task.bins + l.task.stash) l.table.slots.items l.fn.self.visits.items) (choices_of l.task.candidates.now (visit_at l.fn.self.visits.items l.at).item)
      ≡ fold (led_to (map slot_of l.table.slots.items) (way_at (ways_of (l.task.bins + l.task.stash) l.table.slots.items l.fn.self.visits.items) l.at)) (ways_of (l.task.bins + l.task.stash) l.table.slots.items l.self.visits.items) (numbered l.index (drop (l.index - 1) (get_or l.task.candidates.now (visit_at l.fn.self.visits.items l.at).item [])));
}
