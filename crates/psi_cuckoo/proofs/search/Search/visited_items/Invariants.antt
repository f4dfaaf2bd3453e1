use Rattle.std.proofs.Common.{◌≤◌, length}
use Rattle.psi_cuckoo.specs.Search.{AreRising}
use Rattle.psi_cuckoo.proofs.search.Search.visited_items.Given as goal

-- the visited items so far
abbrev pub invariant-loop-item : goal.invariant-loop-item
invariant-loop-item l = record {
  rising : AreRising l.self.visits.items l.item l.items;
  few : length l.items ≤ l.item;
}
