-- Searches: how a search came to its items, and what it reached.
use Rattle.std.specs.Prelude.{◌≡◌, ◌+◌, ◌<◌, ◌≤◌, ◌⊎◌, ◌++◌, ◌∷◌, ℕ, List, [], Some, length, map, slice_index_or, slice_set, Contains}
use Rattle.std.specs.List.Sorted.{IsStrictlyIncreasing}
use Rattle.std.specs.declared.option.Option.{Option}
use Rattle.psi_cuckoo.specs.declared.slot.Slot.{Slot}
use Rattle.psi_cuckoo.specs.declared.table.Task.{Task}
use Rattle.psi_cuckoo.specs.declared.table.Table.{Table}
use Rattle.psi_cuckoo.specs.declared.search.Visit.{Visit}
use Rattle.psi_cuckoo.specs.declared.search.Search.{Search}
use Rattle.psi_cuckoo.specs.declared.search.Path.{Path}
use Rattle.psi_cuckoo.specs.Table.{AllTaken, IsTable, LeadsToFree, Names, slot_at, slot_of, occupant_at}
use Rattle.psi_cuckoo.specs.Picks.{choice_at}
use Rattle.psi_spec.specs.Picking.{choices_of, first_free}

abbrev pub no_visit : Visit
no_visit = record { item = 0; parent = 0; index = 0 }

abbrev pub visit_at : List Visit → ℕ → Visit
visit_at visits k = slice_index_or visits k no_visit

abbrev pub IsVisited : List Visit → ℕ → Type 0
IsVisited visits item = (k : ℕ) × (k < length visits) × ((visit_at visits k).item ≡ item)

-- each visited item knows the number of its visit
abbrev pub AreNumbered : List Visit → List ℕ → Type 0
AreNumbered visits numbers =
    (k : ℕ) → k < length visits → slice_index_or numbers (visit_at visits k).item 0 ≡ k

-- how a visited item's row was found: behind the bins, or as a candidate of an item visited before
abbrev pub IsLed : ℕ → List (List ℕ) → List Visit → ℕ → ℕ → ℕ → ℕ → Type 0
IsLed bins candidates visits before parent index row =
    ((index ≡ 0) × (bins ≤ row))
    ⊎ ((parent < before) × Names candidates (visit_at visits parent).item index row)

-- the visits are a forest: each item's row was found behind the bins, or from the item of its parent
pub record AreTrees (bins : ℕ) (candidates : List (List ℕ)) (slots : List Slot) (visits : List Visit)
    (numbers : List ℕ) : Type 0 where
  pub few : length slots ≤ length candidates
  pub long : length candidates ≤ length numbers
  pub each : (k : ℕ) → k < length visits → (visit_at visits k).item < length slots
  pub numbered : AreNumbered visits numbers
  pub led : (k : ℕ) → k < length visits
      → IsLed bins candidates visits k (visit_at visits k).parent (visit_at visits k).index
      (slot_at slots (visit_at visits k).item).row

abbrev pub IsForest : Task → Table → Search → Type 0
IsForest task table search =
    AreTrees task.bins task.candidates.now table.slots.items search.visits.items search.numbers.items

-- the first visits are the old ones
pub record Extends (old new : List Visit) : Type 0 where
  pub longer : length old ≤ length new
  pub same : (k : ℕ) → k < length old → visit_at new k ≡ visit_at old k

-- the item was visited before, and nothing changes
abbrev pub IsKept : Search → Search → Visit → Type 0
IsKept old new visit = IsVisited old.visits.items visit.item × (new.visits.items ≡ old.visits.items)
    × (new.numbers.items ≡ old.numbers.items)

-- the item was not visited before, and the visit is added
abbrev pub IsAdded : Search → Search → Visit → Type 0
IsAdded old new visit = (IsVisited old.visits.items visit.item → ⊥)
    × (new.visits.items ≡ old.visits.items ++ visit ∷ [])
    × (new.numbers.items ≡ slice_set old.numbers.items visit.item (length old.visits.items))

-- the visit is added, where its item has none yet
abbrev pub AddsVisit : Search → Search → Visit → Type 0
AddsVisit old new visit = IsKept old new visit ⊎ IsAdded old new visit

-- the item that stands in a row is visited, from this parent
pub record ComesTo (table : Table) (old new : Search) (row parent index : ℕ) : Type 0 where
  pub item : ℕ
  pub stands : occupant_at table.occupants.items row ≡ Some item
  pub adds : AddsVisit old new (record { item = item; parent = parent; index = index })

-- no visited item has a free candidate
abbrev pub NoneFree : Task → Table → Search → Type 0
NoneFree task table search = (k : ℕ) → k < length search.visits.items
    → AllTaken task.candidates.now table.occupants.items (visit_at search.visits.items k).item

-- the path ends with the first visited item that has a free candidate, and with its first free one
pub record IsFirstPath (task : Task) (table : Table) (search : Search) (path : Path) : Type 0 where
  pub within : path.last < length search.visits.items
  pub before : (k : ℕ) → k < path.last
      → AllTaken task.candidates.now table.occupants.items (visit_at search.visits.items k).item
  pub leads : LeadsToFree task.candidates.now table.occupants.items (visit_at search.visits.items path.last).item
      path.index
  pub first : first_free (map slot_of table.slots.items)
      (choices_of task.candidates.now (visit_at search.visits.items path.last).item)
      ≡ Some (choice_at task.candidates.now (visit_at search.visits.items path.last).item path.index)

-- a visited item stands in the row
abbrev pub IsReached : List (Option ℕ) → List Visit → ℕ → Type 0
IsReached occupants visits row = (item : ℕ) × (occupant_at occupants row ≡ Some item) × IsVisited visits item

-- each row that the candidates of this item name is reached
abbrev pub AllReached : List (List ℕ) → List (Option ℕ) → List Visit → ℕ → Type 0
AllReached candidates occupants visits item =
    (index row : ℕ) → Names candidates item index row → IsReached occupants visits row

-- each row that a candidate of a visited item names is reached
abbrev pub AllFollowed : List (List ℕ) → List (Option ℕ) → List Visit → Type 0
AllFollowed candidates occupants visits =
    (k : ℕ) → k < length visits → AllReached candidates occupants visits (visit_at visits k).item

-- each row behind the bins is reached
abbrev pub StashReached : Task → Table → Search → Type 0
StashReached task table search =
    (row : ℕ) → task.bins ≤ row → row < task.bins + (task.stash + 1)
    → IsReached table.occupants.items search.visits.items row

-- a finished search: each row behind the bins and each that a visited item names is reached
pub record IsClosed (spare bins : ℕ) (candidates : List (List ℕ)) (occupants : List (Option ℕ))
    (visits : List Visit) : Type 0 where
  pub stashed : (row : ℕ) → bins ≤ row → row < bins + spare → IsReached occupants visits row
  pub named : (k : ℕ) → k < length visits → AllReached candidates occupants visits (visit_at visits k).item

-- a search from all rows behind the bins ended without a free bin
pub record IsEnded (task : Task) (table : Table) (search : Search) : Type 0 where
  pub seated : IsTable task table
  pub forest : IsForest task table search
  pub closed : IsClosed (task.stash + 1) task.bins task.candidates.now table.occupants.items search.visits.items

-- the visited items below end, rising
pub record AreRising (visits : List Visit) (end : ℕ) (items : List ℕ) : Type 0 where
  pub rising : IsStrictlyIncreasing items
  pub sound : (item : ℕ) → Contains items item → (item < end) × IsVisited visits item
  pub whole : (item : ℕ) → item < end → IsVisited visits item → Contains items item
