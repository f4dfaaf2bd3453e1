-- Tables: the slots of the items so far, and the item that stands in each row.
use Rattle.std.specs.Prelude.{◌≡◌, ◌+◌, ◌-◌, ◌<◌, ◌≤◌, ◌^◌, ℕ, List, [], Some, None, IsSome, length, slice_get, slice_index_or}
use Rattle.std.specs.declared.option.Option.{Option}
use Rattle.psi_spec.specs.Placement.{MayHave, Slot}
use Rattle.psi_cuckoo.specs.declared.slot.Slot.{Slot as RowSlot}
use Rattle.psi_cuckoo.specs.declared.table.Task.{Task}
use Rattle.psi_cuckoo.specs.declared.table.Table.{Table}

-- a slot as placements speak of it
abbrev pub slot_of : RowSlot → Slot
slot_of slot = record { row = slot.row; index = slot.index }

abbrev pub no_slot : RowSlot
no_slot = record { row = 0; index = 0 }

-- the slot of an item
abbrev pub slot_at : List RowSlot → ℕ → RowSlot
slot_at slots item = slice_index_or slots item no_slot

-- the item that stands in a row, if one does
abbrev pub occupant_at : List (Option ℕ) → ℕ → Option ℕ
occupant_at occupants row = slice_index_or occupants row None

-- no item stands in the row
abbrev pub IsFree : List (Option ℕ) → ℕ → Type 0
IsFree occupants row = (row < length occupants) × (occupant_at occupants row ≡ None)

-- each item stands in the row of its slot, and nothing else stands in a row
pub record AreOccupants (slots : List RowSlot) (occupants : List (Option ℕ)) : Type 0 where
  pub held : (item : ℕ) → item < length slots → occupant_at occupants (slot_at slots item).row ≡ Some item
  pub holds : (row item : ℕ) → occupant_at occupants row ≡ Some item
      → (item < length slots) × ((slot_at slots item).row ≡ row)

-- each item has a slot that it may have, where so many rows follow the bins, and stands in its row
pub record AreSeated (spare bins : ℕ) (candidates : List (List ℕ)) (slots : List RowSlot)
    (occupants : List (Option ℕ)) : Type 0 where
  pub rows : length occupants ≡ bins + spare
  pub may : (item : ℕ) → item < length slots
      → MayHave spare bins (slice_index_or candidates item []) (slot_of (slot_at slots item))
  pub inside : (item : ℕ) → item < length slots → (slot_at slots item).row < length occupants
  pub standing : AreOccupants slots occupants

-- the row that the candidate of an item with this index names
abbrev pub Names : List (List ℕ) → ℕ → ℕ → ℕ → Type 0
Names candidates item index row =
    (0 < index) × (index ≤ 3) × (slice_get (slice_index_or candidates item []) (index - 1) ≡ Some row)

-- each candidate is a bin
abbrev pub NameBins : ℕ → List (List ℕ) → Type 0
NameBins bins candidates = (item index row : ℕ) → Names candidates item index row → row < bins

-- what is placed is within bounds, and each item has three candidates, which are bins
pub record IsTask (task : Task) : Type 0 where
  pub rows : task.bins + task.stash + 1 < 2 ^ 32
  pub items : length task.candidates.now < 2 ^ 32
  pub three : (item : ℕ) → item < length task.candidates.now
      → length (slice_index_or task.candidates.now item []) ≡ 3
  pub named : NameBins task.bins task.candidates.now

-- the table of a task, with its bins, the rows of the stash and the row where an item waits
abbrev pub IsTable : Task → Table → Type 0
IsTable task table =
    AreSeated (task.stash + 1) task.bins task.candidates.now table.slots.items table.occupants.items

-- an item stands in each row behind the bins
abbrev pub IsStashFull : Task → Table → Type 0
IsStashFull task table =
    (row : ℕ) → task.bins ≤ row → row < task.bins + (task.stash + 1)
    → IsSome (occupant_at table.occupants.items row)

-- a table in which no item waits
pub record IsReady (task : Task) (table : Table) : Type 0 where
  pub seated : IsTable task table
  pub waiting : IsFree table.occupants.items (task.bins + task.stash)

-- an item's candidate with this index is a row where none stands
abbrev pub LeadsToFree : List (List ℕ) → List (Option ℕ) → ℕ → ℕ → Type 0
LeadsToFree candidates occupants item index =
    (row : ℕ) × Names candidates item index row × IsFree occupants row

-- an item stands at each candidate of this item
abbrev pub AllTaken : List (List ℕ) → List (Option ℕ) → ℕ → Type 0
AllTaken candidates occupants item =
    (index row : ℕ) → Names candidates item index row → IsSome (occupant_at occupants row)
