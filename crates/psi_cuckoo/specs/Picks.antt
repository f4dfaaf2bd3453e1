-- Tables and searches as the definition of the picked placement has them.
use Rattle.std.specs.Prelude.{◌≡◌, ◌-◌, ◌<◌, ◌≤◌, ◌==◌, ℕ, if◌then◌else◌, List, [], ◌∷◌, ◌++◌, None, Some, fold, length, slice_index_or}
use Rattle.std.specs.declared.option.Option.{Option}
use Rattle.psi_spec.specs.Placement.{Slot, stash_slots}
use Rattle.psi_spec.specs.Picking.{Visit as Way, led_to}
use Rattle.psi_cuckoo.specs.Table.{slot_at}
use Rattle.psi_cuckoo.specs.declared.slot.Slot.{Slot as RowSlot}
use Rattle.psi_cuckoo.specs.declared.search.Visit.{Visit}

-- the bin that a candidate names, as a choice
abbrev pub choice_at : List (List ℕ) → ℕ → ℕ → Slot
choice_at candidates item index =
    record { row = slice_index_or (slice_index_or candidates item []) (index - 1) 0; index = index }

-- a row of the stash as a slot
abbrev pub stash_slot : ℕ → Slot
stash_slot row = record { row = row; index = 0 }

-- the move of an item that waits, if one does, to a row of the stash
abbrev pub waiting_moves : Option ℕ → ℕ → List (ℕ × Slot)
waiting_moves None row = []
waiting_moves (Some item) row = (item, record { row = row; index = 0 }) ∷ []

-- who waits in this row once another has left a row behind the bins: no one, if that is the same row
abbrev pub still_waits : ℕ → ℕ → ℕ → Option ℕ
still_waits waiting item row = if row == waiting then None else Some item

abbrev pub no_way : Way
no_way = record { item = 0; moves = [] }

abbrev pub way_at : List Way → ℕ → Way
way_at ways k = slice_index_or ways k no_way

-- a visit with its moves, told from those of its parent; the last item waits in this row
abbrev pub way_of : ℕ → List RowSlot → List Way → Visit → Way
way_of waiting slots ways visit = record {
  item = visit.item;
  moves = if visit.index == 0
      then waiting_moves (still_waits waiting (length slots - 1) (slot_at slots visit.item).row)
      (slot_at slots visit.item).row
      else ((way_at ways visit.parent).item, record { row = (slot_at slots visit.item).row; index = visit.index })
      ∷ (way_at ways visit.parent).moves;
}

-- the visits of a search with their moves
unfoldable pub ways_of : ℕ → List RowSlot → List Visit → List Way
ways_of waiting slots visits = fold (λ ways visit. ways ++ way_of waiting slots ways visit ∷ []) [] visits

-- the moves of a path: the item of its last visit goes to the candidate with this index
abbrev pub path_moves : List (List ℕ) → List Way → ℕ → ℕ → List (ℕ × Slot)
path_moves candidates ways at index =
    ((way_at ways at).item, choice_at candidates (way_at ways at).item index) ∷ (way_at ways at).moves

-- the visits of a search that begins with the waiting item and those of the stash
abbrev pub first_ways : ℕ → ℕ → List Slot → Way → List Way
first_ways stash bins slots waiting = fold (led_to slots waiting) (waiting ∷ []) (stash_slots bins stash)

-- the last item, which waits
abbrev pub waiting_way : List RowSlot → Way
waiting_way slots = record { item = length slots - 1; moves = [] }

-- the first ways are the old ones
pub record Begins (old new : List Way) : Type 0 where
  pub longer : length old ≤ length new
  pub same : (k : ℕ) → k < length old → way_at new k ≡ way_at old k
