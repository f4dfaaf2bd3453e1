-- Why there is no placement, and what is wrong with slots that are none.
use Rattle.std.specs.Prelude.{◌≡◌, ◌+◌, ◌-◌, ◌==◌, ◌&&◌, ℕ, Bool, false, if◌then◌else◌, List, [], Some, None, length, nat_le, nat_lt, not, slice_get, slice_index_or, take, ⊤}
use Rattle.std.specs.List.{filter_map, list_any, range_with_len}
use Rattle.std.specs.Option.{option_map_or}
use Rattle.std.specs.declared.option.Option.{Option}
use Rattle.psi_spec.specs.Placement.{IsPlacement, Slot as PlacedSlot}
use Rattle.psi_spec.specs.CrowdedLists.{IsCrowded, touched_by}
use Rattle.psi_cuckoo.specs.declared.slot.Slot.{Slot}
use Rattle.psi_cuckoo.specs.declared.errors.NoFit.{NoFit}
use Rattle.psi_cuckoo.specs.declared.errors.NoFit.TheVariants.{Crowded, NoMemory}
use Rattle.psi_cuckoo.specs.declared.errors.BadSlots.{BadSlots}
use Rattle.psi_cuckoo.specs.declared.errors.BadSlots.TheVariants.{Count, Index, Row, Twice}
use Rattle.psi_cuckoo.specs.Table.{slot_at}

-- there is a placement of items with these candidates
abbrev pub HasPlacement : ℕ → ℕ → List (List ℕ) → Type 0
HasPlacement stash bins candidates = (slots : List PlacedSlot) × IsPlacement stash bins candidates slots

-- a crowded list with the number of the bins that it names; want of memory says nothing
abbrev pub Refuses : ℕ → List (List ℕ) → NoFit → Type 0
Refuses stash candidates (Crowded items touched) =
    IsCrowded stash candidates items × (touched ≡ touched_by candidates items)
Refuses stash candidates NoMemory = ⊤

-- whether an item with these candidates may have the slot
abbrev pub may_have : ℕ → ℕ → List ℕ → Slot → Bool
may_have stash bins candidates slot =
    if slot.index == 0 then nat_le bins slot.row && nat_lt slot.row (bins + stash)
    else option_map_or (λ row. row == slot.row) (slice_get candidates (slot.index - 1)) false

-- what is wrong with the slot of an item, where the slots before it are right
abbrev pub fault_of : ℕ → ℕ → List (List ℕ) → List Slot → ℕ → Option BadSlots
fault_of stash bins candidates slots item =
    if nat_lt 3 (slot_at slots item).index then Some (Index item)
    else if not (may_have stash bins (slice_index_or candidates item []) (slot_at slots item)) then Some (Row item)
    else if list_any (λ before. before.row == (slot_at slots item).row) (take item slots)
    then Some (Twice (slot_at slots item).row)
    else None

-- the first fault of slots: that they are too many or too few, or else the first fault of a slot
abbrev pub first_fault : ℕ → ℕ → List (List ℕ) → List Slot → Option BadSlots
first_fault stash bins candidates slots =
    if length slots == length candidates
    then slice_get (filter_map (fault_of stash bins candidates slots) (range_with_len 0 (length slots))) 0
    else Some (Count (length slots))
