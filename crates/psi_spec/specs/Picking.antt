-- Picking: which placement is answered, as a function of the items' candidates and of nothing else.
use Rattle.std.specs.Prelude.{◌+◌, ◌==◌, ℕ, if◌then◌else◌, List, [], ◌∷◌, ◌++◌, None, Some, find, fold, is_none}
use Rattle.std.specs.Prelude.{length, option_and_then, option_map, slice_get, slice_index_or, slice_set, zero, suc}
use Rattle.std.specs.List.{list_any, position_from}
use Rattle.std.specs.Option.{option_map_or, option_or}
use Rattle.std.specs.declared.option.Option.{Option}
use Rattle.psi_spec.specs.Placement.{Slot, stash_slots}

-- the item that stands in a row
abbrev pub occupant : List Slot → ℕ → Option ℕ
occupant slots row = position_from (λ slot. slot.row == row) 0 slots

-- the first of these choices where no item stands
abbrev pub first_free : List Slot → List Slot → Option Slot
first_free slots choices = find (λ choice. is_none (occupant slots choice.row)) choices

-- rows as choices, numbered from this index on
abbrev pub numbered : ℕ → List ℕ → List Slot
numbered index [] = []
numbered index (row ∷ rows) = record { row = row; index = index } ∷ numbered (index + 1) rows

-- the bins that an item may have, its first candidate first
abbrev pub choices_of : List (List ℕ) → ℕ → List Slot
choices_of candidates item = numbered 1 (slice_index_or candidates item [])

-- an item that a search came to, and the moves that are possible once it has gone elsewhere, the next one first
pub record Visit : Type 0 where
  pub item : ℕ
  pub moves : List (ℕ × Slot)

-- one more visit, if its item was not visited before
abbrev pub with_visit : List Visit → Visit → List Visit
with_visit visits visit =
    if list_any (λ earlier. earlier.item == visit.item) visits then visits else visits ++ visit ∷ []

-- the item that stands at a choice of a visited item is visited too: were it gone, the visited item could move there
abbrev pub led_to : List Slot → Visit → List Visit → Slot → List Visit
led_to slots visit visits choice =
    option_map_or (λ item. with_visit visits (record { item = item; moves = (visit.item, choice) ∷ visit.moves }))
    (occupant slots choice.row) visits

-- the moves of the first visit whose item has a free bin; each other one leads to further visits. Visits are looked
-- at in their order, from number `at` on and at most so many
unfoldable pub walk : ℕ → List (List ℕ) → List Slot → ℕ → List Visit → Option (List (ℕ × Slot))
walk zero candidates slots at visits = None
walk (suc more) candidates slots at visits =
    option_and_then (λ visit.
    option_or
    (option_map (λ free. (visit.item, free) ∷ visit.moves) (first_free slots (choices_of candidates visit.item)))
    (walk more candidates slots (at + 1) (fold (led_to slots visit) visits (choices_of candidates visit.item))))
    (slice_get visits at)

-- items move, one after another
abbrev pub moved : List Slot → List (ℕ × Slot) → List Slot
moved slots moves = fold (λ slots move. slice_set slots move.0 move.1) slots moves

-- the moves that seat the waiting item: those of a walk from it alone, or else its move to the first free row of the
-- stash, or else those of a walk from it and from the items of the stash, whose rows it could have in their place
unfoldable pub room_for : ℕ → ℕ → List (List ℕ) → List Slot → Visit → Option (List (ℕ × Slot))
room_for stash bins candidates slots waiting =
    option_or (walk (length slots) candidates slots 0 (waiting ∷ []))
    (option_or (option_map (λ free. (waiting.item, free) ∷ []) (first_free slots (stash_slots bins stash)))
    (walk (length slots) candidates slots 0 (fold (led_to slots waiting) (waiting ∷ []) (stash_slots bins stash))))

-- the slots after the moves that seat the waiting item, if there are some
abbrev pub with_room : ℕ → ℕ → List (List ℕ) → List Slot → Visit → Option (List Slot)
with_room stash bins candidates slots waiting =
    option_map (moved slots) (room_for stash bins candidates slots waiting)

-- the slots with one for the next item: it waits in the row behind the stash until the moves that seat it
unfoldable pub with_next : ℕ → ℕ → List (List ℕ) → List Slot → Option (List Slot)
with_next stash bins candidates slots =
    with_room stash bins candidates (slots ++ record { row = bins + stash; index = 0 } ∷ [])
    (record { item = length slots; moves = [] })

-- the slots of all items, seated in order; None where one can't be seated
unfoldable pub picked : ℕ → ℕ → List (List ℕ) → Option (List Slot)
picked stash bins candidates =
    fold (λ slots _. option_and_then (with_next stash bins candidates) slots) (Some []) candidates
