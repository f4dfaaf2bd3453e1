-- Placements: each item has one row of its own.
use Rattle.std.specs.Prelude.{◌≡◌, ◌+◌, ◌-◌, ◌<◌, ◌≤◌, ◌⊎◌, ℕ, List, [], ◌∷◌, Some, map, nat_eq, slice_get, zero, suc}
use Rattle.std.specs.List.{AllZip, IsDistinct}
use Rattle.psi_spec.specs.Formulas.{bin, item_digest}

-- the place of an item: a row, and the index of the bin that it is, or 0 for a row of the stash
pub record Slot : Type 0 where
  pub row : ℕ
  pub index : ℕ

-- an item with these candidates may have the slot: a row of the stash, or the candidate with that number
abbrev pub MayHave : ℕ → ℕ → List ℕ → Slot → Type 0
MayHave stash bins candidates slot =
    ((slot.index ≡ 0) × (bins ≤ slot.row) × (slot.row < bins + stash))
    ⊎ ((0 < slot.index) × (slice_get candidates (slot.index - 1) ≡ Some slot.row))

-- each item has one slot that it may have, and no two have one row
pub record IsPlacement (stash bins : ℕ) (candidates : List (List ℕ)) (slots : List Slot) : Type 0 where
  pub each : AllZip (MayHave stash bins) candidates slots
  pub apart : IsDistinct nat_eq (map (λ slot. slot.row) slots)

-- the three candidates of an item
abbrev pub candidates_of : List ℕ → ℕ → List ℕ → List ℕ
candidates_of key bins item =
    bin key bins 1 (item_digest item) ∷ bin key bins 2 (item_digest item) ∷ bin key bins 3 (item_digest item) ∷ []

-- a placement of these items
abbrev pub IsPlacementOf : ℕ → List ℕ → ℕ → List (List ℕ) → List Slot → Type 0
IsPlacementOf stash key bins items slots = IsPlacement stash bins (map (candidates_of key bins) items) slots

-- n slots of the stash, from this row on
abbrev pub stash_slots : ℕ → ℕ → List Slot
stash_slots row zero = []
stash_slots row (suc n) = record { row = row; index = 0 } ∷ stash_slots (row + 1) n
