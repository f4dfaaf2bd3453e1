-- Which items the receiver finds in the sender's lists.
use Rattle.std.specs.Prelude.{◌+◌, ◌-◌, ◌==◌, ℕ, Bool, List, [], ◌∷◌, length, map, filter, slice_index_or, if◌then◌else◌}
use Rattle.std.specs.List.{list_any}
use Rattle.std.specs.Str.{bytes_eq}
use Rattle.psi_spec.specs.Limits.{bins_for, rows_for}
use Rattle.psi_spec.specs.Formulas.{tag}
use Rattle.psi_spec.specs.Columns.{row_of}
use Rattle.psi_spec.specs.Deals.{ReceiverDeal, zero_columns}
use Rattle.psi_spec.specs.Placement.{Slot}
use Rattle.psi_spec.specs.Meeting.{Placed, placed_of}

-- what the receiver looks tags up with: of its deal the key, the tag length and the zero columns, its bins and its
-- placed items
pub record ReceiverSide : Type 0 where
  pub key : List ℕ
  pub tag_length : ℕ
  pub columns : List (List ℕ)
  pub bins : ℕ
  pub placed : List Placed

-- the list in which the tag of a slot is looked up
abbrev pub list_of_slot : ℕ → Slot → ℕ
list_of_slot bins slot = if slot.index == 0 then 3 + (slot.row - bins) else slot.index - 1

-- the tag that is looked up for a row: that of the row of the zero columns
abbrev pub looked_up : ReceiverSide → ℕ → List ℕ
looked_up r row = tag r.key r.tag_length row (row_of r.columns row)

-- a placed item is hit where its own tag is an entry of its slot's list
unfoldable pub is_hit : ReceiverSide → List (List (List ℕ)) → Placed → Bool
is_hit r lists p =
    list_any (bytes_eq (looked_up r p.slot.row)) (slice_index_or lists (list_of_slot r.bins p.slot) [])

-- the receiver's items that are hit, in order
unfoldable pub hit_items : ReceiverSide → List (List (List ℕ)) → List (List ℕ)
hit_items r lists = map (λ p. p.item) (filter (is_hit r lists) r.placed)

-- the items that are marked, in order
abbrev pub marked : List Bool → List (List ℕ) → List (List ℕ)
marked [] xs = []
marked (is ∷ marks) [] = []
marked (is ∷ marks) (x ∷ xs) = if is then x ∷ marked marks xs else marked marks xs

-- what a receiver has of its deal and its items in their slots
abbrev pub receiver_side : ReceiverDeal → List (List ℕ) → List Slot → ReceiverSide
receiver_side deal items slots = record {
  key = deal.key;
  tag_length = deal.tag_length;
  columns = zero_columns deal (rows_for deal.stash (length items));
  bins = bins_for (length items);
  placed = placed_of items slots;
}
