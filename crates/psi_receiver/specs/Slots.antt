-- Slots as the receiver uses them, and the tags that it makes of them.
use Rattle.std.specs.Prelude.{◌≡◌, ◌<◌, ◌≤◌, ◌==◌, ℕ, Bool, false, List, [], All, filter, length, map, nat_eq, slice_index_or}
use Rattle.std.specs.List.{IsDistinct, range_with_len}
use Rattle.psi_spec.specs.Deals.{ReceiverDeal}
use Rattle.psi_spec.specs.Formulas.{padded_tag}
use Rattle.psi_spec.specs.Hits.{list_of_slot}
use Rattle.psi_spec.specs.Placement.{Slot}

-- each slot has one of so many rows, and an index of at most 3
abbrev pub AreWithin : ℕ → List Slot → Type 0
AreWithin rows slots = All (λ slot. (slot.row < rows) × (slot.index ≤ 3)) slots

-- slots serve so many items in so many rows: they are within these, and no two have one row
pub record AreSlotsFor (items rows : ℕ) (slots : List Slot) : Type 0 where
  pub many : length slots ≡ items
  pub within : AreWithin rows slots
  pub apart : IsDistinct nat_eq (map (λ slot. slot.row) slots)

-- the tag of a slot, padded: of its row and the word that these rows have there
abbrev pub tag_of_word : ReceiverDeal → List (List ℕ) → Slot → List ℕ
tag_of_word deal rows slot = padded_tag deal.key deal.tag_length slot.row (slice_index_or rows slot.row [])

-- whether the tag of a slot is looked up in a list, where there are so many bins
abbrev pub is_in_list : ℕ → ℕ → Slot → Bool
is_in_list bins list slot = list_of_slot bins slot == list

-- each of the tags by item, with the number of its item
abbrev pub tags_with_items : List (List ℕ) → List (List ℕ × ℕ)
tags_with_items tags = map (λ item. (slice_index_or tags item [], item)) (range_with_len 0 (length tags))

-- of the tags by item those whose slot passes a test, each with its item, in order
abbrev pub tags_where : (Slot → Bool) → List Slot → List (List ℕ) → List (List ℕ × ℕ)
tags_where test slots tags = filter (λ t. slice_index_or (map test slots) t.1 false) (tags_with_items tags)
