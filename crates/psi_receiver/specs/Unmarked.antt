-- The own tags of lists, as they are made.
use Rattle.std.specs.Prelude.{◌≡◌, false, ℕ, Some, IsPermutation, List, length, map, replicate, slice_get}
use Rattle.psi_spec.specs.Limits.{bins_for}
use Rattle.psi_spec.specs.Placement.{Slot}
use Rattle.psi_spec.specs.Rising.{rising}
use Rattle.psi_receiver.specs.Slots.{is_in_list, tags_where}
use Rattle.psi_receiver.specs.declared.own.OwnList.{OwnList}

-- of the tags by item those of a list, each with its item
abbrev pub tags_for_list : List Slot → List (List ℕ) → ℕ → List (List ℕ × ℕ)
tags_for_list slots by_item list = tags_where (is_in_list (bins_for (length slots)) list) slots by_item

-- an own list has these tags with their items, and none is marked
pub record IsUnmarked (tagged : List (List ℕ × ℕ)) (own : OwnList) : Type 0 where
  pub tags : own.tags.items ≡ map (λ t. t.0) tagged
  pub items : own.items.items ≡ map (λ t. t.1) tagged
  pub hits : own.hits.items ≡ replicate (length tagged) false

-- an own list has the tags by item that are in the list with this number, in rising order, each with its item, and none
-- is marked
pub record IsUnmarkedList (slots : List Slot) (by_item : List (List ℕ)) (list : ℕ) (own : OwnList) : Type 0 where
  pub tagged : List (List ℕ × ℕ)
  pub moved : IsPermutation (tags_for_list slots by_item list) tagged
  pub rise : map (λ t. t.0) tagged ≡ rising (map (λ t. t.0) (tags_for_list slots by_item list))
  pub has : IsUnmarked tagged own

-- there are so many own lists, each of them so
pub record AreUnmarkedLists (slots : List Slot) (by_item : List (List ℕ)) (count : ℕ) (lists : List OwnList)
    : Type 0 where
  pub many : length lists ≡ count
  pub each : (list : ℕ) (own : OwnList) → slice_get lists list ≡ Some own → IsUnmarkedList slots by_item list own
