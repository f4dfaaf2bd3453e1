-- The receiver's own tags, list by list, and which of them came.
use Rattle.std.specs.Prelude.{◌≡◌, ◌+◌, ◌==◌, ◌<◌, ◌≤◌, ℕ, Bool, true, false, List, [], ◌∷◌, ◌++◌, length, map, filter, slice_get, slice_index, slice_index_or, Some, if◌then◌else◌}
use Rattle.std.specs.Prelude.{All, Contains}
use Rattle.psi_spec.specs.Limits.{bins_for, rows_for}
use Rattle.psi_spec.specs.Columns.{row_of}
use Rattle.psi_spec.specs.Deals.{ReceiverDeal, zero_columns}
use Rattle.psi_spec.specs.Formulas.{padded_tag}
use Rattle.psi_spec.specs.Frames.{Frame, tags_frame, is_below}
use Rattle.psi_spec.specs.Hits.{list_of_slot}
use Rattle.psi_spec.specs.Placement.{Slot}
use Rattle.psi_spec.specs.Rising.{rising}
use Rattle.psi_receiver.specs.Marking.{is_among, padded_tags}
use Rattle.psi_receiver.specs.declared.own.OwnList.{OwnList}
use Rattle.psi_receiver.specs.declared.own.OwnTags.{OwnTags}

-- ---- own tags

-- the own tag of a slot, padded: of its row and the word of the zero columns there
abbrev pub own_tag_of : ReceiverDeal → ℕ → Slot → List ℕ
own_tag_of deal rows slot =
    padded_tag deal.key deal.tag_length slot.row (row_of (zero_columns deal rows) slot.row)

-- the own tags of slots, in order
abbrev pub own_tags : ReceiverDeal → List Slot → List (List ℕ)
own_tags deal slots = map (own_tag_of deal (rows_for deal.stash (length slots))) slots

-- the slots whose tags are looked up in a list, in order
abbrev pub slots_in : ℕ → List Slot → List Slot
slots_in list slots = filter (λ slot. list_of_slot (bins_for (length slots)) slot == list) slots

-- the own tags that are looked up in a list, in rising order
abbrev pub own_tags_in : ReceiverDeal → List Slot → ℕ → List (List ℕ)
own_tags_in deal slots list =
    rising (map (own_tag_of deal (rows_for deal.stash (length slots))) (slots_in list slots))

-- ---- marks

-- the own tags of a list, and of each whether it came
pub record Marked : Type 0 where
  pub tags : List (List ℕ)
  pub hits : List Bool

abbrev pub marked_of : OwnList → Marked
marked_of list = record { tags = list.tags.items; hits = list.hits.items }

abbrev pub marks_of : OwnTags → List Marked
marks_of own = map marked_of own.lists.items

-- the own tags of a list, with a mark for each
pub record IsMarkedList (tags : List (List ℕ)) (m : Marked) : Type 0 where
  pub tags_are : m.tags ≡ tags
  pub long : length m.hits ≡ length m.tags

-- an item has its slot in a list, and there this own tag
pub record HasOwnTag (deal : ReceiverDeal) (slots : List Slot) (list item : ℕ) (tag : List ℕ) : Type 0 where
  pub slot : Slot
  pub at : slice_get slots item ≡ Some slot
  pub listed : list_of_slot (bins_for (length slots)) slot ≡ list
  pub tagged : own_tag_of deal (rows_for deal.stash (length slots)) slot ≡ tag

-- the own tags of a list are those of these items in turn, and all items with a slot in the list are among them
pub record AreItemsIn (deal : ReceiverDeal) (slots : List Slot) (list : ℕ) (tags : List (List ℕ)) (items : List ℕ)
    : Type 0 where
  pub many : length items ≡ length tags
  pub each : (place : ℕ) → place < length items
      → HasOwnTag deal slots list (slice_index items place) (slice_index_or tags place [])
  pub all : (item : ℕ) (slot : Slot) → slice_get slots item ≡ Some slot
      → list_of_slot (bins_for (length slots)) slot ≡ list → Contains items item

-- the own tags of slots in each list, with a mark and the item of each
pub record AreOwnTags (deal : ReceiverDeal) (slots : List Slot) (own : OwnTags) : Type 0 where
  pub many : length own.lists.items ≡ 3 + deal.stash
  pub each : (list : ℕ) (m : Marked) → slice_get (marks_of own) list ≡ Some m
      → IsMarkedList (own_tags_in deal slots list) m
  pub items : (list : ℕ) (one : OwnList) → slice_get own.lists.items list ≡ Some one
      → AreItemsIn deal slots list one.tags.items one.items.items

-- no tag is marked
abbrev pub AreUnmarked : List Marked → Type 0
AreUnmarked lists =
    (list : ℕ) (m : Marked) → slice_get lists list ≡ Some m → (i : ℕ) → slice_index_or m.hits i false ≡ false

-- own tags are marked exactly where they are among these tags
abbrev pub IsMarkedBy : List (List ℕ) → Marked → Type 0
IsMarkedBy tags m =
    (i : ℕ) → i < length m.tags → slice_index_or m.hits i false ≡ is_among tags (slice_index_or m.tags i [])

-- what frames have of a list: of each of its blocks what `of` makes of the block's bytes
abbrev pub in_list : {A : Type 0} → (List ℕ → List A) → ℕ → List Frame → List A
in_list of list [] = []
in_list of list (tags_frame of_list block bytes ∷ frames) =
    (if of_list == list then of bytes else []) ++ in_list of list frames
in_list of list (frame ∷ frames) = in_list of list frames

-- the tags that frames have of a list, each padded
abbrev pub tags_for : ℕ → ℕ → List Frame → List (List ℕ)
tags_for tag_length list frames = in_list (padded_tags tag_length) list frames

-- the own tags of each list are marked by the tags that frames have of it
abbrev pub AreMarked : ℕ → List Frame → List Marked → Type 0
AreMarked tag_length frames lists =
    (list : ℕ) (m : Marked) → slice_get lists list ≡ Some m → IsMarkedBy (tags_for tag_length list frames) m

-- a merge stands at a place of own tags, where the tags that came end with the floor: those before the place are not
-- above it, and are marked where they equal it
pub record IsMerging (floor : List ℕ) (from : ℕ) (m : Marked) : Type 0 where
  pub within : from ≤ length m.tags
  pub passed : (i : ℕ) → i < from → is_below floor (slice_index_or m.tags i []) ≡ false
  pub found : (i : ℕ) → i < from → slice_index_or m.tags i [] ≡ floor → slice_index_or m.hits i false ≡ true

-- ---- what is shown

-- no item is shown
abbrev pub AreUnshown : List Bool → Type 0
AreUnshown shown = (i : ℕ) → slice_index_or shown i false ≡ false

-- an item is shown exactly where its own tag is among the tags that frames have of the list of its slot
abbrev pub AreShownFor : ReceiverDeal → List Slot → List Frame → List Bool → Type 0
AreShownFor deal slots frames shown =
    (i : ℕ) (slot : Slot) → slice_get slots i ≡ Some slot
    → slice_index_or shown i false
    ≡ is_among (tags_for deal.tag_length (list_of_slot (bins_for (length slots)) slot) frames)
    (own_tag_of deal (rows_for deal.stash (length slots)) slot)

-- an own tag has a place in its list, and is shown where it is marked there
pub record IsShownBy (m : Marked) (tag : List ℕ) (shown : Bool) : Type 0 where
  pub place : ℕ
  pub within : place < length m.tags
  pub same : slice_index_or m.tags place [] ≡ tag
  pub as_marked : shown ≡ slice_index_or m.hits place false

-- an item has a place among these, and is shown where it is marked there
pub record IsShownAmong (items : List ℕ) (hits : List Bool) (item : ℕ) (shown : Bool) : Type 0 where
  pub place : ℕ
  pub within : place < length items
  pub same : slice_index items place ≡ item
  pub as_marked : shown ≡ slice_index_or hits place false

-- the marks of lists can be carried to so many items: each list has a mark for each of its items, which are some of
-- these, and no two lists have one item
pub record AreCarriable (count : ℕ) (lists : List OwnList) : Type 0 where
  pub long : (list : ℕ) (one : OwnList) → slice_get lists list ≡ Some one
      → length one.hits.items ≡ length one.items.items
  pub low : (list : ℕ) (one : OwnList) → slice_get lists list ≡ Some one
      → All (λ item. item < count) one.items.items
  pub apart : (list other : ℕ) (one two : OwnList) (item : ℕ) → slice_get lists list ≡ Some one
      → slice_get lists other ≡ Some two → Contains one.items.items item → Contains two.items.items item
      → list ≡ other

-- the items of each list are shown by its marks
abbrev pub AreCarried : List OwnList → List Bool → Type 0
AreCarried lists shown =
    (list : ℕ) (one : OwnList) (item : ℕ) → slice_get lists list ≡ Some one → Contains one.items.items item
    → IsShownAmong one.items.items one.hits.items item (slice_index_or shown item false)

-- the slot of each item has a list, by the marks of which the item is shown
abbrev pub AreShownBy : ReceiverDeal → List Slot → List Marked → List Bool → Type 0
AreShownBy deal slots lists shown =
    (i : ℕ) (slot : Slot) (m : Marked) → slice_get slots i ≡ Some slot
    → slice_get lists (list_of_slot (bins_for (length slots)) slot) ≡ Some m
    → IsShownBy m (own_tag_of deal (rows_for deal.stash (length slots)) slot) (slice_index_or shown i false)
