-- Which items are shown: those whose own tag is a peer tag of some item of the sender.
use Rattle.std.specs.Prelude.{◌≡◌, ℕ, ◌==◌, Bool, List, [], ◌∷◌, length, map, filter, find, Contains, Option, Some, if◌then◌else◌}
use Rattle.std.specs.List.{list_any}
use Rattle.std.specs.Str.{bytes_eq}
use Rattle.psi_spec.specs.Limits.{bins_for, rows_for}
use Rattle.psi_spec.specs.Bits.{xor, both, zero_word}
use Rattle.psi_spec.specs.Formulas.{item_digest, code, bin, tag}
use Rattle.psi_spec.specs.Columns.{row_of}
use Rattle.psi_spec.specs.Deals.{ReceiverDeal, SenderDeal, zero_columns}
use Rattle.psi_spec.specs.Placement.{Slot, IsPlacementOf}

-- an item of the receiver with its slot
pub record Placed : Type 0 where
  pub item : List ℕ
  pub slot : Slot

-- the items with their slots, in order
abbrev pub placed_of : List (List ℕ) → List Slot → List Placed
placed_of [] slots = []
placed_of (x ∷ xs) [] = []
placed_of (x ∷ xs) (slot ∷ slots) = record { item = x; slot = slot } ∷ placed_of xs slots

-- what the two ends of a session hold before it begins
pub record Setup : Type 0 where
  pub key : List ℕ
  pub tag_length : ℕ
  pub choice : List ℕ
  pub columns : List (List ℕ)
  pub bins : ℕ
  pub placed : List Placed

-- the setup of a pair of deals and the receiver's items in their slots
abbrev pub setup_of : ℕ → ReceiverDeal → SenderDeal → List (List ℕ) → List Slot → Setup
setup_of stash receiver sender items slots = record {
  key = receiver.key;
  tag_length = receiver.tag_length;
  choice = sender.choice;
  columns = zero_columns receiver (rows_for stash (length items));
  bins = bins_for (length items);
  placed = placed_of items slots;
}

-- the parts have their sizes, and the items are placed
pub record IsSetup (stash : ℕ) (s : Setup) : Type 0 where
  pub choice : length s.choice ≡ 64
  pub columns : length s.columns ≡ 512
  pub placed : IsPlacementOf stash s.key s.bins (map (λ p. p.item) s.placed) (map (λ p. p.slot) s.placed)

-- the code of the item that is placed at a row, or the zero word where none is
abbrev pub row_word : List ℕ → List Placed → ℕ → List ℕ
row_word key [] row = zero_word
row_word key (p ∷ placed) row =
    if p.slot.row == row then code key p.slot.index (item_digest p.item) else row_word key placed row

-- the tag of a placed item: of its row and the word of the zero columns there
unfoldable pub own_tag : Setup → Slot → List ℕ
own_tag s slot = tag s.key s.tag_length slot.row (row_of s.columns slot.row)

-- the tag of a sender's item at an index and a row: what it hides there cancels where its code is the row's
unfoldable pub peer_tag : Setup → ℕ → ℕ → List ℕ → List ℕ
peer_tag s index row y =
    tag s.key s.tag_length row
    (xor (row_of s.columns row) (both s.choice (xor (row_word s.key s.placed row) (code s.key index (item_digest y)))))

-- the row at which a sender's item is compared with a slot: its own bin for the slot's index, or the slot's row in the
-- stash
abbrev pub peer_row : Setup → Slot → List ℕ → ℕ
peer_row s slot y = if slot.index == 0 then slot.row else bin s.key s.bins slot.index (item_digest y)

-- a placed item meets a sender's item where their tags are equal
unfoldable pub meets : Setup → Slot → List ℕ → Bool
meets s slot y = bytes_eq (own_tag s slot) (peer_tag s slot.index (peer_row s slot y) y)

-- whether a placed item meets some item of the sender
abbrev pub is_shown : Setup → List (List ℕ) → Placed → Bool
is_shown s ys p = list_any (meets s p.slot) ys

-- the placed items that meet some item of the sender, in order
abbrev pub shown_placed : Setup → List (List ℕ) → List Placed
shown_placed s ys = filter (is_shown s ys) s.placed

-- the receiver's items that are shown, in order
unfoldable pub shown : Setup → List (List ℕ) → List (List ℕ)
shown s ys = map (λ p. p.item) (shown_placed s ys)

-- the first item of the sender that a placed item meets
abbrev pub named : Setup → List (List ℕ) → Placed → Option (List ℕ)
named s ys p = find (meets s p.slot) ys

-- a placed item names an item of the sender, the first that it meets, and their tags are equal
abbrev pub SharesTag : Setup → List (List ℕ) → Placed → Type 0
SharesTag s ys p =
    (y : List ℕ) × (named s ys p ≡ Some y) × Contains ys y
    × (own_tag s p.slot ≡ peer_tag s p.slot.index (peer_row s p.slot y) y)

-- each common item is shown, and each shown item shares its tag with the sender's item that it names
pub record ShowsCommon (s : Setup) (ys : List (List ℕ)) : Type 0 where
  pub common : (x : List ℕ) → Contains (map (λ p. p.item) s.placed) x → Contains ys x → Contains (shown s ys) x
  pub others : (p : Placed) → Contains (shown_placed s ys) p → SharesTag s ys p
