-- Which items of the sender collisions name.
use Rattle.std.specs.Prelude.{◌≡◌, ◌+◌, ◌-◌, ◌^◌, ◌<◌, ◌≤◌, ◌&&◌, not, ℕ, Bool, All, List, [], ◌∷◌, ◌++◌, length, map, nat_lt, slice_index, slice_index_or, Option, Some, None, if◌then◌else◌}
use Rattle.std.specs.List.{list_any}
use Rattle.std.specs.Str.{bytes_eq}
use Rattle.psi_spec.specs.Bits.{xor, both}
use Rattle.psi_spec.specs.Columns.{row_of}
use Rattle.psi_spec.specs.Deals.{ArePair}
use Rattle.psi_spec.specs.Formulas.{bin, code, item_digest, padded, padded_tag}
use Rattle.psi_spec.specs.Hits.{list_of_slot}
use Rattle.psi_spec.specs.Limits.{bins_for, rows_for, stash_limit}
use Rattle.psi_spec.specs.Meeting.{Placed, Setup, is_shown, own_tag, peer_tag, placed_of, row_word}
use Rattle.psi_spec.specs.Placement.{IsPlacementOf, Slot}
use Rattle.psi_spec.specs.SessionLaws.{pair_setup}
use Rattle.psi_spec.specs.Streams.{row_words}
use Rattle.psi_oprf.specs.Candidates.{digest_candidates}
use Rattle.psi_cuckoo.specs.Table.{slot_of}
use Rattle.psi_audit.specs.Verdicts.{row_slot}
use Rattle.psi_audit.specs.declared.inputs.Inputs.{Inputs}
use Rattle.psi_audit.specs.declared.naming.ListedTag.{ListedTag}
use Rattle.psi_audit.specs.declared.peer.PeerItem.{PeerItem}
use Rattle.psi_audit.specs.declared.rows.SessionRows.{SessionRows}
use Rattle.psi_audit.specs.declared.strangers.Stranger.{Stranger}

-- ---- the inputs

-- the setup of the session
abbrev pub setup_in : Inputs → Setup
setup_in i = pair_setup i.receiver.now i.sender.now i.own.now i.placement.now

-- the deals are a pair, and the receiver's items have these digests and slots
pub record AreInputs (i : Inputs) : Type 0 where
  pub few : length i.own.now < 2 ^ 32
  pub stash : i.receiver.now.stash ≤ stash_limit
  pub digests : i.digests.now ≡ map item_digest i.own.now
  pub pair : ArePair i.receiver.now i.sender.now
  pub placed : IsPlacementOf i.receiver.now.stash i.receiver.now.key (bins_for (length i.own.now)) i.own.now
      i.placement.now

-- how many rows they have
abbrev pub rows_in : Inputs → ℕ
rows_in i = rows_for i.receiver.now.stash (length i.own.now)

-- the rows of the zero columns, and the words of the placed items
pub record AreRowsOf (i : Inputs) (rows : SessionRows) : Type 0 where
  pub zero_count : length rows.zero ≡ rows_in i
  pub zero : (row : ℕ) → row < rows_in i → slice_index_or rows.zero row [] ≡ row_of (setup_in i).columns row
  pub words : rows.words ≡ row_words i.receiver.now.key (placed_of i.own.now i.placement.now) (rows_in i)

-- ---- tags

-- what is hashed of an item
pub record IsHashed (key : List ℕ) (bins : ℕ) (item : List ℕ) (h : PeerItem) : Type 0 where
  pub digest : h.digest ≡ item_digest item
  pub bins_are : h.bins ≡ digest_candidates key bins (item_digest item)
  pub stash_code : h.stash_code ≡ code key 0 (item_digest item)

-- the tag of an item of the sender in a list, padded: in lists 0, 1 and 2 at index 1, 2 and 3 and the item's own bin,
-- in each later list at index 0 and a row of the stash
abbrev pub listed_peer_tag : Setup → ℕ → List ℕ → List ℕ
listed_peer_tag s list y =
    padded s.tag_length
    (if nat_lt list 3 then peer_tag s (list + 1) (bin s.key s.bins (list + 1) (item_digest y)) y
    else peer_tag s 0 (s.bins + (list - 3)) y)

-- the tag of a row and a code, padded, as the sender makes it
abbrev pub word_tag : Setup → ℕ → List ℕ → List ℕ
word_tag s row item_code =
    padded_tag s.key s.tag_length row
    (xor (row_of s.columns row) (both s.choice (xor (row_word s.key s.placed row) item_code)))

-- the tag of a hashed item in a list
abbrev pub hashed_tag : Setup → ℕ → PeerItem → List ℕ
hashed_tag s list h =
    if nat_lt list 3 then word_tag s (slice_index h.bins list) (code s.key (list + 1) h.digest)
    else word_tag s (s.bins + (list - 3)) h.stash_code

-- the own tag of a slot, padded, in the slot's list
abbrev pub own_listed : Setup → Slot → ListedTag
own_listed s slot = record { list = list_of_slot s.bins slot; tag = padded s.tag_length (own_tag s slot) }

-- ---- strangers

-- an item is shown and is none of the sender's
abbrev pub is_stranger : Setup → List (List ℕ) → Placed → Bool
is_stranger s ys p = is_shown s ys p && not (list_any (bytes_eq p.item) ys)

-- the placed items that are, counted from `at` on
abbrev pub strangers_from : Setup → List (List ℕ) → ℕ → List Placed → List Stranger
strangers_from s ys at [] = []
strangers_from s ys at (p ∷ placed) =
    if is_stranger s ys p then record { item = at; slot = row_slot p.slot } ∷ strangers_from s ys (at + 1) placed
    else strangers_from s ys (at + 1) placed

-- slots have one of so many rows, and an index of at most 3
abbrev pub AreWithin : ℕ → List Stranger → Type 0
AreWithin rows strangers = All (λ stranger. (stranger.slot.row < rows) × (stranger.slot.index ≤ 3)) strangers

-- the own tag of a stranger in its list
abbrev pub stranger_tag : Setup → Stranger → ListedTag
stranger_tag s stranger = own_listed s (slot_of stranger.slot)

-- a stranger's place and the one that it names, where there is one
abbrev pub pair_at : ℕ → Option ℕ → List (ℕ × ℕ)
pair_at item None = []
pair_at item (Some named) = (item, named) ∷ []

-- the places of strangers and of those that they name
abbrev pub named_pairs : List Stranger → List (Option ℕ) → List (ℕ × ℕ)
named_pairs [] named = []
named_pairs (stranger ∷ strangers) [] = []
named_pairs (stranger ∷ strangers) (place ∷ named) = pair_at stranger.item place ++ named_pairs strangers named
