-- The laws of bits, of opened rows, of deals, of placements, and of what is shown.
use Rattle.std.specs.Prelude.{◌≡◌, ◌≤◌, ◌<◌, ◌*◌, ◌^◌, ◌↔◌, ℕ, List, [], Some, length, slice_index, slice_index_or, false}
use Rattle.psi_spec.specs.Limits.{bins_for}
use Rattle.psi_spec.specs.Bits.{bit_of, xor, both, IsWord}
use Rattle.psi_spec.specs.Columns.{key_stream, column, column_bytes, row_of}
use Rattle.psi_spec.specs.Matrices.{AreColumns, IsClean, IsColumn, has_padding}
use Rattle.psi_spec.specs.ColumnSets.{ColumnSets, masked_columns, chosen_columns, opened_columns}
use Rattle.psi_spec.specs.Deals.{ReceiverDeal, SenderDeal, IsReceiverDeal, IsSenderDeal, dealt_receiver, dealt_sender, ArePair}
use Rattle.psi_spec.specs.DealFiles.{receiver_bytes, sender_bytes, receiver_of, sender_of}
use Rattle.psi_spec.specs.OldDealFiles.{IsOldReceiverFile, IsOldSenderFile, old_receiver_of, old_sender_of}
use Rattle.psi_spec.specs.Picking.{picked}
use Rattle.psi_spec.specs.Placement.{Slot, IsPlacement, IsPlacementOf, stash_slots}
use Rattle.psi_spec.specs.CrowdedLists.{IsCrowded}
use Rattle.psi_spec.specs.Meeting.{Setup, IsSetup, ShowsCommon, setup_of}

-- ---- bits

-- bit c of row j of columns is bit j of column c
abbrev pub RowsTurnColumns : Type 0
RowsTurnColumns =
    (columns : List (List ℕ)) (j c : ℕ) → bit_of (row_of columns j) c ≡ bit_of (slice_index_or columns c []) j

-- a column is row c of the words that are the rows of its set
abbrev pub ColumnsTurnBack : Type 0
ColumnsTurnBack =
    (columns words : List (List ℕ)) (c : ℕ)
    → ((j : ℕ) → j < length words → slice_index_or words j [] ≡ row_of columns j)
    → IsColumn (length words) (slice_index_or columns c []) → row_of words c ≡ slice_index_or columns c []

-- a column of the key stream has its size and the stream's bits, and no other bit is set
pub record HasColumnBits (seed : List ℕ) (session rows : ℕ) : Type 0 where
  pub long : length (column seed session rows) ≡ column_bytes rows
  pub bits : (j n : ℕ) → j < rows → j < 8 * n
      → bit_of (column seed session rows) j ≡ bit_of (key_stream seed session n) j
  pub clean : IsClean rows (column seed session rows)

abbrev pub ColumnsAreClean : Type 0
ColumnsAreClean = (seed : List ℕ) (session rows : ℕ) → HasColumnBits seed session rows

-- bytes of a column's length have no padding bit exactly where they are clean
abbrev pub PaddingIsSeen : Type 0
PaddingIsSeen =
    (rows : ℕ) (bytes : List ℕ) → ((i : ℕ) → slice_index bytes i < 2 ^ 8) → length bytes ≡ column_bytes rows
    → (has_padding rows bytes ≡ false) ↔ IsClean rows bytes

-- ---- opened rows

-- each row of opened columns is the row of the chosen ones, xor what the choice word and the row of the sent ones share
abbrev pub OpensColumns : Type 0
OpensColumns =
    (choice : List ℕ) (chosen sent : List (List ℕ)) (rows j : ℕ)
    → length choice ≡ 64 → AreColumns rows chosen → AreColumns rows sent
    → row_of (opened_columns choice chosen sent) j ≡ xor (row_of chosen j) (both choice (row_of sent j))

-- where the chosen and the sent columns are those of one pair of column sets and of any row words, each opened row is
-- the row of the zero columns, xor what the choice word and the row's word share
abbrev pub OpensRows : Type 0
OpensRows =
    (choice : List ℕ) (sets : ColumnSets) (words : List (List ℕ)) (j : ℕ)
    → length choice ≡ 64 → AreColumns (length words) sets.zeros → AreColumns (length words) sets.ones
    → IsWord (slice_index_or words j [])
    → row_of (opened_columns choice (chosen_columns choice sets) (masked_columns words sets)) j
    ≡ xor (row_of sets.zeros j) (both choice (slice_index_or words j []))

-- ---- deals

-- the two deals of a seed are a pair
abbrev pub DealtArePairs : Type 0
DealtArePairs =
    (seed : List ℕ) (session tag_length stash : ℕ)
    → ArePair (dealt_receiver seed session tag_length stash) (dealt_sender seed session tag_length stash)

-- the file of a deal spells that deal
abbrev pub ReceiverFilesReadBack : Type 0
ReceiverFilesReadBack = (deal : ReceiverDeal) → IsReceiverDeal deal → receiver_of (receiver_bytes deal) ≡ deal

abbrev pub SenderFilesReadBack : Type 0
SenderFilesReadBack = (deal : SenderDeal) → IsSenderDeal deal → sender_of (sender_bytes deal) ≡ deal

-- and so does its file of version 1
abbrev pub OldReceiverFilesReadBack : Type 0
OldReceiverFilesReadBack =
    (deal : ReceiverDeal) (bytes : List ℕ) → IsOldReceiverFile deal bytes → old_receiver_of bytes ≡ deal

abbrev pub OldSenderFilesReadBack : Type 0
OldSenderFilesReadBack =
    (deal : SenderDeal) (bytes : List ℕ) → IsOldSenderFile deal bytes → old_sender_of bytes ≡ deal

-- ---- what is shown

-- in each setup, whatever the sender's items
abbrev pub SetupsShowCommon : Type 0
SetupsShowCommon = (stash : ℕ) (s : Setup) (ys : List (List ℕ)) → IsSetup stash s → ShowsCommon s ys

-- the setup of the two deals of a seed
abbrev pub setup_of_dealt : List ℕ → ℕ → ℕ → ℕ → List (List ℕ) → List Slot → Setup
setup_of_dealt seed session tag_length stash =
    setup_of stash (dealt_receiver seed session tag_length stash) (dealt_sender seed session tag_length stash)

-- in the setup of each dealt pair, whatever the placement and the sender's items
abbrev pub DealsShowCommon : Type 0
DealsShowCommon =
    (stash : ℕ) (seed : List ℕ) (session tag_length : ℕ) (xs ys : List (List ℕ)) (slots : List Slot)
    → IsPlacementOf stash (dealt_receiver seed session tag_length stash).key (bins_for (length xs)) xs slots
    → ShowsCommon (setup_of_dealt seed session tag_length stash xs slots) ys

-- the same, of no more items than the stash has rows, one after another in the stash
abbrev pub StashShowsCommon : Type 0
StashShowsCommon =
    (stash : ℕ) (seed : List ℕ) (session tag_length : ℕ) (xs ys : List (List ℕ)) → length xs ≤ stash
    → ShowsCommon
    (setup_of_dealt seed session tag_length stash xs (stash_slots (bins_for (length xs)) (length xs))) ys

-- ---- placements

-- items of which some list is crowded have no placement, whatever the rows of the stash
abbrev pub CrowdedExcludesPlacement : Type 0
CrowdedExcludesPlacement =
    (stash bins : ℕ) (candidates : List (List ℕ)) (items : List ℕ) (slots : List Slot)
    → IsCrowded stash candidates items → IsPlacement stash bins candidates slots → ⊥

-- what is picked is a placement, whatever the candidates
abbrev pub PickedIsPlacement : Type 0
PickedIsPlacement =
    (stash bins : ℕ) (candidates : List (List ℕ)) (slots : List Slot)
    → picked stash bins candidates ≡ Some slots → IsPlacement stash bins candidates slots
