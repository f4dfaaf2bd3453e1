-- What a receiver's columns hide from the sender: over arbitrary columns, which of the placed sets of one count it has.
use Rattle.std.specs.Prelude.{◌≡◌, ◌+◌, ◌%◌, ◌<◌, ℕ, ◌==◌, List, [], length, slice_index_or, if◌then◌else◌}
use Rattle.psi_spec.specs.Limits.{rows_for}
use Rattle.psi_spec.specs.Bits.{bit_of}
use Rattle.psi_spec.specs.Matrices.{IsColumnSet}
use Rattle.psi_spec.specs.ColumnSets.{ColumnSets, AreColumnSets, masked_columns, chosen_columns}
use Rattle.psi_spec.specs.Changes.{change}
use Rattle.psi_spec.specs.Deals.{ReceiverDeal, SenderDeal, sender_columns}
use Rattle.psi_spec.specs.Meeting.{Placed}
use Rattle.psi_spec.specs.TagLists.{opened_row, tag_lists}
use Rattle.psi_spec.specs.Streams.{words_of, receiver_stream, lists_stream, side_of_rows, sender_stream}

-- ---- the change, bit by bit

-- bit c of what the two words of row j differ in
abbrev pub differing_bit : List (List ℕ) → List (List ℕ) → ℕ → ℕ → ℕ
differing_bit words others c j =
    (bit_of (slice_index_or words j []) c + bit_of (slice_index_or others j []) c) % 2

-- bit j of column c of some columns
abbrev pub bit_in : List (List ℕ) → ℕ → ℕ → ℕ
bit_in columns c j = bit_of (slice_index_or columns c []) j

-- a change puts it into row j of the one column where the bit of the choice word is 0, and else into the zero column
pub record ChangesBit (choice : List ℕ) (words others : List (List ℕ)) (sets : ColumnSets) (c j : ℕ) : Type 0 where
  pub zero : bit_in (change choice words others sets).zeros c j
      ≡ (if bit_of choice c == 0 then bit_in sets.zeros c j
      else (bit_in sets.zeros c j + differing_bit words others c j) % 2)
  pub one : bit_in (change choice words others sets).ones c j
      ≡ (if bit_of choice c == 0 then (bit_in sets.ones c j + differing_bit words others c j) % 2
      else bit_in sets.ones c j)

-- each bit is changed so, over all columns and all words of one number of rows
abbrev pub ChangesBits : Type 0
ChangesBits =
    (rows : ℕ) (choice : List ℕ) (words others : List (List ℕ)) (sets : ColumnSets) (c j : ℕ)
    → AreColumnSets rows sets → length words ≡ rows → length others ≡ rows → c < 512
    → ChangesBit choice words others sets c j

-- ---- streams over any columns

-- the sender's stream over any chosen columns
unfoldable pub sender_stream_over : SenderDeal → List (List ℕ) → ℕ → List (List ℕ) → List (List ℕ) → List ℕ
sender_stream_over deal chosen count sent ys =
    lists_stream deal.id deal.session (length ys)
    (tag_lists deal.stash (side_of_rows deal count (opened_row deal.choice chosen sent)) ys)

-- a sender's stream is that over the columns of its own deal
abbrev pub StreamsAreOver : Type 0
StreamsAreOver =
    (deal : SenderDeal) (count : ℕ) (sent ys : List (List ℕ))
    → sender_stream deal count sent ys
    ≡ sender_stream_over deal (sender_columns deal (rows_for deal.stash count)) count sent ys

-- ---- what is hidden

-- the change by which other placed items stand for placed items
abbrev pub change_between : ReceiverDeal → List ℕ → List Placed → List Placed → ColumnSets → ColumnSets
change_between deal choice placed others sets = change choice (words_of deal placed) (words_of deal others) sets

-- the columns that placed items send over column sets
abbrev pub sent_columns : ReceiverDeal → List Placed → ColumnSets → List (List ℕ)
sent_columns deal placed sets = masked_columns (words_of deal placed) sets

-- to a sender with this choice word other placed items look over the changed column sets as placed items do
pub record Hides (deal : ReceiverDeal) (choice : List ℕ) (placed others : List Placed) (sets : ColumnSets) : Type 0
  where
    -- the change gives column sets, and is its own inverse
    pub changed : AreColumnSets (rows_for deal.stash (length placed)) (change_between deal choice placed others sets)
    pub undone : change_between deal choice placed others (change_between deal choice placed others sets) ≡ sets
    -- each column that the sender chose stays
    pub chosen : chosen_columns choice (change_between deal choice placed others sets) ≡ chosen_columns choice sets
    -- the receiver sends the same bytes
    pub sent : receiver_stream deal others (change_between deal choice placed others sets)
        ≡ receiver_stream deal placed sets
    -- and so does a sender with these chosen columns, whatever its items
    pub answered : (sender : SenderDeal) (ys : List (List ℕ)) → sender.choice ≡ choice
        → sender_stream_over sender (chosen_columns choice (change_between deal choice placed others sets))
        (length others) (sent_columns deal others (change_between deal choice placed others sets)) ys
        ≡ sender_stream_over sender (chosen_columns choice sets) (length placed) (sent_columns deal placed sets) ys

-- just one pair of column sets of so many rows has these chosen columns, for a sender with this choice word, and these
-- masked ones, for these row words
pub record HasOneSource (rows : ℕ) (choice : List ℕ) (words chosen sent : List (List ℕ)) : Type 0 where
  pub sets : ColumnSets
  pub are : AreColumnSets rows sets
  pub gives_chosen : chosen_columns choice sets ≡ chosen
  pub gives_sent : masked_columns words sets ≡ sent
  pub only : (other : ColumnSets) → AreColumnSets rows other → chosen_columns choice other ≡ chosen
      → masked_columns words other ≡ sent → other ≡ sets

-- what a sender sees fits both placed sets alike: what was just said, for all column sets; and whatever columns it may
-- have and get, they come from each of the placed sets, over one pair of column sets each
pub record HidesSet (deal : ReceiverDeal) (choice : List ℕ) (placed others : List Placed) : Type 0 where
  pub over_all : (sets : ColumnSets) → AreColumnSets (rows_for deal.stash (length placed)) sets
      → Hides deal choice placed others sets
  pub source : (chosen sent : List (List ℕ)) → IsColumnSet (rows_for deal.stash (length placed)) chosen
      → IsColumnSet (rows_for deal.stash (length placed)) sent
      → HasOneSource (rows_for deal.stash (length placed)) choice (words_of deal placed) chosen sent
      × HasOneSource (rows_for deal.stash (length placed)) choice (words_of deal others) chosen sent

-- for any two placed sets of one count, any deal and any choice word
abbrev pub SetsAreHidden : Type 0
SetsAreHidden =
    (deal : ReceiverDeal) (choice : List ℕ) (placed others : List Placed) → length others ≡ length placed
    → HidesSet deal choice placed others
