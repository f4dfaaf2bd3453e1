-- The laws of paired lines: which lines are shown, and what a receiver's columns hide of its lines.
use Rattle.std.specs.Prelude.{◌≡◌, ◌<◌, ℕ, Bool, true, false, List, [], length, slice_index_or}
use Rattle.std.specs.Str.{bytes_eq}
use Rattle.psi_spec.specs.Matrices.{IsColumnSet}
use Rattle.psi_spec.specs.ColumnSets.{ColumnSets, AreColumnSets, masked_columns, chosen_columns}
use Rattle.psi_spec.specs.Changes.{change}
use Rattle.psi_spec.specs.Deals.{ReceiverDeal, SenderDeal, ArePair, zero_columns, one_columns, sender_columns}
use Rattle.psi_spec.specs.TagLists.{opened_row}
use Rattle.psi_spec.specs.PairedRows.{paired_rows, paired_words, ValueSide, sent_values, OwnSide, own_value, found_lines, paired_value, shown_lines}
use Rattle.psi_spec.specs.HidingLaws.{HasOneSource}

-- ---- what is shown

-- line j of a list
abbrev pub line_at : List (List ℕ) → ℕ → List ℕ
line_at lines j = slice_index_or lines j []

-- whether line j is marked
abbrev pub mark_at : List Bool → ℕ → Bool
mark_at marks j = slice_index_or marks j false

-- there is a mark for each line; a line is marked where its value by both lists is its own, so each line that is equal
-- in both lists is marked, and each other marked line has equal tags
pub record ShowsEqual (r : OwnSide) (choice : List ℕ) (xs ys : List (List ℕ)) : Type 0 where
  pub count : length (shown_lines r choice xs ys) ≡ length xs
  pub marks : (j : ℕ) → j < length xs
      → mark_at (shown_lines r choice xs ys) j
      ≡ bytes_eq (own_value r j) (paired_value r choice j (line_at xs j) (line_at ys j))
  pub equal : (j : ℕ) → j < length xs → line_at xs j ≡ line_at ys j
      → mark_at (shown_lines r choice xs ys) j ≡ true
  pub others : (j : ℕ) → j < length xs → mark_at (shown_lines r choice xs ys) j ≡ true
      → own_value r j ≡ paired_value r choice j (line_at xs j) (line_at ys j)

-- so it is of any two lists of one count, over any 512 columns and any choice word
abbrev pub ListsShowEqual : Type 0
ListsShowEqual =
    (r : OwnSide) (choice : List ℕ) (xs ys : List (List ℕ)) → length choice ≡ 64 → length r.columns ≡ 512
    → length ys ≡ length xs → ShowsEqual r choice xs ys

-- ---- what is found of a pair of deals

-- what a receiver compares values with, of its deal and so many lines
abbrev pub own_side : ReceiverDeal → ℕ → OwnSide
own_side deal count = record {
  key = deal.key;
  tag_length = deal.tag_length;
  columns = zero_columns deal (paired_rows count);
}

-- what a sender makes values with, of its deal, over any opened rows
abbrev pub value_side_over : SenderDeal → (ℕ → List ℕ) → ValueSide
value_side_over deal opened = record {
  key = deal.key;
  tag_length = deal.tag_length;
  choice = deal.choice;
  opened = opened;
}

-- the same for a receiver's count and the columns that came
abbrev pub value_side : SenderDeal → ℕ → List (List ℕ) → ValueSide
value_side deal count sent =
    value_side_over deal (opened_row deal.choice (sender_columns deal (paired_rows count)) sent)

-- the columns that a receiver of lines sends over column sets
abbrev pub sent_columns_of_lines : List ℕ → List (List ℕ) → ColumnSets → List (List ℕ)
sent_columns_of_lines key xs sets = masked_columns (paired_words key xs) sets

-- the same over those of its deal
abbrev pub dealt_columns_of_lines : ReceiverDeal → List (List ℕ) → List (List ℕ)
dealt_columns_of_lines deal xs =
    sent_columns_of_lines deal.key xs
    (record { zeros = zero_columns deal (paired_rows (length xs)); ones = one_columns deal (paired_rows (length xs)) })

-- what the receiver of a pair of deals finds in the values of its sender is shown
abbrev pub PairsFindShownLines : Type 0
PairsFindShownLines =
    (receiver : ReceiverDeal) (sender : SenderDeal) (xs ys : List (List ℕ))
    → ArePair receiver sender → length receiver.seeds ≡ 512 → length sender.choice ≡ 64 → length ys ≡ length xs
    → found_lines (own_side receiver (length xs))
    (sent_values (value_side sender (length xs) (dealt_columns_of_lines receiver xs)) ys)
    ≡ shown_lines (own_side receiver (length xs)) sender.choice xs ys

-- ---- what is hidden

-- the change by which other lines stand for lines
abbrev pub change_between_lines : List ℕ → List ℕ → List (List ℕ) → List (List ℕ) → ColumnSets → ColumnSets
change_between_lines key choice xs others sets = change choice (paired_words key xs) (paired_words key others) sets

-- to a sender with this choice word other lines look over the changed column sets as lines do
pub record HidesLines (key choice : List ℕ) (xs others : List (List ℕ)) (sets : ColumnSets) : Type 0 where
  -- the change gives column sets, and is its own inverse
  pub changed : AreColumnSets (paired_rows (length xs)) (change_between_lines key choice xs others sets)
  pub undone : change_between_lines key choice xs others (change_between_lines key choice xs others sets) ≡ sets
  -- each column that the sender chose stays
  pub chosen : chosen_columns choice (change_between_lines key choice xs others sets) ≡ chosen_columns choice sets
  -- the receiver sends the same columns
  pub sent : sent_columns_of_lines key others (change_between_lines key choice xs others sets)
      ≡ sent_columns_of_lines key xs sets
  -- and a sender with these chosen columns the same values, whatever its lines
  pub answered : (sender : SenderDeal) (ys : List (List ℕ)) → sender.choice ≡ choice
      → sent_values
      (value_side_over sender
      (opened_row choice (chosen_columns choice (change_between_lines key choice xs others sets))
      (sent_columns_of_lines key others (change_between_lines key choice xs others sets))))
      ys
      ≡ sent_values
      (value_side_over sender (opened_row choice (chosen_columns choice sets) (sent_columns_of_lines key xs sets))) ys

-- what a sender sees fits both lists alike: what was just said, for all column sets; and whatever columns it may have
-- and get, they come from each of the lists, over one pair of column sets each
pub record HidesList (key choice : List ℕ) (xs others : List (List ℕ)) : Type 0 where
  pub over_all : (sets : ColumnSets) → AreColumnSets (paired_rows (length xs)) sets
      → HidesLines key choice xs others sets
  pub source : (chosen sent : List (List ℕ)) → IsColumnSet (paired_rows (length xs)) chosen
      → IsColumnSet (paired_rows (length xs)) sent
      → HasOneSource (paired_rows (length xs)) choice (paired_words key xs) chosen sent
      × HasOneSource (paired_rows (length xs)) choice (paired_words key others) chosen sent

-- for any two lists of one count, any key and any choice word
abbrev pub ListsAreHidden : Type 0
ListsAreHidden =
    (key choice : List ℕ) (xs others : List (List ℕ)) → length others ≡ length xs → HidesList key choice xs others
