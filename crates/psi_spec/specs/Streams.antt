-- What the two ends of a session send.
use Rattle.std.specs.Prelude.{◌≡◌, ◌≤◌, ◌+◌, ◌-◌, ◌*◌, ◌/◌, ℕ, List, [], ◌∷◌, ◌++◌, length, map, take, drop, All}
use Rattle.std.specs.List.{concat, flat_map, range_with_len}
use Rattle.psi_spec.specs.Limits.{limit_items, bins_for, rows_for}
use Rattle.psi_spec.specs.Matrices.{IsColumnSet}
use Rattle.psi_spec.specs.ColumnSets.{ColumnSets, masked_columns}
use Rattle.psi_spec.specs.Deals.{ReceiverDeal, SenderDeal, zero_columns, one_columns, sender_columns}
use Rattle.psi_spec.specs.Meeting.{Placed, row_word}
use Rattle.psi_spec.specs.Frames.{Frame, layout, receiver_hello, sender_hello, column_frame, tags_frame, done_frame}
use Rattle.psi_spec.specs.TagLists.{SenderSide, opened_row, tag_lists, IsTagList}

-- ---- the receiver's stream

-- the words of so many rows of a placed set
abbrev pub row_words : List ℕ → List Placed → ℕ → List (List ℕ)
row_words key placed rows = map (row_word key placed) (range_with_len 0 rows)

-- the words of all its rows
abbrev pub words_of : ReceiverDeal → List Placed → List (List ℕ)
words_of deal placed = row_words deal.key placed (rows_for deal.stash (length placed))

-- the bytes of frames, one after another
abbrev pub layouts : List Frame → List ℕ
layouts frames = flat_map layout frames

-- the frames of columns, from number c on
abbrev pub column_frames : ℕ → List (List ℕ) → List Frame
column_frames c [] = []
column_frames c (column ∷ columns) = column_frame c column ∷ column_frames (c + 1) columns

-- the bytes of a receiver that has so many items and sends these columns: its hello, the columns, and done
unfoldable pub columns_stream : List ℕ → ℕ → ℕ → List (List ℕ) → List ℕ
columns_stream id session count columns =
    layout (receiver_hello id session count) ++ layouts (column_frames 0 columns) ++ layout done_frame

-- the receiver's stream of a placed set, over any two column sets
unfoldable pub receiver_stream : ReceiverDeal → List Placed → ColumnSets → List ℕ
receiver_stream deal placed sets =
    columns_stream deal.id deal.session (length placed) (masked_columns (words_of deal placed) sets)

-- the column sets of a receiver's deal
abbrev pub dealt_sets : ReceiverDeal → ℕ → ColumnSets
dealt_sets deal rows = record { zeros = zero_columns deal rows; ones = one_columns deal rows }

-- ---- the sender's stream

-- the most tags of a frame
abbrev pub block_tags : ℕ
block_tags = 1024

-- the frames that hold so many tags
abbrev pub blocks_for : ℕ → ℕ
blocks_for count = (count + (block_tags - 1)) / block_tags

-- the tags of a block
abbrev pub block_of : List (List ℕ) → ℕ → List (List ℕ)
block_of tags block = take block_tags (drop (block_tags * block) tags)

-- the frame of a block of a list
abbrev pub block_frame : ℕ → List (List ℕ) → ℕ → Frame
block_frame list tags block = tags_frame list block (concat (block_of tags block))

-- the frames of a list
unfoldable pub list_frames : ℕ → List (List ℕ) → List Frame
list_frames list tags = map (block_frame list tags) (range_with_len 0 (blocks_for (length tags)))

-- the frames of lists, from this number on
abbrev pub lists_frames : ℕ → List (List (List ℕ)) → List Frame
lists_frames list [] = []
lists_frames list (tags ∷ lists) = list_frames list tags ++ lists_frames (list + 1) lists

-- the bytes of a sender that has so many items and sends these lists: its hello and the lists
unfoldable pub lists_stream : List ℕ → ℕ → ℕ → List (List (List ℕ)) → List ℕ
lists_stream id session count lists = layout (sender_hello id session count) ++ layouts (lists_frames 0 lists)

-- what a sender makes tags with, of its deal, of a receiver's count and of the words of the rows that it opened
abbrev pub side_of_rows : SenderDeal → ℕ → (ℕ → List ℕ) → SenderSide
side_of_rows deal count opened = record {
  key = deal.key;
  tag_length = deal.tag_length;
  choice = deal.choice;
  bins = bins_for count;
  opened = opened;
}

-- the same for a receiver's count and the columns that came
abbrev pub sender_side : SenderDeal → ℕ → List (List ℕ) → SenderSide
sender_side deal count sent =
    side_of_rows deal count (opened_row deal.choice (sender_columns deal (rows_for deal.stash count)) sent)

-- the frames that a sender answers a receiver's columns with, over any opened rows
unfoldable pub sender_answer : SenderDeal → ℕ → (ℕ → List ℕ) → List (List ℕ) → List ℕ
sender_answer deal count opened ys =
    layouts (lists_frames 0 (tag_lists deal.stash (side_of_rows deal count opened) ys))

-- the sender's stream for a receiver's count and columns
unfoldable pub sender_stream : SenderDeal → ℕ → List (List ℕ) → List (List ℕ) → List ℕ
sender_stream deal count sent ys =
    lists_stream deal.id deal.session (length ys) (tag_lists deal.stash (sender_side deal count sent) ys)

-- ---- well-formed streams

-- a receiver's stream for a deal's id and session is well formed with a count and columns
pub record IsReceiverStream
    (stash : ℕ) (id : List ℕ) (session count : ℕ) (columns : List (List ℕ)) (bytes : List ℕ) : Type 0 where
  pub few : count ≤ limit_items
  pub column_set : IsColumnSet (rows_for stash count) columns
  pub is : bytes ≡ columns_stream id session count columns

-- a sender's stream for a deal's id, session and tag length is well formed with a count and lists
pub record IsSenderStream
    (stash : ℕ) (id : List ℕ) (session tag_length count : ℕ) (lists : List (List (List ℕ))) (bytes : List ℕ) : Type 0
  where
    pub few : count ≤ limit_items
    pub size : length lists ≡ 3 + stash
    pub each : All (IsTagList tag_length count) lists
    pub is : bytes ≡ lists_stream id session count lists
