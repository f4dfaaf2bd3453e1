-- The laws of sessions: what streams hide, what they tell, how long they are, and what the receiver finds in them.
use Rattle.std.specs.Prelude.{◌≡◌, ◌≤◌, ◌<◌, ◌+◌, ◌*◌, ℕ, List, [], ◌∷◌, ◌++◌, length, IsPermutation}
use Rattle.psi_spec.specs.Limits.{limit_items, bins_for, rows_for}
use Rattle.psi_spec.specs.Columns.{column_bytes, row_of}
use Rattle.psi_spec.specs.Matrices.{AreColumns}
use Rattle.psi_spec.specs.ColumnSets.{ColumnSets, AreColumnSets, masked_columns, chosen_columns, opened_columns}
use Rattle.psi_spec.specs.Deals.{ReceiverDeal, SenderDeal, ArePair, zero_columns, one_columns, sender_columns}
use Rattle.psi_spec.specs.Placement.{Slot, IsPlacementOf}
use Rattle.psi_spec.specs.Meeting.{Placed, placed_of, Setup, IsSetup, shown, ShowsCommon, setup_of}
use Rattle.psi_spec.specs.Frames.{Frame, layout, receiver_hello, sender_hello, done_frame, hello_size, column_head, tags_head, done_size}
use Rattle.psi_spec.specs.TagLists.{SenderSide, opened_row, tag_lists}
use Rattle.psi_spec.specs.Streams.{row_words, words_of, dealt_sets, layouts, column_frames, columns_stream, receiver_stream, blocks_for, lists_frames, lists_stream, sender_side, sender_answer, sender_stream, IsReceiverStream, IsSenderStream}
use Rattle.psi_spec.specs.Hits.{ReceiverSide, hit_items, receiver_side}
use Rattle.psi_spec.specs.Sessions.{dealt_masked, moves_with, of_receiver, of_sender, session_bytes, session_moves, wire_bytes}

-- ---- the order of the sender's items

-- the sender's stream is the same for its items in any order
abbrev pub OrderIsHidden : Type 0
OrderIsHidden =
    (deal : SenderDeal) (count : ℕ) (sent ys zs : List (List ℕ)) → IsPermutation ys zs
    → sender_stream deal count sent ys ≡ sender_stream deal count sent zs

-- and so is all that stands on the wire
abbrev pub SessionsHideOrder : Type 0
SessionsHideOrder =
    (receiver : ReceiverDeal) (sender : SenderDeal) (placed : List Placed) (ys zs : List (List ℕ)) → IsPermutation ys zs
    → session_bytes receiver sender placed ys ≡ session_bytes receiver sender placed zs

-- ---- what a session depends on

-- of two receivers' deals all that is sent of so many rows agrees: id, session, key and stash, and both columns of each
-- base transfer
pub record SendAlike (rows : ℕ) (a b : ReceiverDeal) : Type 0 where
  pub id : a.id ≡ b.id
  pub session : a.session ≡ b.session
  pub key : a.key ≡ b.key
  pub stash : a.stash ≡ b.stash
  pub zeros : zero_columns a rows ≡ zero_columns b rows
  pub ones : one_columns a rows ≡ one_columns b rows

-- of two senders' deals all that is answered over so many rows agrees: id, session, key, tag length, stash and choice
-- word, and the column of each base transfer
pub record AnswerAlike (rows : ℕ) (a b : SenderDeal) : Type 0 where
  pub id : a.id ≡ b.id
  pub session : a.session ≡ b.session
  pub key : a.key ≡ b.key
  pub tag_length : a.tag_length ≡ b.tag_length
  pub stash : a.stash ≡ b.stash
  pub choice : a.choice ≡ b.choice
  pub columns : sender_columns a rows ≡ sender_columns b rows

-- of its deals a session depends on these alone: where they agree its bytes are the same, whatever else the deals and
-- their files are
abbrev pub SessionsDependOnColumns : Type 0
SessionsDependOnColumns =
    (receiver other_receiver : ReceiverDeal) (sender other_sender : SenderDeal) (placed : List Placed)
    (ys : List (List ℕ))
    → SendAlike (rows_for receiver.stash (length placed)) receiver other_receiver
    → AnswerAlike (rows_for sender.stash (length placed)) sender other_sender
    → session_bytes receiver sender placed ys ≡ session_bytes other_receiver other_sender placed ys

-- ---- what the sender answers

-- a sender that opens its columns sends its hello, and the answer that the rows of the opened columns make
abbrev pub OpenedColumnsAnswer : Type 0
OpenedColumnsAnswer =
    (deal : SenderDeal) (count : ℕ) (sent ys : List (List ℕ))
    → length deal.choice ≡ 64 → length deal.chosen ≡ 512 → AreColumns (rows_for deal.stash count) sent
    → sender_stream deal count sent ys
    ≡ layout (sender_hello deal.id deal.session (length ys))
    ++ sender_answer deal count
    (row_of (opened_columns deal.choice (sender_columns deal (rows_for deal.stash count)) sent)) ys

-- ---- well-formed streams

-- the receiver's stream of placed items over column sets is well formed, with their count and the masked columns
abbrev pub ReceiverStreamsAreWellFormed : Type 0
ReceiverStreamsAreWellFormed =
    (deal : ReceiverDeal) (placed : List Placed) (sets : ColumnSets)
    → length placed ≤ limit_items → AreColumnSets (rows_for deal.stash (length placed)) sets
    → IsReceiverStream deal.stash deal.id deal.session (length placed) (masked_columns (words_of deal placed) sets)
    (receiver_stream deal placed sets)

-- the sender's stream is well formed, with the count of its items and the lists
abbrev pub SenderStreamsAreWellFormed : Type 0
SenderStreamsAreWellFormed =
    (deal : SenderDeal) (count : ℕ) (sent ys : List (List ℕ)) → length ys ≤ limit_items → deal.tag_length ≤ 16
    → IsSenderStream deal.stash deal.id deal.session deal.tag_length (length ys)
    (tag_lists deal.stash (sender_side deal count sent) ys) (sender_stream deal count sent ys)

-- the bytes of a receiver's stream tell its count and its columns
abbrev pub ReceiverStreamsTell : Type 0
ReceiverStreamsTell =
    (stash : ℕ) (id : List ℕ) (session m n : ℕ) (us vs : List (List ℕ)) (bytes : List ℕ)
    → IsReceiverStream stash id session m us bytes → IsReceiverStream stash id session n vs bytes
    → (m ≡ n) × (us ≡ vs)

-- the bytes of a sender's stream tell its count and its lists
abbrev pub SenderStreamsTell : Type 0
SenderStreamsTell =
    (stash : ℕ) (id : List ℕ) (session tag_length m n : ℕ) (ls ks : List (List (List ℕ))) (bytes : List ℕ)
    → IsSenderStream stash id session tag_length m ls bytes → IsSenderStream stash id session tag_length n ks bytes
    → (m ≡ n) × (ls ≡ ks)

-- ---- sizes

-- a receiver's stream has a hello, 512 frames of a column, and an end
abbrev pub ReceiverStreamsHaveSizes : Type 0
ReceiverStreamsHaveSizes =
    (stash : ℕ) (id : List ℕ) (session count : ℕ) (columns : List (List ℕ)) (bytes : List ℕ)
    → length id ≡ 16 → IsReceiverStream stash id session count columns bytes
    → length bytes ≡ hello_size + 512 * (column_head + column_bytes (rows_for stash count)) + done_size

-- a sender's stream has a hello, and of each list what stands before the tags of each frame, and the tags
abbrev pub SenderStreamsHaveSizes : Type 0
SenderStreamsHaveSizes =
    (stash : ℕ) (id : List ℕ) (session tag_length count : ℕ) (lists : List (List (List ℕ))) (bytes : List ℕ)
    → length id ≡ 16 → IsSenderStream stash id session tag_length count lists bytes
    → length bytes ≡ hello_size + (3 + stash) * (tags_head * blocks_for count + tag_length * count)

-- ---- moves

-- of the moves of a session the receiver makes its hello, the columns and done, and the sender its hello and the lists
abbrev pub EndsMove : Type 0
EndsMove =
    (hello answer : Frame) (columns : List (List ℕ)) (lists : List (List (List ℕ)))
    → (of_receiver (moves_with hello answer columns lists) ≡ hello ∷ column_frames 0 columns ++ done_frame ∷ [])
    × (of_sender (moves_with hello answer columns lists) ≡ answer ∷ lists_frames 0 lists)

-- over a pair of deals, or any others, these are the receiver's and the sender's stream
abbrev pub SessionsHaveStreams : Type 0
SessionsHaveStreams =
    (receiver : ReceiverDeal) (sender : SenderDeal) (placed : List Placed) (ys : List (List ℕ))
    → (layouts (of_receiver (session_moves receiver sender placed ys))
    ≡ receiver_stream receiver placed (dealt_sets receiver (rows_for receiver.stash (length placed))))
    × (layouts (of_sender (session_moves receiver sender placed ys))
    ≡ sender_stream sender (length placed) (dealt_masked receiver placed) ys)

-- the wire of a session has as many bytes as both streams
abbrev pub WiresJoinStreams : Type 0
WiresJoinStreams =
    (id peer_id : List ℕ) (session peer_session m n : ℕ) (columns : List (List ℕ)) (lists : List (List (List ℕ)))
    → length (wire_bytes (moves_with (receiver_hello id session m) (sender_hello peer_id peer_session n) columns lists))
    ≡ length (columns_stream id session m columns) + length (lists_stream peer_id peer_session n lists)

-- ---- what the receiver finds

-- the receiver's side of a setup
abbrev pub finder_of : Setup → ReceiverSide
finder_of s = record { key = s.key; tag_length = s.tag_length; columns = s.columns; bins = s.bins; placed = s.placed }

-- the column sets of a setup with these one columns
abbrev pub sets_of : Setup → List (List ℕ) → ColumnSets
sets_of s ones = record { zeros = s.columns; ones = ones }

-- the words of the rows of a setup
abbrev pub setup_words : ℕ → Setup → List (List ℕ)
setup_words stash s = row_words s.key s.placed (s.bins + stash)

-- the sender's side of a setup whose one columns are these, once the masked columns came
abbrev pub opener_of : ℕ → Setup → List (List ℕ) → SenderSide
opener_of stash s ones = record {
  key = s.key;
  tag_length = s.tag_length;
  choice = s.choice;
  bins = s.bins;
  opened = opened_row s.choice (chosen_columns s.choice (sets_of s ones))
      (masked_columns (setup_words stash s) (sets_of s ones));
}

-- in each setup with a bin, over any columns and whatever the sender's items: the items that are hit in the sender's
-- lists are those that are shown
abbrev pub SetupsHitShown : Type 0
SetupsHitShown =
    (stash : ℕ) (s : Setup) (ones ys : List (List ℕ)) → IsSetup stash s → 0 < s.bins
    → AreColumns (s.bins + stash) s.columns → AreColumns (s.bins + stash) ones
    → hit_items (finder_of s) (tag_lists stash (opener_of stash s ones) ys) ≡ shown s ys

-- the setup of a pair of deals and the receiver's items in their slots
abbrev pub pair_setup : ReceiverDeal → SenderDeal → List (List ℕ) → List Slot → Setup
pair_setup receiver sender xs slots = setup_of receiver.stash receiver sender xs slots

-- the sender's lists for the masked columns of the receiver's items in their slots
abbrev pub pair_lists
    : ReceiverDeal → SenderDeal → List (List ℕ) → List Slot → List (List ℕ) → List (List (List ℕ))
pair_lists receiver sender xs slots ys =
    tag_lists sender.stash (sender_side sender (length xs) (dealt_masked receiver (placed_of xs slots))) ys

-- what the receiver finds of a pair of deals is shown: the common items, and others only with the tag of an item that
-- they name
pub record FindsShown
    (receiver : ReceiverDeal) (sender : SenderDeal) (xs ys : List (List ℕ)) (slots : List Slot) : Type 0 where
  -- in the lists that the sender makes of the masked columns
  pub hit : hit_items (receiver_side receiver xs slots) (pair_lists receiver sender xs slots ys)
      ≡ shown (pair_setup receiver sender xs slots) ys
  -- and in those that are read from the sender's stream
  pub read : (count : ℕ) (lists : List (List (List ℕ))) → length ys ≤ limit_items → receiver.tag_length ≤ 16
      → IsSenderStream receiver.stash receiver.id receiver.session receiver.tag_length count lists
      (sender_stream sender (length xs) (dealt_masked receiver (placed_of xs slots)) ys)
      → hit_items (receiver_side receiver xs slots) lists ≡ shown (pair_setup receiver sender xs slots) ys
  pub shows : ShowsCommon (pair_setup receiver sender xs slots) ys

-- for each pair of deals with 512 seeds and a choice word of 64 bytes, whatever the placement and the sender's items
abbrev pub PairsFindShown : Type 0
PairsFindShown =
    (receiver : ReceiverDeal) (sender : SenderDeal) (xs ys : List (List ℕ)) (slots : List Slot)
    → ArePair receiver sender → length receiver.seeds ≡ 512 → length sender.choice ≡ 64
    → IsPlacementOf receiver.stash receiver.key (bins_for (length xs)) xs slots
    → FindsShown receiver sender xs ys slots
