-- Worked examples: the sizes of streams, the frames of a list, a sort, a change of columns, and the order of a session's
-- bytes.
use Rattle.std.proofs.Common.{◌≡◌, ℕ, List, [], ◌∷◌, length, replicate, take, refl}
use Rattle.psi_spec.specs.Bits.{packed}
use Rattle.psi_spec.specs.Columns.{row_of}
use Rattle.psi_spec.specs.ColumnSets.{ColumnSets, masked_columns, chosen_columns}
use Rattle.psi_spec.specs.Changes.{change, columns_file}
use Rattle.psi_spec.specs.Rising.{rising}
use Rattle.psi_spec.specs.Streams.{layouts, list_frames, IsReceiverStream, IsSenderStream}
use Rattle.psi_spec.specs.Frames.{receiver_hello, sender_hello, column_frame, tags_frame, done_frame}
use Rattle.psi_spec.specs.Sessions.{Move, by_receiver, by_sender, moves_with, of_receiver, of_sender}
use Rattle.psi_spec.proofs.StreamSizes.{receiver_streams_have_sizes, sender_streams_have_sizes}

-- ---- sizes

module _ (id : List ℕ) (session : ℕ) (bytes : List ℕ) (long : length id ≡ 16) where
  module _ (columns : List (List ℕ)) where
    -- three items and 4 rows of the stash: 8 rows, so columns of one byte
    receiver_of_3 : IsReceiverStream 4 id session 3 columns bytes → length bytes ≡ 4135
    receiver_of_3 = receiver_streams_have_sizes 4 id session 3 columns bytes long

    -- 300 items: 365 rows
    receiver_of_300 : IsReceiverStream 4 id session 300 columns bytes → length bytes ≡ 27175
    receiver_of_300 = receiver_streams_have_sizes 4 id session 300 columns bytes long

    -- one item, and no row of the stash: 2 rows
    receiver_of_1 : IsReceiverStream 0 id session 1 columns bytes → length bytes ≡ 4135
    receiver_of_1 = receiver_streams_have_sizes 0 id session 1 columns bytes long

    -- three items and 16 rows of the stash: 20 rows
    receiver_with_16 : IsReceiverStream 16 id session 3 columns bytes → length bytes ≡ 5159
    receiver_with_16 = receiver_streams_have_sizes 16 id session 3 columns bytes long

    -- without items there are still a bin and the rows of the stash
    receiver_of_none : IsReceiverStream 4 id session 0 columns bytes → length bytes ≡ 4135
    receiver_of_none = receiver_streams_have_sizes 4 id session 0 columns bytes long

  module _ (lists : List (List (List ℕ))) where
    -- 7 lists of three tags
    sender_of_3 : IsSenderStream 4 id session 16 3 lists bytes → length bytes ≡ 440
    sender_of_3 = sender_streams_have_sizes 4 id session 16 3 lists bytes long

    sender_of_300 : IsSenderStream 4 id session 1 300 lists bytes → length bytes ≡ 2204
    sender_of_300 = sender_streams_have_sizes 4 id session 1 300 lists bytes long

    sender_of_1 : IsSenderStream 0 id session 16 1 lists bytes → length bytes ≡ 112
    sender_of_1 = sender_streams_have_sizes 0 id session 16 1 lists bytes long

    sender_with_16 : IsSenderStream 16 id session 16 3 lists bytes → length bytes ≡ 1136
    sender_with_16 = sender_streams_have_sizes 16 id session 16 3 lists bytes long

    -- a sender without items sends its hello alone
    sender_of_none : IsSenderStream 4 id session 16 0 lists bytes → length bytes ≡ 34
    sender_of_none = sender_streams_have_sizes 4 id session 16 0 lists bytes long

-- ---- a list

-- list 2 of three items with tags of 16 bytes
list_2_begins :
    take 10 (layouts (list_frames 2 (replicate 3 (replicate 16 0)))) ≡ 4 ∷ 0 ∷ 0 ∷ 0 ∷ 53 ∷ 2 ∷ 0 ∷ 0 ∷ 0 ∷ 0 ∷ []
unfolding list_frames
list_2_begins = refl

length-list_2 : length (layouts (list_frames 2 (replicate 3 (replicate 16 0)))) ≡ 58
unfolding list_frames
length-list_2 = refl

-- without items there is no frame
no_frames : layouts (list_frames 2 []) ≡ []
unfolding list_frames
no_frames = refl

-- ---- sorting

sorted_is :
    rising ((2 ∷ []) ∷ (1 ∷ 5 ∷ []) ∷ (1 ∷ []) ∷ (2 ∷ []) ∷ (0 ∷ 9 ∷ []) ∷ [])
    ≡ (0 ∷ 9 ∷ []) ∷ (1 ∷ []) ∷ (1 ∷ 5 ∷ []) ∷ (2 ∷ []) ∷ (2 ∷ []) ∷ []
unfolding rising
sorted_is = refl

-- ---- a session

-- a receiver with no bin to fill sends one column here, and the sender two lists, of which the second is empty
moves : List Move
moves =
    moves_with (receiver_hello [] 0 1) (sender_hello [] 0 1) ((7 ∷ []) ∷ []) (((9 ∷ []) ∷ []) ∷ [] ∷ [])

moves_are :
    moves
    ≡ by_receiver (receiver_hello [] 0 1)
    ∷ by_sender (sender_hello [] 0 1)
    ∷ by_receiver (column_frame 0 (7 ∷ []))
    ∷ by_sender (tags_frame 0 0 (9 ∷ []))
    ∷ by_receiver done_frame
    ∷ []
unfolding moves list_frames
moves_are = refl

-- what each end sends of it
sent_are : (of_receiver moves ≡ receiver_hello [] 0 1 ∷ column_frame 0 (7 ∷ []) ∷ done_frame ∷ [])
    × (of_sender moves ≡ sender_hello [] 0 1 ∷ tags_frame 0 0 (9 ∷ []) ∷ [])
unfolding moves list_frames
sent_are = (refl, refl)

-- ---- a change: two columns of two rows, at the choice 1, 0

sets : ColumnSets
sets = record { zeros = (1 ∷ []) ∷ (2 ∷ []) ∷ []; ones = (0 ∷ []) ∷ (3 ∷ []) ∷ [] }

words : List (List ℕ)
words = (1 ∷ []) ∷ (0 ∷ []) ∷ []

others : List (List ℕ)
others = (0 ∷ []) ∷ (3 ∷ []) ∷ []

-- the words differ in bit 0 of both rows and in bit 1 of row 1: the zero column 0 and the one column 1 change
changed_is : columns_file (change (1 ∷ []) words others sets) ≡ 2 ∷ 0 ∷ 2 ∷ 1 ∷ []
unfolding sets words others change columns_file row_of packed
changed_is = refl

-- what is chosen stays
chosen_is : chosen_columns (1 ∷ []) (change (1 ∷ []) words others sets) ≡ (0 ∷ []) ∷ (2 ∷ []) ∷ []
unfolding sets words others change chosen_columns row_of packed
chosen_is = refl

-- and so is what is sent
sent_is : masked_columns words sets ≡ (0 ∷ []) ∷ (1 ∷ []) ∷ []
unfolding sets words masked_columns row_of packed
sent_is = refl

others_sent_is : masked_columns others (change (1 ∷ []) words others sets) ≡ (0 ∷ []) ∷ (1 ∷ []) ∷ []
unfolding sets words others change masked_columns row_of packed
others_sent_is = refl
