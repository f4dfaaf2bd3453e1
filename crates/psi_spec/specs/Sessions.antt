-- A session as a list of moves: which end sends which frame, in the order of the wire.
use Rattle.std.specs.Prelude.{ℕ, List, [], ◌∷◌, ◌++◌, length, map}
use Rattle.std.specs.List.{flat_map}
use Rattle.psi_spec.specs.Limits.{rows_for}
use Rattle.psi_spec.specs.ColumnSets.{masked_columns}
use Rattle.psi_spec.specs.Deals.{ReceiverDeal, SenderDeal}
use Rattle.psi_spec.specs.Frames.{Frame, layout, receiver_hello, sender_hello, done_frame}
use Rattle.psi_spec.specs.Meeting.{Placed}
use Rattle.psi_spec.specs.Streams.{words_of, dealt_sets, column_frames, lists_frames, sender_side}
use Rattle.psi_spec.specs.TagLists.{tag_lists}

-- an end sends a frame
pub data Move : Type 0 where
  by_receiver : Frame → Move
  by_sender : Frame → Move

-- the frame that a move sends
abbrev pub frame_of : Move → Frame
frame_of (by_receiver frame) = frame
frame_of (by_sender frame) = frame

-- the frames that the receiver sends
abbrev pub of_receiver : List Move → List Frame
of_receiver [] = []
of_receiver (by_receiver frame ∷ moves) = frame ∷ of_receiver moves
of_receiver (by_sender frame ∷ moves) = of_receiver moves

-- the frames that the sender sends
abbrev pub of_sender : List Move → List Frame
of_sender [] = []
of_sender (by_receiver frame ∷ moves) = of_sender moves
of_sender (by_sender frame ∷ moves) = frame ∷ of_sender moves

-- what stands on the wire: the bytes of all frames
abbrev pub wire_bytes : List Move → List ℕ
wire_bytes moves = flat_map (λ move. layout (frame_of move)) moves

-- the moves of a session with these hellos, columns and lists: both hellos, the columns, the lists, and done
abbrev pub moves_with : Frame → Frame → List (List ℕ) → List (List (List ℕ)) → List Move
moves_with hello answer columns lists =
    by_receiver hello
    ∷ by_sender answer
    ∷ map by_receiver (column_frames 0 columns)
    ++ (map by_sender (lists_frames 0 lists) ++ by_receiver done_frame ∷ [])

-- the columns that a receiver sends over its deal
abbrev pub dealt_masked : ReceiverDeal → List Placed → List (List ℕ)
dealt_masked deal placed =
    masked_columns (words_of deal placed) (dealt_sets deal (rows_for deal.stash (length placed)))

-- the lists that a sender makes of those columns
abbrev pub dealt_lists : ReceiverDeal → SenderDeal → List Placed → List (List ℕ) → List (List (List ℕ))
dealt_lists receiver sender placed ys =
    tag_lists sender.stash (sender_side sender (length placed) (dealt_masked receiver placed)) ys

-- the moves of the whole session of a pair of deals, the receiver's placed items and the sender's items
abbrev pub session_moves : ReceiverDeal → SenderDeal → List Placed → List (List ℕ) → List Move
session_moves receiver sender placed ys =
    moves_with (receiver_hello receiver.id receiver.session (length placed))
    (sender_hello sender.id sender.session (length ys))
    (dealt_masked receiver placed) (dealt_lists receiver sender placed ys)

-- its bytes
unfoldable pub session_bytes : ReceiverDeal → SenderDeal → List Placed → List (List ℕ) → List ℕ
session_bytes receiver sender placed ys = wire_bytes (session_moves receiver sender placed ys)
