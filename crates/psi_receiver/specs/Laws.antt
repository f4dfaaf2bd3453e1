-- What a receiver's script comes to: the streams that it takes, what it sends for them, and what stands on the wire.
use Rattle.std.specs.Prelude.{◌≡◌, ◌≤◌, ℕ, List, ◌++◌, length, take}
use Rattle.psi_spec.specs.Limits.{limit_items, rows_for}
use Rattle.psi_spec.specs.Deals.{ReceiverDeal, SenderDeal, ArePair, IsReceiverDeal}
use Rattle.psi_spec.specs.Frames.{AreBytes, receiver_hello, sender_hello}
use Rattle.psi_spec.specs.Meeting.{Placed}
use Rattle.psi_spec.specs.Sessions.{Move, dealt_masked, moves_with, wire_bytes}
use Rattle.psi_spec.specs.Streams.{IsSenderStream, dealt_sets, receiver_stream, sender_side, sender_stream}
use Rattle.psi_spec.specs.TagLists.{tag_lists}
use Rattle.psi_frames.specs.Dialogue.{Dialogue, good}
use Rattle.psi_frames.specs.Script.{dialogue_of, wire_of}
use Rattle.psi_receiver.specs.Script.{receiver_script}

-- a receiver's end of a session
unfoldable pub receiver_dialogue : ReceiverDeal → List Placed → Dialogue
receiver_dialogue deal placed = dialogue_of (receiver_script deal placed)

-- these bytes are a sender's stream for the receiver's deal, with a count and lists
abbrev pub IsStreamFor : ReceiverDeal → ℕ → List (List (List ℕ)) → List ℕ → Type 0
IsStreamFor deal count lists bytes =
    IsSenderStream deal.stash deal.id deal.session deal.tag_length count lists bytes

-- the stream of a receiver over its own deal
abbrev pub own_stream : ReceiverDeal → List Placed → List ℕ
own_stream deal placed = receiver_stream deal placed (dealt_sets deal (rows_for deal.stash (length placed)))

-- the moves of a session of a receiver with a sender that says this count and sends these lists
abbrev pub moves_heard : ReceiverDeal → List Placed → ℕ → List (List (List ℕ)) → List Move
moves_heard deal placed count lists =
    moves_with (receiver_hello deal.id deal.session (length placed)) (sender_hello deal.id deal.session count)
    (dealt_masked deal placed) lists

-- a sender's stream with a count and lists is taken whole, whatever follows it; the receiver's stream is sent for it, and
-- on the wire stand the moves of both
pub record Hears
    (deal : ReceiverDeal) (placed : List Placed) (count : ℕ) (lists : List (List (List ℕ))) (bytes : List ℕ) : Type 0
  where
    pub reads : (more : List ℕ) → (receiver_dialogue deal placed).reads_as (bytes ++ more) ≡ good bytes
    pub sends : (receiver_dialogue deal placed).owes bytes ≡ own_stream deal placed
    pub wire : wire_of (receiver_script deal placed) bytes ≡ wire_bytes (moves_heard deal placed count lists)

abbrev pub HearsStreams : Type 0
HearsStreams =
    (deal : ReceiverDeal) (placed : List Placed) (count : ℕ) (lists : List (List (List ℕ))) (bytes : List ℕ)
    → IsReceiverDeal deal → IsStreamFor deal count lists bytes → Hears deal placed count lists bytes

-- and nothing else is taken whole
abbrev pub HearsNothingElse : Type 0
HearsNothingElse =
    (deal : ReceiverDeal) (placed : List Placed) (bytes taken : List ℕ)
    → IsReceiverDeal deal → AreBytes bytes → (receiver_dialogue deal placed).reads_as bytes ≡ good taken
    → (count : ℕ) × (lists : List (List (List ℕ))) × IsStreamFor deal count lists taken

-- the stream of a sender with the other deal of the pair, whatever its items are and whichever columns it took, is a
-- stream for the receiver's deal, and so it is taken whole
abbrev pub HearsHonestSenders : Type 0
HearsHonestSenders =
    (deal : ReceiverDeal) (placed : List Placed) (sender : SenderDeal) (count : ℕ) (sent ys : List (List ℕ))
    → IsReceiverDeal deal → ArePair deal sender → length ys ≤ limit_items
    → let lists = tag_lists sender.stash (sender_side sender count sent) ys in
    IsStreamFor deal (length ys) lists (sender_stream sender count sent ys)
    × Hears deal placed (length ys) lists (sender_stream sender count sent ys)

-- whatever bytes of the peer were taken, and however much of what is owed for them was sent, it is a front of the
-- receiver's stream
abbrev pub SendsItsStream : Type 0
SendsItsStream =
    (deal : ReceiverDeal) (placed : List Placed) (taken : List ℕ) (n : ℕ)
    → let sent = take n ((receiver_dialogue deal placed).owes taken) in
    take (length sent) (own_stream deal placed) ≡ sent
