-- What a sender's script comes to: the streams that it takes, and what it sends for them.
use Rattle.std.specs.Prelude.{◌≡◌, ◌≤◌, ℕ, List, [], ◌++◌, length, take}
use Rattle.psi_spec.specs.Deals.{ReceiverDeal, SenderDeal, ArePair, IsReceiverDeal, IsSenderDeal}
use Rattle.psi_spec.specs.Frames.{AreBytes, layout, receiver_hello, sender_hello}
use Rattle.psi_spec.specs.Limits.{limit_items, rows_for}
use Rattle.psi_spec.specs.Matrices.{IsColumnSet}
use Rattle.psi_spec.specs.Meeting.{Placed}
use Rattle.psi_spec.specs.Sessions.{dealt_masked}
use Rattle.psi_spec.specs.Streams.{layouts, IsReceiverStream, column_frames, dealt_sets, receiver_stream, sender_stream}
use Rattle.psi_frames.specs.Dialogue.{Dialogue, good}
use Rattle.psi_frames.specs.Script.{dialogue_of}
use Rattle.psi_sender.specs.Script.{sender_script}

-- a sender's end of a session
unfoldable pub sender_dialogue : SenderDeal → List (List ℕ) → Dialogue
sender_dialogue deal ys = dialogue_of (sender_script deal ys)

-- these bytes are a receiver's stream for the sender's deal, with a count and columns
abbrev pub IsStreamFor : SenderDeal → ℕ → List (List ℕ) → List ℕ → Type 0
IsStreamFor deal count columns bytes = IsReceiverStream deal.stash deal.id deal.session count columns bytes

-- a receiver's stream is taken whole, whatever follows it, and the sender's stream is sent for it
pub record Serves (deal : SenderDeal) (ys : List (List ℕ)) (count : ℕ) (columns : List (List ℕ)) (bytes : List ℕ)
    : Type 0 where
  pub reads : (more : List ℕ) → (sender_dialogue deal ys).reads_as (bytes ++ more) ≡ good bytes
  pub sends : (sender_dialogue deal ys).owes bytes ≡ sender_stream deal count columns ys

abbrev pub ServesStreams : Type 0
ServesStreams =
    (deal : SenderDeal) (ys : List (List ℕ)) (count : ℕ) (columns : List (List ℕ)) (bytes : List ℕ)
    → IsSenderDeal deal → IsStreamFor deal count columns bytes → Serves deal ys count columns bytes

-- and nothing else is taken whole
abbrev pub ServesNothingElse : Type 0
ServesNothingElse =
    (deal : SenderDeal) (ys : List (List ℕ)) (bytes taken : List ℕ)
    → IsSenderDeal deal → AreBytes bytes → (sender_dialogue deal ys).reads_as bytes ≡ good taken
    → (count : ℕ) × (columns : List (List ℕ)) × IsStreamFor deal count columns taken

-- the stream of a receiver with the other deal of the pair, whatever its items are and wherever they are placed, is a
-- stream for the sender's deal, and so it is taken whole
abbrev pub ServesHonestReceivers : Type 0
ServesHonestReceivers =
    (deal : SenderDeal) (ys : List (List ℕ)) (receiver : ReceiverDeal) (placed : List Placed)
    → IsSenderDeal deal → IsReceiverDeal receiver → ArePair receiver deal → length placed ≤ limit_items
    → let stream = receiver_stream receiver placed (dealt_sets receiver (rows_for receiver.stash (length placed))) in
    IsStreamFor deal (length placed) (dealt_masked receiver placed) stream
    × Serves deal ys (length placed) (dealt_masked receiver placed) stream

-- bytes begin with these
abbrev pub BeginWith : List ℕ → List ℕ → Type 0
BeginWith front bytes = take (length front) bytes ≡ front

-- what a sender owes once these bytes were taken, by what came whole: nothing; its hello, once the receiver's came; or
-- its stream for the count and the columns of the receiver's, once the last of them came
pub data OwesFor (deal : SenderDeal) (ys : List (List ℕ)) (taken owed : List ℕ) : Type 0 where
  for_nothing : owed ≡ [] → OwesFor deal ys taken owed
  for_hello
      : (count : ℕ) → BeginWith (layout (receiver_hello deal.id deal.session count)) taken
      → owed ≡ layout (sender_hello deal.id deal.session (length ys)) → OwesFor deal ys taken owed
  for_columns
      : (count : ℕ) (columns : List (List ℕ)) → count ≤ limit_items → IsColumnSet (rows_for deal.stash count) columns
      → BeginWith (layout (receiver_hello deal.id deal.session count) ++ layouts (column_frames 0 columns)) taken
      → owed ≡ sender_stream deal count columns ys → OwesFor deal ys taken owed

-- so it is for all bytes: a sender sends a front of one of these, whatever comes
abbrev pub OwesByWhatCame : Type 0
OwesByWhatCame =
    (deal : SenderDeal) (ys : List (List ℕ)) (taken : List ℕ) → IsSenderDeal deal → AreBytes taken
    → OwesFor deal ys taken ((sender_dialogue deal ys).owes taken)
