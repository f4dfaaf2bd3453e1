-- How two ends play a session together, frame by frame.
use Rattle.std.specs.Prelude.{◌≡◌, ◌<◌, ◌^◌, ℕ, List, [], ◌∷◌, length, take}
use Rattle.psi_spec.specs.Frames.{Frame, layout}
use Rattle.psi_spec.specs.Sessions.{Move, by_receiver, by_sender, of_receiver, of_sender, wire_bytes}
use Rattle.psi_frames.specs.Converse.{KeepsFrame}
use Rattle.psi_frames.specs.Script.{EndState, IsWithin, Keeps, KeepsOn, MayCome, after_sending, after_taking, due_frame, over}
use Rattle.psi_session.specs.Transcripts.{Hearing, HearsOn}

-- one end owes a frame first, which the other one awaits
pub record Sends (f : Frame) (from to : EndState) : Type 0 where
  pub owes : take (length (layout f)) from.owes ≡ layout f
  pub due : MayCome (due_frame to) f

-- an end is done: it owes nothing, and awaits no frame
pub record IsDone (state : EndState) : Type 0 where
  pub owes : state.owes ≡ []
  pub next : state.next ≡ over

-- an end after it sent a frame
abbrev pub after_frame_sent : Frame → EndState → EndState
after_frame_sent f state = after_sending (length (layout f)) state

-- both ends, of which the first is the receiver, make these moves one after another, and then both are done
abbrev pub Plays : List Move → EndState → EndState → Type 0
Plays [] first second = IsDone first × IsDone second
Plays (by_receiver f ∷ moves) first second =
    Sends f first second × Plays moves (after_frame_sent f first) (after_taking f second)
Plays (by_sender f ∷ moves) first second =
    Sends f second first × Plays moves (after_taking f first) (after_frame_sent f second)

-- there are moves that both ends make until they are done
abbrev pub CanPlay : EndState → EndState → Type 0
CanPlay first second = (moves : List Move) × Plays moves first second

-- an end awaits at most so many frames, each of which fits an inbox
abbrev pub AwaitsFew : EndState → Type 0
AwaitsFew state = (n : ℕ) × (n < 2 ^ 32) × IsWithin n state.next

-- the frame that one end owes first was passed to the other, which took it, and a transcript heard its bytes
pub record HasPassed {From To Transcript : Type 0} (from to : EndState) (kept_by_from kept_by_from' : Keeps From)
    (kept_by_to kept_by_to' : Keeps To) (hears hears' : Hearing Transcript) (from' to' : EndState) : Type 0 where
  pub frame : Frame
  pub sends : Sends frame from to
  pub sender : KeepsOn kept_by_from kept_by_from' [] (layout frame)
  pub taker : KeepsFrame kept_by_to kept_by_to' frame
  pub heard : HearsOn hears hears' (layout frame)
  pub sent : from' ≡ after_frame_sent frame from
  pub taken : to' ≡ after_taking frame to

-- both ends made moves until they were done, each kept the frames that it took and all bytes that passed, and a
-- transcript heard these
pub record HasPlayed {First Second Transcript : Type 0} (begins_first begins_second : EndState)
    (kept_by_first kept_by_first' : Keeps First) (kept_by_second kept_by_second' : Keeps Second)
    (hears hears' : Hearing Transcript) (ends_first ends_second : EndState) : Type 0 where
  pub moves : List Move
  pub plays : Plays moves begins_first begins_second
  pub first : KeepsOn kept_by_first kept_by_first' (of_sender moves) (wire_bytes moves)
  pub second : KeepsOn kept_by_second kept_by_second' (of_receiver moves) (wire_bytes moves)
  pub heard : HearsOn hears hears' (wire_bytes moves)
  pub first_done : IsDone ends_first
  pub second_done : IsDone ends_second
