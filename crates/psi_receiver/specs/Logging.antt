-- The receiver's end whose session is written down, as contracts see it, and the room that its record has.
use Rattle.std.specs.Prelude.{◌≡◌, ◌+◌, ◌-◌, ◌≤◌, ℕ, false, List, [], length}
use Rattle.psi_spec.specs.Frames.{Frame, layout}
use Rattle.psi_spec.specs.Limits.{inbox_room}
use Rattle.psi_frames.specs.Boxes.{OutboxState}
use Rattle.psi_frames.specs.Column.{columns_size}
use Rattle.psi_frames.specs.Tags.{lists_size}
use Rattle.psi_frames.specs.Script.{EndState, IsWithin, Script, after_taking, script_of, wire_for}
use Rattle.psi_frames.specs.ScriptLaws.{AreDue}
use Rattle.psi_receiver.specs.Running.{KeptSince, ReceiverState}

-- a logged end: the receiver's end, and the bytes of its record so far
pub record LoggedState : Type 0 where
  pub core : ReceiverState
  pub log : List ℕ

-- no more than so many bytes go over the wire by a script, whatever frames come
abbrev pub IsMost : Script → ℕ → Type 0
IsMost script most = (frames : List Frame) → AreDue script frames → length (wire_for script frames) ≤ most

-- the bytes of lists of so many tags each, and of the end
abbrev pub rest_size : ℕ → ℕ → ℕ → ℕ
rest_size tag_length count lists = lists_size lists tag_length count + 5

-- the bytes of 512 columns of so many rows, of lists and of the end
abbrev pub answer_size : ℕ → ℕ → ℕ → ℕ → ℕ
answer_size rows tag_length count lists = columns_size rows + rest_size tag_length count lists

-- so many more bytes may be written down: the frame that an end takes, and all that goes over the wire after it
pub record HasRoomFor (state : EndState) (f : Frame) (spare : ℕ) : Type 0 where
  pub frame : length (layout f) ≤ spare
  pub rest : IsMost (script_of (after_taking f state)) (spare - length (layout f))

-- the record of an end has room for what is owed, and once a frame was taken for all that still goes over the wire;
-- each frame that may come fits the room for one, which is free
pub record IsLogging (state : EndState) (spare : ℕ) (box : OutboxState) : Type 0 where
  pub owed : length state.owes ≤ spare
  pub all : state.is_new ≡ false → IsMost (script_of state) spare
  pub most_frames : ℕ
  pub within : IsWithin most_frames state.next
  pub free : box ≡ record { pending = []; spare = inbox_room; room = inbox_room }

-- what a logged end keeps against an end that it was before: what the receiver's end does, and the wire in its record
pub record KeptLog (first e : LoggedState) (frames : List Frame) (wire : List ℕ) : Type 0 where
  pub core : KeptSince first.core e.core frames
  pub log : e.log ≡ wire
