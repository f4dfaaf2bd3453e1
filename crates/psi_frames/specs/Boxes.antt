-- The boxes that frames leave from and come into, as contracts see them.
use Rattle.std.specs.Prelude.{◌≡◌, ◌+◌, ◌-◌, ◌^◌, ◌<◌, ◌≤◌, ℕ, List, [], ◌++◌, length, min, take, drop, nat_lt, Option, Some, None, Result, Ok, Err, IfSome, if◌then◌else◌}
use Rattle.std.specs.Option.{option_map_or}
use Rattle.psi_frames.specs.declared.expect.Expect.{Expect}
use Rattle.psi_frames.specs.declared.frame.Frame.{Frame}
use Rattle.psi_frames.specs.declared.reasons.BadFrame.{BadFrame}
use Rattle.psi_frames.specs.Expected.{IsBegun, IsWhole, frame_length, seen, wrong}

-- an outbox: the bytes that are to be sent, how many more may be added now, and how many may be when none is to be sent
pub record OutboxState : Type 0 where
  pub pending : List ℕ
  pub spare : ℕ
  pub room : ℕ

-- with these bytes added
abbrev pub with_added : List ℕ → OutboxState → OutboxState
with_added bytes old = record old { pending = old.pending ++ bytes; spare = old.spare - length bytes }

-- with the first n bytes sent: once none is left, the whole room is spare again
abbrev pub with_sent : ℕ → OutboxState → OutboxState
with_sent n old = record old {
  pending = drop n old.pending;
  spare = if nat_lt n (length old.pending) then old.spare else old.room;
}

-- where the pending bytes of an outbox stand in its room: at its start wherever there are none
pub record AreEnds (start end room : ℕ) : Type 0 where
  pub ordered : start ≤ end
  pub within : end ≤ room
  pub small : room < 2 ^ 32
  pub again : start ≡ end → end ≡ 0

-- an inbox: how many bytes it may hold, those that it holds of the frame in progress, the place of that frame's first
-- byte among all that came, and what was refused
pub record InboxState : Type 0 where
  pub room : ℕ
  pub held : List ℕ
  pub offset : ℕ
  pub refused : Option BadFrame

-- the refusal names the first field that is wrong in the held bytes, and the place of the frame
pub record IsRefusal (box : InboxState) (e : Expect) (bad : BadFrame) : Type 0 where
  pub first : wrong e box.held ≡ Some bad.reason
  pub place : bad.offset ≡ box.offset

-- a call may expect this frame: it fits the room and ends at a place below 2 ^ 64, no more is held than it has, and
-- what was refused, if anything, is this frame
pub record MayExpect (box : InboxState) (e : Expect) : Type 0 where
  pub room : frame_length e ≤ box.room
  pub offset : box.offset + frame_length e < 2 ^ 64
  pub held : length box.held ≤ frame_length e
  pub refused : IfSome box.refused (IsRefusal box e)

-- how many bytes of the frame are still wanted
abbrev pub missing_of : InboxState → Expect → ℕ
missing_of box e = option_map_or (λ _. 0) box.refused (frame_length e - length box.held)

-- how many of so many bytes are taken
abbrev pub taken_of : InboxState → Expect → ℕ → ℕ
taken_of box e n = min n (missing_of box e)

-- the inbox after `feed`: with as many of the bytes as are still wanted
abbrev pub after_feed : Expect → List ℕ → InboxState → InboxState
after_feed e bytes old = record old { held = old.held ++ take (taken_of old e (length bytes)) bytes }

-- what `next` answers: a frame where the held bytes are a whole one, None where they begin one, and else the first
-- field that is wrong
abbrev pub IsNext : InboxState → Expect → Result (Option Frame) BadFrame → Type 0
IsNext box e (Ok (Some frame)) = IsWhole e box.held (seen frame)
IsNext box e (Ok None) = IsBegun e box.held
IsNext box e (Err bad) = IsRefusal box e bad

-- with a whole frame lent
abbrev pub with_lent : Expect → InboxState → InboxState
with_lent e old = record old { held = []; offset = old.offset + frame_length e; refused = None }

-- what `next` leaves: the inbox without the frame that it lends, the inbox as it was, or with the refusal
abbrev pub Leaves : InboxState → Expect → Result (Option Frame) BadFrame → InboxState → Type 0
Leaves old e (Ok (Some frame)) new = new ≡ with_lent e old
Leaves old e (Ok None) new = new ≡ old
Leaves old e (Err bad) new = new ≡ record old { refused = Some bad }
