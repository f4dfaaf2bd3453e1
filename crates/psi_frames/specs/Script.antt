-- What one end of a session does, frame by frame: how the peer's bytes read by it, and what is owed for them.
use Rattle.std.specs.Prelude.{◌≡◌, ◌-◌, ◌<◌, ◌≤◌, ℕ, Bool, true, false, List, [], ◌∷◌, ◌++◌, length, take, drop, nat_lt, Option, Some, None, ⊤}
use Rattle.std.specs.List.{flat_map}
use Rattle.psi_spec.specs.Limits.{inbox_room}
use Rattle.psi_spec.specs.Frames.{Frame, layout}
use Rattle.psi_frames.specs.declared.expect.Expect.{Expect}
use Rattle.psi_frames.specs.declared.reasons.Reason.{Reason}
use Rattle.psi_frames.specs.declared.turns.Turn.{Turn}
use Rattle.psi_frames.specs.declared.turns.Turn.TheVariants as turn
use Rattle.psi_frames.specs.Expected.{IsValid, frame_at, frame_length, wrong}
use Rattle.psi_frames.specs.Dialogue.{Dialogue, Reading, good, bad, short}

-- what one end of a session does: it sends bytes, awaits a frame of the peer, or is done
pub data Script : Type 0 where
  over : Script
  sends : List ℕ → Script → Script
  awaits : Expect → (Frame → Script) → Script

-- goes on by what is wrong with the bytes in a frame's place, if anything, and else by whether they are too few
abbrev pub by_fault : {A : Type 0} → Option Reason → Bool → (Reason → A) → A → (Frame → A) → Frame → A
by_fault (Some why) few refused begun whole frame = refused why
by_fault None true refused begun whole frame = begun
by_fault None false refused begun whole frame = whole frame

-- goes on by what stands at the front of these bytes, where this frame is due: a first wrong field, a frame that is
-- only begun, or a whole one
abbrev pub by_front : {A : Type 0} → Expect → List ℕ → (Reason → A) → A → (Frame → A) → A
by_front e bytes refused begun whole =
    by_fault (wrong e (take (frame_length e) bytes)) (nat_lt (length bytes) (frame_length e)) refused begun whole
    (frame_at e (take (frame_length e) bytes))

-- how the bytes of a peer read by a script, after those that were taken
abbrev pub reading_from : Script → List ℕ → List ℕ → Reading
reading_from over taken bytes = good taken
reading_from (sends out rest) taken bytes = reading_from rest taken bytes
reading_from (awaits e next) taken bytes =
    by_front e bytes (λ why. bad (record { offset = length taken; reason = why })) (short (length taken))
    (λ frame. reading_from (next frame) (taken ++ take (frame_length e) bytes) (drop (frame_length e) bytes))

-- all that is to be sent once these bytes of the peer were taken
abbrev pub owed : Script → List ℕ → List ℕ
owed over bytes = []
owed (sends out rest) bytes = out ++ owed rest bytes
owed (awaits e next) bytes = by_front e bytes (λ why. []) [] (λ frame. owed (next frame) (drop (frame_length e) bytes))

-- how many bytes of the frame that is due are wanted once these of it came: none behind a wrong field
abbrev pub wanted_of : Expect → List ℕ → ℕ
wanted_of e bytes = by_front e bytes (λ why. 0) (frame_length e - length bytes) (λ frame. 0)

-- how many bytes are wanted once these bytes of the peer were taken: those of the frame that is due
abbrev pub wanted : Script → List ℕ → ℕ
wanted over bytes = 0
wanted (sends out rest) bytes = wanted rest bytes
wanted (awaits e next) bytes =
    by_front e bytes (λ why. 0) (frame_length e - length bytes)
    (λ frame. wanted (next frame) (drop (frame_length e) bytes))

-- an end with this script, as a dialogue
abbrev pub dialogue_of : Script → Dialogue
dialogue_of script = record { reads_as = reading_from script []; owes = owed script; wants = wanted script }

-- all that is to be sent once these frames of the peer were taken
abbrev pub owed_for : Script → List Frame → List ℕ
owed_for over frames = []
owed_for (sends out rest) frames = out ++ owed_for rest frames
owed_for (awaits e next) [] = []
owed_for (awaits e next) (f ∷ frames) = owed_for (next f) frames

-- all that stands on the wire once these frames of the peer were taken: what a script sends and what it takes, in order
abbrev pub wire_for : Script → List Frame → List ℕ
wire_for over frames = []
wire_for (sends out rest) frames = out ++ wire_for rest frames
wire_for (awaits e next) [] = []
wire_for (awaits e next) (f ∷ frames) = layout f ++ wire_for (next f) frames

-- the whole frames, at the front of these bytes of the peer, that a script takes
abbrev pub frames_of : Script → List ℕ → List Frame
frames_of over bytes = []
frames_of (sends out rest) bytes = frames_of rest bytes
frames_of (awaits e next) bytes =
    by_front e bytes (λ why. []) [] (λ frame. frame ∷ frames_of (next frame) (drop (frame_length e) bytes))

-- all that stands on the wire once these bytes of the peer were taken
abbrev pub wire_of : Script → List ℕ → List ℕ
wire_of script bytes = wire_for script (frames_of script bytes)

-- these frames, one after another, are all that a script awaits
abbrev pub AreAwaited : Script → List Frame → Type 0
AreAwaited over [] = ⊤
AreAwaited over (f ∷ frames) = ⊥
AreAwaited (sends out rest) frames = AreAwaited rest frames
AreAwaited (awaits e next) [] = ⊥
AreAwaited (awaits e next) (f ∷ frames) = IsValid e f × AreAwaited (next f) frames

-- these are the bytes of the frames that a script awaits
pub record IsRead (script : Script) (frames : List Frame) (taken : List ℕ) : Type 0 where
  pub due : AreAwaited script frames
  pub bytes : taken ≡ flat_map layout frames

-- at most n frames are awaited, whatever comes, and each of them fits an inbox
abbrev pub IsWithin : ℕ → Script → Type 0
IsWithin n over = ⊤
IsWithin n (sends out rest) = IsWithin n rest
IsWithin n (awaits e next) =
    (0 < n) × (frame_length e ≤ inbox_room) × ((f : Frame) → IsValid e f → IsWithin (n - 1) (next f))

-- an end in the middle of its script: the bytes that it owes, what it does after them, which is that it awaits a frame
-- or is done, and whether it took no frame yet
pub record EndState : Type 0 where
  pub owes : List ℕ
  pub next : Script
  pub is_new : Bool

-- a script that sends nothing first
abbrev pub IsSettled : Script → Type 0
IsSettled (sends out rest) = ⊥
IsSettled script = ⊤

-- what an end in this state still does
abbrev pub script_of : EndState → Script
script_of state = sends state.owes state.next

-- an end that owes these bytes first
abbrev pub owes_first : List ℕ → EndState → EndState
owes_first out state = record state { owes = out ++ state.owes }

-- the end that goes on with this script: what it sends first is owed
abbrev pub goes_on : Bool → Script → EndState
goes_on new over = record { owes = []; next = over; is_new = new }
goes_on new (sends out rest) = owes_first out (goes_on new rest)
goes_on new (awaits e next) = record { owes = []; next = awaits e next; is_new = new }

-- the frame that is due after these bytes: none while any are owed, or once all is done
abbrev pub due_after : List ℕ → Script → Option Expect
due_after [] (awaits e next) = Some e
due_after owes rest = None

-- the frame that is due
abbrev pub due_frame : EndState → Option Expect
due_frame state = due_after state.owes state.next

-- this frame may come where that one is due
abbrev pub MayCome : Option Expect → Frame → Type 0
MayCome None f = ⊥
MayCome (Some e) f = IsValid e f

-- the end after it took a frame
abbrev pub after_frame : Script → Frame → EndState → EndState
after_frame (awaits e next) f state = goes_on false (next f)
after_frame rest f state = state

abbrev pub after_taking : Frame → EndState → EndState
after_taking f state = after_frame state.next f state

-- the end after so many of the owed bytes were sent
abbrev pub after_sending : ℕ → EndState → EndState
after_sending n state = record state { owes = drop n state.owes }

-- what an end does next
abbrev pub next_turn : List ℕ → Script → Turn
next_turn [] over = turn.Finished
next_turn [] rest = turn.More
next_turn owes rest = turn.Send

abbrev pub turn_of : EndState → Turn
turn_of state = next_turn state.owes state.next

-- these bytes are a front of those, and all of them only where there are none
pub record IsPending (pending owes : List ℕ) : Type 0 where
  pub front : take (length pending) owes ≡ pending
  pub some : pending ≡ [] → owes ≡ []

-- what an end keeps of its session: what stands of it against an end that it was before, once these frames were taken
-- and these bytes went over the wire
abbrev pub Keeps : Type 0 → Type 1
Keeps End = End → List Frame → List ℕ → Type 0

-- what was kept goes on with these frames and these bytes
abbrev pub KeepsOn : {End : Type 0} → Keeps End → Keeps End → List Frame → List ℕ → Type 0
KeepsOn {End} old new frames bytes =
    (first : End) (before : List Frame) (wire : List ℕ)
    → old first before wire → new first (before ++ frames) (wire ++ bytes)
