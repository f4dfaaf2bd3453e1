-- The laws of scripts.
use Rattle.std.specs.Prelude.{◌≡◌, ◌↔◌, ℕ, List, [], ◌∷◌, ◌++◌, length, take, Some, ⊤}
use Rattle.std.specs.List.{flat_map}
use Rattle.psi_spec.specs.Frames.{AreBytes, Frame, layout}
use Rattle.psi_frames.specs.declared.expect.Expect.{Expect}
use Rattle.psi_frames.specs.declared.reasons.BadFrame.{BadFrame}
use Rattle.psi_frames.specs.Dialogue.{Reading, good, bad, short}
use Rattle.psi_frames.specs.Expected.{IsBegun, IsValid, frame_length, wrong}
use Rattle.psi_frames.specs.Script.{AreAwaited, IsRead, Script, over, sends, awaits, frames_of, owed, owed_for, reading_from}

-- what a script still does after these frames, past all that it sends for them
abbrev pub reached : Script → List Frame → Script
reached over frames = over
reached (sends out rest) frames = reached rest frames
reached (awaits e next) [] = awaits e next
reached (awaits e next) (f ∷ frames) = reached (next f) frames

-- these frames are due one after another, and more may be
abbrev pub AreDue : Script → List Frame → Type 0
AreDue over [] = ⊤
AreDue over (f ∷ frames) = ⊥
AreDue (sends out rest) frames = AreDue rest frames
AreDue (awaits e next) [] = ⊤
AreDue (awaits e next) (f ∷ frames) = IsValid e f × AreDue (next f) frames

-- after frames that are due, the bytes that follow are read by what the script still does
abbrev pub ReadsOn : Type 0
ReadsOn =
    (script : Script) (frames : List Frame) (taken more : List ℕ) → AreDue script frames
    → reading_from script taken (flat_map layout frames ++ more)
    ≡ reading_from (reached script frames) (taken ++ flat_map layout frames) more

-- what is owed for frames that are due, and then for the bytes that follow
abbrev pub OwesOn : Type 0
OwesOn =
    (script : Script) (frames : List Frame) (more : List ℕ) → AreDue script frames
    → owed script (flat_map layout frames ++ more) ≡ owed_for script frames ++ owed (reached script frames) more

-- what is owed for all frames that a script awaits, whatever follows them
abbrev pub OwesAll : Type 0
OwesAll =
    (script : Script) (frames : List Frame) (more : List ℕ) → AreAwaited script frames
    → owed script (flat_map layout frames ++ more) ≡ owed_for script frames

-- a reading that is not short
abbrev pub IsFinal : Reading → Type 0
IsFinal (short offset) = ⊥
IsFinal reading = ⊤

-- bytes that read well or badly read so whatever follows
abbrev pub ReadingStays : Type 0
ReadingStays =
    (script : Script) (taken bytes more : List ℕ) → IsFinal (reading_from script taken bytes)
    → reading_from script taken (bytes ++ more) ≡ reading_from script taken bytes

-- what is owed for some bytes is a front of what is owed for more
abbrev pub OwedGrows : Type 0
OwedGrows =
    (script : Script) (bytes more : List ℕ)
    → take (length (owed script bytes)) (owed script (bytes ++ more)) ≡ owed script bytes

-- bytes are those of frames that are due, and then these
pub record AreLed (script : Script) (bytes : List ℕ) (frames : List Frame) (rest : List ℕ) : Type 0 where
  pub due : AreDue script frames
  pub split : bytes ≡ flat_map layout frames ++ rest

-- the bytes of all frames that a script awaits stand at the front
pub record ReadsWell (script : Script) (before bytes taken : List ℕ) : Type 0 where
  pub frames : List Frame
  pub rest : List ℕ
  pub due : AreAwaited script frames
  pub split : bytes ≡ flat_map layout frames ++ rest
  pub taken_is : taken ≡ before ++ flat_map layout frames

-- behind frames that were due a field of the next is wrong
pub record ReadsBadly (script : Script) (before bytes : List ℕ) (frame : BadFrame) : Type 0 where
  pub frames : List Frame
  pub rest : List ℕ
  pub e : Expect
  pub next : Frame → Script
  pub led : AreLed script bytes frames rest
  pub awaited : reached script frames ≡ awaits e next
  pub first : wrong e (take (frame_length e) rest) ≡ Some frame.reason
  pub place : frame.offset ≡ length (before ++ flat_map layout frames)

-- behind frames that were due the next is only begun
pub record ReadsShort (script : Script) (before bytes : List ℕ) (offset : ℕ) : Type 0 where
  pub frames : List Frame
  pub rest : List ℕ
  pub e : Expect
  pub next : Frame → Script
  pub led : AreLed script bytes frames rest
  pub awaited : reached script frames ≡ awaits e next
  pub begun : IsBegun e rest
  pub place : offset ≡ length (before ++ flat_map layout frames)

-- how bytes read, frame by frame, behind the bytes before them
abbrev pub ReadsAs : Script → List ℕ → List ℕ → Reading → Type 0
ReadsAs script before bytes (good taken) = ReadsWell script before bytes taken
ReadsAs script before bytes (bad frame) = ReadsBadly script before bytes frame
ReadsAs script before bytes (short offset) = ReadsShort script before bytes offset

-- they read so exactly where they are such frames
abbrev pub ReadsFrames : Type 0
ReadsFrames =
    (script : Script) (before bytes : List ℕ) (reading : Reading) → AreBytes bytes
    → (reading_from script before bytes ≡ reading) ↔ ReadsAs script before bytes reading

-- the bytes of all frames that a script awaits read well, whatever follows them
abbrev pub ReadsAwaited : Type 0
ReadsAwaited =
    (script : Script) (frames : List Frame) (taken more : List ℕ) → IsRead script frames taken
    → reading_from script [] (taken ++ more) ≡ good taken

-- the frames of these bytes are those that a script awaits, whatever follows them
abbrev pub TakesAwaited : Type 0
TakesAwaited =
    (script : Script) (frames : List Frame) (taken more : List ℕ) → IsRead script frames taken
    → frames_of script (taken ++ more) ≡ frames
