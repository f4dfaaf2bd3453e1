-- The laws of frames.
use Rattle.std.specs.Prelude.{◌≡◌, ◌*◌, ◌<◌, ◌≤◌, ◌⊎◌, ◌↔◌, ℕ, false, List, [], ◌∷◌, ◌++◌, length, take, drop, replicate, slice_index_or, Option, Some, None, Result, Ok, Err}
use Rattle.std.specs.Cmp.Lexicographic.{slice_cmp}
use Rattle.std.specs.List.Sorted.{IsSorted}
use Rattle.std.specs.Ordering.{nat_cmp}
use Rattle.psi_spec.specs.Frames.{AreBytes, Frame, first_below, is_below, layout, tags_of, total_size}
use Rattle.psi_frames.specs.declared.expect.Expect.{Expect}
use Rattle.psi_frames.specs.declared.frame.Frame as lent
use Rattle.psi_frames.specs.declared.reasons.BadFrame.{BadFrame}
use Rattle.psi_frames.specs.declared.reasons.Reason.{Reason}
use Rattle.psi_frames.specs.Expected.{IsBegun, IsWhole, IsValid, fields_of, frame_length, seen, wrong}
use Rattle.psi_frames.specs.Boxes.{IsNext, InboxState, after_feed, missing_of}

-- the fields of a frame fill it
abbrev pub FieldsFill : Type 0
FieldsFill = (e : Expect) → total_size (fields_of e) ≡ frame_length e

-- no tag is below the one before it exactly where they rise, from what stands before the first
abbrev pub OrderBySorting : Type 0
OrderBySorting =
    (before : List ℕ) (tags : List (List ℕ))
    → (first_below before tags ≡ None) ↔ IsSorted (slice_cmp nat_cmp) (before ∷ tags)

-- a tag of several, by its place
abbrev pub TagsByPlace : Type 0
TagsByPlace =
    (count tag_length : ℕ) (bytes : List ℕ) (k : ℕ) → k < count
    → slice_index_or (tags_of count tag_length bytes) k [] ≡ take tag_length (drop (k * tag_length) bytes)

-- no tag is below zeros: after them, as before a first block, the first tag is in order
abbrev pub NoneBelowZeros : Type 0
NoneBelowZeros =
    (tag_length : ℕ) (tag : List ℕ) → length tag ≡ tag_length
    → is_below tag (replicate tag_length 0) ≡ false

-- a field that is wrong is the first wrong one, whatever follows
abbrev pub WrongStays : Type 0
WrongStays =
    (e : Expect) (bytes more : List ℕ) (why : Reason) → wrong e bytes ≡ Some why → wrong e (bytes ++ more) ≡ Some why

-- the bytes are some whole frame
abbrev pub AreWhole : Expect → List ℕ → Type 0
AreWhole e bytes = (f : Frame) × IsWhole e bytes f

-- some field of them is wrong
abbrev pub AreWrong : Expect → List ℕ → Type 0
AreWrong e bytes = (why : Reason) × (wrong e bytes ≡ Some why)

-- the bytes begin the frame, are the whole frame or have a wrong field, and no two of these
pub record AreOneOfThree (e : Expect) (bytes : List ℕ) : Type 0 where
  pub some : IsBegun e bytes ⊎ (AreWhole e bytes ⊎ AreWrong e bytes)
  pub begun_or_whole : IsBegun e bytes → AreWhole e bytes → ⊥
  pub begun_or_wrong : IsBegun e bytes → AreWrong e bytes → ⊥
  pub whole_or_wrong : AreWhole e bytes → AreWrong e bytes → ⊥

-- so it is with all bytes that are no more than the frame has
abbrev pub OneOfThree : Type 0
OneOfThree =
    (e : Expect) (bytes : List ℕ) → AreBytes bytes → length bytes ≤ frame_length e → AreOneOfThree e bytes

-- the bytes are one frame at most
abbrev pub OneFrame : Type 0
OneFrame = (e : Expect) (bytes : List ℕ) (f g : Frame) → IsWhole e bytes f → IsWhole e bytes g → f ≡ g

-- bytes that are fed in two pieces are held as if they were one
abbrev pub FedInPieces : Type 0
FedInPieces =
    (e : Expect) (box : InboxState) (first second : List ℕ)
    → after_feed e second (after_feed e first box) ≡ after_feed e (first ++ second) box

-- the answer is this frame
abbrev pub Reads : Frame → Result (Option lent.Frame) BadFrame → Type 0
Reads f (Ok (Some g)) = seen g ≡ f
Reads f (Ok None) = ⊥
Reads f (Err bad) = ⊥

-- the layout of a frame that may come, fed to an inbox that holds nothing, is read as that frame, whatever follows it
abbrev pub ReadsWritten : Type 0
ReadsWritten =
    (e : Expect) (f : Frame) (more : List ℕ) (box : InboxState) (answer : Result (Option lent.Frame) BadFrame)
    → IsValid e f → box.held ≡ [] → box.refused ≡ None
    → IsNext (after_feed e (layout f ++ more) box) e answer → Reads f answer

-- an inbox that has refused wants nothing more, and takes nothing
abbrev pub RefusedTakesNone : Type 0
RefusedTakesNone =
    (e : Expect) (box : InboxState) (bytes : List ℕ) (bad : BadFrame)
    → box.refused ≡ Some bad → (missing_of box e ≡ 0) × (after_feed e bytes box ≡ box)
