-- The one frame that may come next: its fields in order, and what is wrong with bytes in its place. What each kind has
-- stands in the file of its kind.
use Rattle.std.specs.Prelude.{◌≡◌, ◌+◌, ◌<◌, ℕ, List, [], ◌∷◌, length, drop, Option, None}
use Rattle.psi_spec.specs.Frames.{Field, Fits, first_wrong, layout}
use Rattle.psi_spec.specs.Frames as spec
use Rattle.psi_frames.specs.declared.expect.Expect.{Expect}
use Rattle.psi_frames.specs.declared.expect.Expect.TheVariants as expect
use Rattle.psi_frames.specs.declared.frame.Frame.{Frame}
use Rattle.psi_frames.specs.declared.frame.Frame.TheVariants as frame
use Rattle.psi_frames.specs.declared.reasons.Reason.{Reason}
use Rattle.psi_frames.specs.Fields.{kind_field, length_field}
use Rattle.psi_frames.specs.Hello.{count_in, hello_fields, hello_length, receiver_hello_kind, sender_hello_kind}
use Rattle.psi_frames.specs.Column.{column_fields, column_kind, column_length}
use Rattle.psi_frames.specs.Tags.{tags_fields, tags_kind, tags_length}
use Rattle.psi_frames.specs.Values.{values_fields, values_kind, values_length}
use Rattle.psi_frames.specs.Done.{done_kind, done_length}

-- the kind of the frame
abbrev pub kind_of : Expect → ℕ
kind_of (expect.ReceiverHello id session) = receiver_hello_kind
kind_of (expect.SenderHello id session) = sender_hello_kind
kind_of (expect.Column index rows) = column_kind
kind_of (expect.Tags list block tags tag_length floor) = tags_kind
kind_of (expect.Values block tags tag_length) = values_kind
kind_of expect.Done = done_kind

-- the length of its payload
abbrev pub payload_of : Expect → ℕ
payload_of (expect.ReceiverHello id session) = hello_length
payload_of (expect.SenderHello id session) = hello_length
payload_of (expect.Column index rows) = column_length rows
payload_of (expect.Tags list block tags tag_length floor) = tags_length tags tag_length
payload_of (expect.Values block tags tag_length) = values_length tags tag_length
payload_of expect.Done = done_length

-- the length of the whole frame
abbrev pub frame_length : Expect → ℕ
frame_length e = 5 + payload_of e

-- the fields of a payload
abbrev pub payload_fields : Expect → List (Field Reason)
payload_fields (expect.ReceiverHello id session) = hello_fields id session
payload_fields (expect.SenderHello id session) = hello_fields id session
payload_fields (expect.Column index rows) = column_fields index rows
payload_fields (expect.Tags list block tags tag_length floor) = tags_fields list block tags tag_length floor
payload_fields (expect.Values block tags tag_length) = values_fields block tags tag_length
payload_fields expect.Done = []

-- all fields, in the order in which they are judged
abbrev pub fields_of : Expect → List (Field Reason)
fields_of e = kind_field (kind_of e) ∷ length_field (payload_of e) ∷ payload_fields e

-- the reason of the first complete field that is wrong
unfoldable pub wrong : Expect → List ℕ → Option Reason
wrong e bytes = first_wrong (fields_of e) bytes

-- a frame as its parts, wherever its bytes lie
abbrev pub seen : Frame → spec.Frame
seen (frame.ReceiverHello id session count) = spec.receiver_hello id session count
seen (frame.SenderHello id session count) = spec.sender_hello id session count
seen (frame.Column index bytes) = spec.column_frame index bytes.now
seen (frame.Tags list block bytes) = spec.tags_frame list block bytes.now
seen (frame.Values block bytes) = spec.values_frame block bytes.now
seen frame.Done = spec.done_frame

-- the frame that a payload holds, where it is the expected one
abbrev pub payload_frame : Expect → List ℕ → spec.Frame
payload_frame (expect.ReceiverHello id session) payload = spec.receiver_hello id session (count_in payload)
payload_frame (expect.SenderHello id session) payload = spec.sender_hello id session (count_in payload)
payload_frame (expect.Column index rows) payload = spec.column_frame index (drop 2 payload)
payload_frame (expect.Tags list block tags tag_length floor) payload = spec.tags_frame list block (drop 5 payload)
payload_frame (expect.Values block tags tag_length) payload = spec.values_frame block (drop 4 payload)
payload_frame expect.Done payload = spec.done_frame

-- the frame that bytes hold, where it is the expected one
abbrev pub frame_at : Expect → List ℕ → spec.Frame
frame_at e bytes = payload_frame e (drop 5 bytes)

-- the bytes are a front of a frame, and no field of it is wrong so far
pub record IsBegun (e : Expect) (bytes : List ℕ) : Type 0 where
  pub short : length bytes < frame_length e
  pub right : wrong e bytes ≡ None

-- the bytes are the whole frame
pub record IsWhole (e : Expect) (bytes : List ℕ) (f : spec.Frame) : Type 0 where
  pub long : length bytes ≡ frame_length e
  pub right : wrong e bytes ≡ None
  pub fits : Fits f
  pub values : layout f ≡ bytes

-- the frame is one that may come
abbrev pub IsValid : Expect → spec.Frame → Type 0
IsValid e f = IsWhole e (layout f) f
