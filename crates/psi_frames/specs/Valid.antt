-- The frames that may come, by their parts.
use Rattle.std.specs.Prelude.{◌^◌, ◌<◌, ◌↔◌, ⊤}
use Rattle.psi_spec.specs.Frames.{AreBytes, Fits, layout}
use Rattle.psi_spec.specs.Frames as spec
use Rattle.psi_frames.specs.declared.expect.Expect.{Expect}
use Rattle.psi_frames.specs.declared.expect.Expect.TheVariants as expect
use Rattle.psi_frames.specs.Expected.{IsValid, payload_of}
use Rattle.psi_frames.specs.Hello.{IsHelloOf}
use Rattle.psi_frames.specs.Column.{IsColumnOf}
use Rattle.psi_frames.specs.Tags.{AreTagsOf}
use Rattle.psi_frames.specs.Values.{AreValuesOf}

-- the parts of a frame are those that are expected
abbrev pub HasParts : Expect → spec.Frame → Type 0
HasParts (expect.ReceiverHello id session) (spec.receiver_hello deal number items) =
    IsHelloOf id session deal number items
HasParts (expect.SenderHello id session) (spec.sender_hello deal number items) =
    IsHelloOf id session deal number items
HasParts (expect.Column index rows) (spec.column_frame place bytes) = IsColumnOf index rows place bytes
HasParts (expect.Tags list block tags tag_length floor) (spec.tags_frame of_list of_block bytes) =
    AreTagsOf list block tags tag_length floor of_list of_block bytes
HasParts (expect.Values block tags tag_length) (spec.values_frame of_block bytes) =
    AreValuesOf block tags tag_length of_block bytes
HasParts expect.Done spec.done_frame = ⊤
HasParts e f = ⊥

-- a frame may come exactly where its parts fit their fields and are those that are expected
abbrev pub ValidByParts : Type 0
ValidByParts =
    (e : Expect) (f : spec.Frame) → AreBytes (layout f) → payload_of e < 2 ^ 32
    → IsValid e f ↔ (Fits f × HasParts e f)
