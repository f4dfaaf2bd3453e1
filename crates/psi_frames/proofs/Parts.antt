-- A frame may come exactly where its parts are those that are expected.
use Rattle.std.proofs.Common.{◌<◌, ◌+◌, ◌^◌, ◌*◌, ◌∷◌, ◌++◌, refl, subst, arith}
use Rattle.std.specs.Int.{w16, w32, to_be_bytes}
use Rattle.psi_spec.specs.Columns.{column_bytes}
use Rattle.psi_spec.specs.Frames.{Fits, hello_payload, layout}
use Rattle.psi_spec.specs.Frames as spec
use Rattle.psi_frames.specs.declared.expect.Expect.{Expect}
use Rattle.psi_frames.specs.declared.expect.Expect.TheVariants as expect
use Rattle.psi_frames.specs.Hello.{hello_fields}
use Rattle.psi_frames.specs.Column.{column_fields}
use Rattle.psi_frames.specs.Tags.{tags_fields}
use Rattle.psi_frames.specs.Values.{values_fields}
use Rattle.psi_frames.specs.Expected.{IsValid, frame_at, payload_of, wrong}
use Rattle.psi_frames.specs.Valid.{HasParts, ValidByParts}
use Rattle.psi_frames.proofs.Headers.{header_right}
use Rattle.psi_frames.proofs.Hellos.{hello_right, length-hello}
use Rattle.psi_frames.proofs.ColumnParts.{column_right}
use Rattle.psi_frames.proofs.TagBlocks.{tags_right}
use Rattle.psi_frames.proofs.ValueBlocks.{values_right}
use Rattle.psi_frames.proofs.Judged.{one_frame}
use Rattle.psi_frames.proofs.Spelled.{parts_at, whole_at}

-- a frame with the expected parts may come
pub valid_from_parts : (e : Expect) (f : spec.Frame) → payload_of e < 2 ^ 32 → Fits f → HasParts e f → IsValid e f
unfolding wrong
valid_from_parts (expect.ReceiverHello id session) (spec.receiver_hello deal number items) small fits parts =
    let long = length-hello deal number items fits.id in
    record { long = omega (arith, long); right = header_right 1 29 (hello_fields id session) (hello_payload deal number items) long (omega arith) (hello_right id session deal number items fits parts); fits = fits; values = refl }
valid_from_parts (expect.SenderHello id session) (spec.sender_hello deal number items) small fits parts =
    let long = length-hello deal number items fits.id in
    record { long = omega (arith, long); right = header_right 2 29 (hello_fields id session) (hello_payload deal number items) long (omega arith) (hello_right id session deal number items fits parts); fits = fits; values = refl }
valid_from_parts (expect.Column index rows) (spec.column_frame place bytes) small fits parts =
    record { long = omega (arith, parts.long); right = header_right 3 (2 + column_bytes rows) (column_fields index rows) (to_be_bytes w16 place ++ bytes) (omega (arith, parts.long)) small (column_right index rows place bytes fits parts); fits = fits; values = refl }
valid_from_parts (expect.Tags list block tags width floor) (spec.tags_frame of_list of_block bytes) small fits parts =
    record { long = omega (arith, parts.long); right = header_right 4 (5 + tags * width) (tags_fields list block tags width floor) (of_list ∷ to_be_bytes w32 of_block ++ bytes) (omega (arith, parts.long)) small (tags_right list block tags width floor of_list of_block bytes fits parts); fits = fits; values = refl }
valid_from_parts (expect.Values block tags tag_length) (spec.values_frame of_block bytes) small fits parts =
    record { long = omega (arith, parts.long); right = header_right 7 (4 + tags * tag_length) (values_fields block tags tag_length) (to_be_bytes w32 of_block ++ bytes) (omega (arith, parts.long)) small (values_right block tags tag_length of_block bytes fits parts); fits = fits; values = refl }
valid_from_parts expect.Done spec.done_frame small fits parts = record { long = refl; right = refl; fits = tt; values = refl }
valid_from_parts e f small fits parts = absurd parts

pub valid_by_parts : ValidByParts
valid_by_parts e f small bound = (
  (λ valid.
      let whole = whole_at e (layout f) small valid.long valid.right in
      (valid.fits, subst (λ (g : spec.Frame). HasParts e g) (one_frame e (layout f) (frame_at e (layout f)) f whole valid) (parts_at e (layout f) small valid.long valid.right))),
  λ parts. valid_from_parts e f bound parts.0 parts.1,
)
