-- The frame that the layout of a frame holds is that frame, where it may come.
use Rattle.std.proofs.Common.{◌≡◌, ◌∙◌, ℕ, List, [], ◌∷◌, ◌++◌, drop, None, refl, ap, ap₂, arith}
use Rattle.std.specs.Int.{w16, w32, to_be_bytes, from_be_bytes}
use Rattle.psi_spec.specs.Frames.{hello_payload, layout}
use Rattle.psi_spec.specs.Frames as spec
use Rattle.psi_frames.specs.declared.expect.Expect.{Expect}
use Rattle.psi_frames.specs.declared.expect.Expect.TheVariants as expect
use Rattle.psi_frames.specs.Hello.{hello_fields}
use Rattle.psi_frames.specs.Column.{column_fields}
use Rattle.psi_frames.specs.Tags.{tags_fields}
use Rattle.psi_frames.specs.Values.{values_fields}
use Rattle.psi_frames.specs.Expected.{IsValid, payload_fields, frame_at, kind_of, payload_of, wrong}
use Rattle.psi_frames.proofs.Headers.{header_of}
use Rattle.psi_frames.proofs.Hellos.{hello_of}
use Rattle.psi_frames.proofs.ColumnParts.{column_of}
use Rattle.psi_frames.proofs.TagBlocks.{tags_in}
use Rattle.psi_frames.proofs.ValueBlocks.{values_of}

-- the kind of a frame
kind_in : spec.Frame → ℕ
kind_in (spec.receiver_hello id session count) = 1
kind_in (spec.sender_hello id session count) = 2
kind_in (spec.column_frame index bytes) = 3
kind_in (spec.tags_frame list block tags) = 4
kind_in (spec.values_frame block values) = 7
kind_in spec.done_frame = 5

-- a frame that may come has the expected kind
kind_right : (e : Expect) (f : spec.Frame) → wrong e (layout f) ≡ None → kind_in f ≡ kind_of e
unfolding wrong kind_in
kind_right e (spec.receiver_hello id session count) right = (header_of (kind_of e) (payload_of e) 1 (payload_fields e) (hello_payload id session count) right).0
kind_right e (spec.sender_hello id session count) right = (header_of (kind_of e) (payload_of e) 2 (payload_fields e) (hello_payload id session count) right).0
kind_right e (spec.column_frame index bytes) right = (header_of (kind_of e) (payload_of e) 3 (payload_fields e) (to_be_bytes w16 index ++ bytes) right).0
kind_right e (spec.tags_frame list block tags) right = (header_of (kind_of e) (payload_of e) 4 (payload_fields e) (list ∷ to_be_bytes w32 block ++ tags) right).0
kind_right e (spec.values_frame block values) right = (header_of (kind_of e) (payload_of e) 7 (payload_fields e) (to_be_bytes w32 block ++ values) right).0
kind_right e spec.done_frame right = (header_of (kind_of e) (payload_of e) 5 (payload_fields e) [] right).0

-- the layout of a frame that may come holds that frame
pub frame_at_layout : (e : Expect) (f : spec.Frame) → IsValid e f → frame_at e (layout f) ≡ f
unfolding wrong kind_in
frame_at_layout (expect.ReceiverHello id session) (spec.receiver_hello deal number items) valid =
    let is = hello_of id session deal number items valid.fits (header_of 1 29 1 (hello_fields id session) (hello_payload deal number items) valid.right).1 in
    ap₂ (λ (i : List ℕ) (s : ℕ). spec.receiver_hello i s (from_be_bytes w32 (drop 25 (hello_payload deal number items)))) is.0 is.1 ∙ ap (spec.receiver_hello deal number) is.2
frame_at_layout (expect.SenderHello id session) (spec.sender_hello deal number items) valid =
    let is = hello_of id session deal number items valid.fits (header_of 2 29 2 (hello_fields id session) (hello_payload deal number items) valid.right).1 in
    ap₂ (λ (i : List ℕ) (s : ℕ). spec.sender_hello i s (from_be_bytes w32 (drop 25 (hello_payload deal number items)))) is.0 is.1 ∙ ap (spec.sender_hello deal number) is.2
frame_at_layout (expect.Column index rows) (spec.column_frame place bytes) valid =
    let payload = (header_of 3 (payload_of (expect.Column index rows)) 3 (column_fields index rows) (to_be_bytes w16 place ++ bytes) valid.right).1 in
    ap (λ (i : ℕ). spec.column_frame i bytes) (column_of index rows place bytes valid.fits payload)
frame_at_layout (expect.Tags list block tags width floor) (spec.tags_frame of_list of_block bytes) valid =
    let payload = (header_of 4 (payload_of (expect.Tags list block tags width floor)) 4 (tags_fields list block tags width floor) (of_list ∷ to_be_bytes w32 of_block ++ bytes) valid.right).1 in
    let is = tags_in list block tags width floor of_list of_block bytes valid.fits payload in
    ap₂ (λ (l b : ℕ). spec.tags_frame l b bytes) is.0 is.1
frame_at_layout (expect.Values block tags tag_length) (spec.values_frame of_block bytes) valid =
    let payload = (header_of 7 (payload_of (expect.Values block tags tag_length)) 7 (values_fields block tags tag_length) (to_be_bytes w32 of_block ++ bytes) valid.right).1 in
    ap (λ (b : ℕ). spec.values_frame b bytes) (values_of block tags tag_length of_block bytes valid.fits payload)
frame_at_layout expect.Done spec.done_frame valid = refl
frame_at_layout e f valid = absurd (let kind : kind_in f ≡ kind_of e = kind_right e f valid.right in omega (arith, kind))
