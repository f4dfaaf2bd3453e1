-- What the frames say that may come to a receiver.
use Rattle.std.proofs.Common.{◌≡◌, ◌+◌, ◌*◌, ◌≤◌, ◌∙◌, ℕ, Bool, true, false, cond, nat_lt, nat_cmp, IsSorted, List, [], ◌∷◌, length, take, drop, Option, Some, None, option_map, refl, sym, ap, arith}
use Rattle.std.specs.Cmp.Lexicographic.{slice_cmp}
use Rattle.std.specs.Int.{w32, from_be_bytes}
use Rattle.std.proofs.lemmas.Bool.{ltb-false}
use Rattle.std.proofs.lemmas.List.{drop-drop, take_all, length-drop}
use Rattle.psi_spec.specs.Frames.{Frame, first_below, layout, sender_hello, tags_frame, tags_of}
use Rattle.psi_spec.specs.Limits.{limit_items}
use Rattle.psi_spec.proofs.Frames.{first_right, order_by_sorting}
use Rattle.psi_frames.specs.declared.reasons.Reason.{Reason}
use Rattle.psi_frames.specs.declared.reasons.Reason.TheVariants as reason
use Rattle.psi_frames.specs.declared.expect.Expect.TheVariants as expect
use Rattle.psi_frames.specs.declared.frame.Frame as lent
use Rattle.psi_frames.specs.declared.frame.Frame.TheVariants as frame
use Rattle.psi_frames.specs.Fields.{kind_field, length_field, index_field}
use Rattle.psi_frames.specs.Hello.{version_field, deal_field, session_field, count_field, hello_fields, number_fields}
use Rattle.psi_frames.specs.Tags.{list_field, tags_field, tags_fields}
use Rattle.psi_frames.specs.Expected.{IsValid, seen, wrong}
use Rattle.psi_frames.proofs.FrameAt.{frame_at_layout}
use Rattle.psi_receiver.specs.Script.{bytes_in, count_in}

-- ---- the sender's hello

not_refused : (b : Bool) (why : Reason) → cond b (Some why) None ≡ None → b ≡ false
not_refused true why e = cc
not_refused false why e = refl

-- its count is within the limit
pub count_that_comes : (id : List ℕ) (session : ℕ) (f : Frame) → IsValid (expect.SenderHello id session) f → count_in f ≤ limit_items
unfolding wrong
count_that_comes id session f valid =
    let bytes = layout f in
    let long = valid.long in
    let kind = first_right (kind_field 2) (length_field 29 ∷ hello_fields id session) bytes (omega (arith, long)) valid.right in
    let size = first_right (length_field 29) (hello_fields id session) (drop 1 bytes) (omega (arith, long, length-drop 1 bytes)) kind.1 in
    let fields : List ℕ = drop 4 (drop 1 bytes) in
    let fields_is : fields ≡ drop 5 bytes = drop-drop 4 1 bytes in
    let fields_long : length fields ≡ 29 = omega (arith, long, ap length fields_is, length-drop 5 bytes) in
    let version = first_right version_field (deal_field id ∷ number_fields session) fields (omega (arith, fields_long)) size.1 in
    let deal = first_right (deal_field id) (number_fields session) (drop 1 fields) (omega (arith, fields_long, length-drop 1 fields)) version.1 in
    let numbers : List ℕ = drop 16 (drop 1 fields) in
    let numbers_is : numbers ≡ drop 17 fields = drop-drop 16 1 fields in
    let numbers_long : length numbers ≡ 12 = omega (arith, fields_long, ap length numbers_is, length-drop 17 fields) in
    let number = first_right (session_field session) (count_field ∷ []) numbers (omega (arith, numbers_long)) deal.1 in
    let last = first_right count_field [] (drop 8 numbers) (omega (arith, numbers_long, length-drop 8 numbers)) number.1 in
    let found : ℕ = from_be_bytes w32 (take 4 (drop 8 numbers)) in
    let small : found ≤ limit_items = ltb-false limit_items found (not_refused (nat_lt limit_items found) (reason.Count found) last.0) in
    let whole : take 4 (drop 8 numbers) ≡ drop 25 (drop 5 bytes) =
    take_all 4 (drop 8 numbers) (omega (arith, numbers_long, length-drop 8 numbers))
    ∙ (ap (drop 8) numbers_is ∙ (drop-drop 8 17 fields ∙ ap (drop 25) fields_is)) in
    let said : from_be_bytes w32 (drop 25 (drop 5 bytes)) ≡ count_in f = ap count_in (frame_at_layout (expect.SenderHello id session) f valid) in
    omega (arith, small, ap (from_be_bytes w32) whole, said)

-- a frame that is no sender's hello is not seen as one
pub is_hello : (g : lent.Frame) (id : List ℕ) (session count : ℕ) → ((i : List ℕ) (s n : ℕ) → g ≡ frame.SenderHello i s n → ⊥) → seen g ≡ sender_hello id session count → ⊥
is_hello (frame.ReceiverHello i s n) id session count other e = cc
is_hello (frame.SenderHello i s n) id session count other e = other i s n refl
is_hello (frame.Column i b) id session count other e = cc
is_hello (frame.Tags list block b) id session count other e = cc
is_hello (frame.Values block b) id session count other e = cc
is_hello frame.Done id session count other e = cc

-- nor is one that has no tags seen as one of tags
pub is_tags : (g : lent.Frame) (list block : ℕ) (bytes : List ℕ) → ((l n : ℕ) (b : _) → g ≡ frame.Tags l n b → ⊥) → seen g ≡ tags_frame list block bytes → ⊥
is_tags (frame.ReceiverHello i s n) list block bytes other e = cc
is_tags (frame.SenderHello i s n) list block bytes other e = cc
is_tags (frame.Column i b) list block bytes other e = cc
is_tags (frame.Tags l n b) list block bytes other e = other l n b refl
is_tags (frame.Values n b) list block bytes other e = cc
is_tags frame.Done list block bytes other e = cc

-- ---- a block of tags

no_order : (at : Option ℕ) → option_map (λ (k : ℕ). reason.Order k) at ≡ None → at ≡ None
no_order None e = refl
no_order (Some at) e = absurd (cc)

-- tags that come rise from their floor
pub record AreTagsFrom (n width list block : ℕ) (floor : List ℕ) (f : Frame) : Type 0 where
  pub is : f ≡ tags_frame list block (bytes_in f)
  pub long : length (bytes_in f) ≡ n * width
  pub rises : IsSorted (slice_cmp nat_cmp) (take width floor ∷ tags_of n width (bytes_in f))

pub tags_that_come : (n width list block : ℕ) (floor : List ℕ) (f : Frame) → IsValid (expect.Tags list block n width floor) f
    → AreTagsFrom n width list block floor f
unfolding wrong
tags_that_come n width list block floor f valid =
    let bytes = layout f in
    let size : ℕ = n * width in
    let long = valid.long in
    let kind = first_right (kind_field 4) (length_field (5 + size) ∷ tags_fields list block n width floor) bytes (omega (arith, long)) valid.right in
    let payload = first_right (length_field (5 + size)) (tags_fields list block n width floor) (drop 1 bytes) (omega (arith, long, length-drop 1 bytes)) kind.1 in
    let fields : List ℕ = drop 4 (drop 1 bytes) in
    let fields_is : fields ≡ drop 5 bytes = drop-drop 4 1 bytes in
    let fields_long : length fields ≡ 5 + size = omega (arith, long, ap length fields_is, length-drop 5 bytes) in
    let number = first_right (list_field list) (index_field w32 block ∷ tags_field n width floor ∷ []) fields (omega (arith, fields_long)) payload.1 in
    let place = first_right (index_field w32 block) (tags_field n width floor ∷ []) (drop 1 fields) (omega (arith, fields_long, length-drop 1 fields)) number.1 in
    let tags : List ℕ = drop 4 (drop 1 fields) in
    let tags_is : tags ≡ drop 5 fields = drop-drop 4 1 fields in
    let tags_long : length tags ≡ size = omega (arith, fields_long, ap length tags_is, length-drop 5 fields) in
    let last = first_right (tags_field n width floor) [] tags (omega (arith, tags_long)) place.1 in
    let holds = frame_at_layout (expect.Tags list block n width floor) f valid in
    let whole : take size tags ≡ bytes_in f = take_all size tags (omega (arith, tags_long)) ∙ (tags_is ∙ (ap (drop 5) fields_is ∙ ap bytes_in holds)) in
    let ordered : first_below (take width floor) (tags_of n width (bytes_in f)) ≡ None =
    ap (λ (b : List ℕ). first_below (take width floor) (tags_of n width b)) (sym whole)
    ∙ no_order (first_below (take width floor) (tags_of n width (take size tags))) last.0 in
    record {
      is = sym holds ∙ ap (tags_frame list block) (ap bytes_in holds);
      long = ap length (sym (tags_is ∙ (ap (drop 5) fields_is ∙ ap bytes_in holds))) ∙ tags_long;
      rises = (order_by_sorting (take width floor) (tags_of n width (bytes_in f))).0 ordered;
    }
