-- What the frames say that may come to a sender.
use Rattle.std.proofs.Common.{◌≡◌, ◌+◌, ◌/◌, ◌≤◌, ◌∙◌, ℕ, Bool, true, false, cond, nat_lt, List, [], ◌∷◌, length, take, drop, get_or, Some, None, refl, sym, ap, arith}
use Rattle.std.specs.Int.{w16, w32, from_be_bytes}
use Rattle.std.proofs.lemmas.Bool.{ltb-false}
use Rattle.std.proofs.lemmas.List.{drop-drop, take_all, length-drop}
use Rattle.psi_spec.specs.Columns.{column_bytes}
use Rattle.psi_spec.specs.Frames.{Frame, layout, receiver_hello, column_frame}
use Rattle.psi_spec.specs.Limits.{limit_items}
use Rattle.psi_spec.specs.Matrices.{IsClean, has_padding}
use Rattle.psi_spec.proofs.Clean.{clean_from_padding}
use Rattle.psi_spec.proofs.Frames.{first_right}
use Rattle.psi_frames.specs.declared.reasons.Reason.{Reason}
use Rattle.psi_frames.specs.declared.reasons.Reason.TheVariants as reason
use Rattle.psi_frames.specs.declared.expect.Expect.TheVariants as expect
use Rattle.psi_frames.specs.declared.frame.Frame as lent
use Rattle.psi_frames.specs.declared.frame.Frame.TheVariants as frame
use Rattle.psi_frames.specs.Fields.{kind_field, length_field, index_field}
use Rattle.psi_frames.specs.Hello.{version_field, deal_field, session_field, count_field, hello_fields, number_fields}
use Rattle.psi_frames.specs.Column.{column_field, column_fields}
use Rattle.psi_frames.specs.Expected.{IsValid, seen, wrong}
use Rattle.psi_frames.proofs.FrameAt.{frame_at_layout}
use Rattle.psi_sender.specs.Script.{count_in, bytes_in}

not_refused : (b : Bool) (why : Reason) → cond b (Some why) None ≡ None → b ≡ false
not_refused true why e = cc
not_refused false why e = refl

-- the count of a receiver's hello is within the limit
pub count_that_comes : (id : List ℕ) (session : ℕ) (f : Frame) → IsValid (expect.ReceiverHello id session) f → count_in f ≤ limit_items
unfolding wrong
count_that_comes id session f valid =
    let bytes = layout f in
    let long = valid.long in
    let kind = first_right (kind_field 1) (length_field 29 ∷ hello_fields id session) bytes (omega (arith, long)) valid.right in
    let size = first_right (length_field 29) (hello_fields id session) (drop 1 bytes) (omega (arith, long, length-drop 1 bytes)) kind.1 in
    let fields : List ℕ = drop 4 (drop 1 bytes) in
    let fields_is : fields ≡ drop 5 bytes = drop-drop 4 1 bytes in
    let fields_long : length fields ≡ 29 = omega (arith, long, ap length fields_is, length-drop 5 bytes) in
    let version = first_right version_field (deal_field id ∷ number_fields session) fields (omega (arith, fields_long)) size.1 in
    let deal = first_right (deal_field id) (number_fields session) (drop 1 fields) (omega (arith, fields_long, length-drop 1 fields)) version.1 in
    let numbers : List ℕ = drop 16 (drop 1 fields) in
    let numbers_is : numbers ≡ drop 17 fields = drop-drop 16 1 fields in
    let numbers_long : length numbers ≡ 12 = omega (arith, fields_long, ap length numbers_is, length-drop 17 fields) in
    let number = first_right (session_field session) (count_field ∷ []) numbers (omega (arith, numbers_long)) deal.1 in
    let last = first_right count_field [] (drop 8 numbers) (omega (arith, numbers_long, length-drop 8 numbers)) number.1 in
    let found : ℕ = from_be_bytes w32 (take 4 (drop 8 numbers)) in
    let small : found ≤ limit_items = ltb-false limit_items found (not_refused (nat_lt limit_items found) (reason.Count found) last.0) in
    let whole : take 4 (drop 8 numbers) ≡ drop 25 (drop 5 bytes) =
    take_all 4 (drop 8 numbers) (omega (arith, numbers_long, length-drop 8 numbers))
    ∙ (ap (drop 8) numbers_is ∙ (drop-drop 8 17 fields ∙ ap (drop 25) fields_is)) in
    let said : from_be_bytes w32 (drop 25 (drop 5 bytes)) ≡ count_in f = ap count_in (frame_at_layout (expect.ReceiverHello id session) f valid) in
    omega (arith, small, ap (from_be_bytes w32) whole, said)

-- a column that comes is one: it has a bit for each row, and none behind the last
pub record IsColumnFrame (index rows : ℕ) (f : Frame) : Type 0 where
  pub is : f ≡ column_frame index (bytes_in f)
  pub long : length (bytes_in f) ≡ column_bytes rows
  pub clean : IsClean rows (bytes_in f)

pub column_that_comes : (index rows : ℕ) (f : Frame) → IsValid (expect.Column index rows) f → IsColumnFrame index rows f
unfolding wrong
column_that_comes index rows f valid =
    let bytes = layout f in
    let n : ℕ = column_bytes rows in
    let long = valid.long in
    let kind = first_right (kind_field 3) (length_field (2 + n) ∷ column_fields index rows) bytes (omega (arith, long)) valid.right in
    let size = first_right (length_field (2 + n)) (column_fields index rows) (drop 1 bytes) (omega (arith, long, length-drop 1 bytes)) kind.1 in
    let fields : List ℕ = drop 4 (drop 1 bytes) in
    let fields_is : fields ≡ drop 5 bytes = drop-drop 4 1 bytes in
    let fields_long : length fields ≡ 2 + n = omega (arith, long, ap length fields_is, length-drop 5 bytes) in
    let place = first_right (index_field w16 index) (column_field rows ∷ []) fields (omega (arith, fields_long)) size.1 in
    let column : List ℕ = drop 2 fields in
    let column_long : length column ≡ n = omega (arith, fields_long, length-drop 2 fields) in
    let last = first_right (column_field rows) [] column (omega (arith, column_long)) place.1 in
    let whole : take n column ≡ column = take_all n column (omega (arith, column_long)) in
    let holds = frame_at_layout (expect.Column index rows) f valid in
    let said : column ≡ bytes_in f = ap (drop 2) fields_is ∙ ap bytes_in holds in
    let padding : has_padding rows (bytes_in f) ≡ false =
    ap (has_padding rows) (sym (whole ∙ said)) ∙ not_refused (has_padding rows (take n column)) (reason.Padding (get_or (take n column) (rows / 8) 0)) last.0 in
    let long_bytes : length (bytes_in f) ≡ n = ap length (sym said) ∙ column_long in
    record {
      is = sym holds ∙ ap (column_frame index) (ap bytes_in holds);
      long = long_bytes;
      clean = clean_from_padding rows (bytes_in f) long_bytes padding;
    }

-- a frame that is no column is not seen as one
pub is_column : (g : lent.Frame) (index : ℕ) (bytes : List ℕ) → ((i : ℕ) (b : _) → g ≡ frame.Column i b → ⊥) → seen g ≡ column_frame index bytes → ⊥
is_column (frame.ReceiverHello id session count) index bytes other e = cc
is_column (frame.SenderHello id session count) index bytes other e = cc
is_column (frame.Column i b) index bytes other e = other i b refl
is_column (frame.Tags list block b) index bytes other e = cc
is_column (frame.Values block b) index bytes other e = cc
is_column frame.Done index bytes other e = cc

-- nor is one that is no receiver's hello seen as one
pub is_hello : (g : lent.Frame) (id : List ℕ) (session count : ℕ) → ((i : List ℕ) (s n : ℕ) → g ≡ frame.ReceiverHello i s n → ⊥) → seen g ≡ receiver_hello id session count → ⊥
is_hello (frame.ReceiverHello i s n) id session count other e = other i s n refl
is_hello (frame.SenderHello i s n) id session count other e = cc
is_hello (frame.Column i b) id session count other e = cc
is_hello (frame.Tags list block b) id session count other e = cc
is_hello (frame.Values block b) id session count other e = cc
is_hello frame.Done id session count other e = cc
