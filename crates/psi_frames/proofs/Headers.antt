-- What all kinds of frames share: fields that are right, numbers, and the kind and the length before a payload.
use Rattle.std.proofs.Common.{◌≡◌, ◌<◌, ◌≤◌, ◌+◌, ◌^◌, ◌∙◌, ◌==◌, ℕ, suc, Bool, true, false, cond, List, [], ◌∷◌, ◌++◌, length, take, drop, Some, None, refl, sym, ap, ap₂, arith, length-drop}
use Rattle.std.specs.Int.{w16, w32, w64, to_be_bytes, from_be_bytes}
use Rattle.std.proofs.lemmas.Bool.{eq-eqb, eqb-true}
use Rattle.std.proofs.lemmas.List.{append-nil, take-append-drop, length-take-le}
use Rattle.std.proofs.lemmas.Nat.{be_bytes_4, from_be_bytes-to_be_bytes_4}
use Rattle.psi_spec.specs.Frames.{AreBytes, Field, first_wrong, framed}
use Rattle.psi_spec.proofs.Frames.{AreBytes-take, first_right, first_wrong-more}
use Rattle.psi_frames.specs.declared.reasons.Reason.{Reason}
use Rattle.psi_frames.specs.declared.reasons.Reason.TheVariants as reason
use Rattle.psi_frames.specs.Fields.{kind_field, length_field, unless}

pub chosen : (b : Bool) (why : Reason) → cond b None (Some why) ≡ None → b ≡ true
chosen true why e = refl
chosen false why e = absurd (cc)

-- what is refused for a test fails it
pub failed : (b : Bool) (why : Reason) → cond b (Some why) None ≡ None → b ≡ false
failed true why e = absurd (cc)
failed false why e = refl

-- a number that is not refused is the wanted one
pub right_number : (why : ℕ → Reason) (wanted found : ℕ) → unless wanted why found ≡ None → found ≡ wanted
right_number why wanted found e = eqb-true found wanted (chosen (found == wanted) (why found) e)

-- the wanted number is not refused
pub number_right : (why : ℕ → Reason) (wanted found : ℕ) → found ≡ wanted → unless wanted why found ≡ None
number_right why wanted found same = ap (λ (b : Bool). cond b None (Some (why found))) (eq-eqb found wanted same)

pub small_2 : (bytes : List ℕ) → AreBytes bytes → from_be_bytes w16 bytes < 2 ^ 16
small_2 bytes small = omega (arith, small 0, small 1)

pub small_4 : (bytes : List ℕ) → AreBytes bytes → from_be_bytes w32 bytes < 2 ^ 32
small_4 bytes small = omega (arith, small 0, small 1, small 2, small 3)

pub small_8 : (bytes : List ℕ) → AreBytes bytes → from_be_bytes w64 bytes < 2 ^ 64
small_8 bytes small = omega (arith, small 0, small 1, small 2, small 3, small 4, small 5, small 6, small 7)

-- a last field is right
pub last_right : (field : Field Reason) (bytes : List ℕ) → length bytes ≡ field.size → field.refuse bytes ≡ None → first_wrong (field ∷ []) bytes ≡ None
last_right field bytes long right = ap (first_wrong (field ∷ [])) (sym (append-nil bytes)) ∙ first_wrong-more field [] bytes [] long right refl

-- the front of a kind and a length, and what follows
pub spelled_header : (kind n : ℕ) (fields : List (Field Reason)) (bytes : List ℕ) → AreBytes bytes → length bytes ≡ 5 + n
    → first_wrong (kind_field kind ∷ length_field n ∷ fields) bytes ≡ None → (framed kind (drop 5 bytes) ≡ bytes) × (first_wrong fields (drop 5 bytes) ≡ None)
spelled_header kind n fields [] small long right = absurd (omega arith)
spelled_header kind n fields (first ∷ rest) small long right =
    let at_kind = first_right (kind_field kind) (length_field n ∷ fields) (first ∷ rest) (omega arith) right in
    let is_kind : first ≡ kind = right_number (λ found. reason.Kind found kind) kind first at_kind.0 in
    let four : 4 ≤ length rest = omega (arith, long) in
    let at_length = first_right (length_field n) fields rest four at_kind.1 in
    let small_rest : AreBytes rest = λ i. small (suc i) in
    let is_length : from_be_bytes w32 (take 4 rest) ≡ n = right_number (λ found. reason.Length found n) n (from_be_bytes w32 (take 4 rest)) at_length.0 in
    let payload : length (drop 4 rest) ≡ n = omega (arith, long, length-drop 4 rest) in (
      ap₂ (λ (k : ℕ) (xs : List ℕ). k ∷ xs ++ drop 4 rest) (sym is_kind)
          (ap (to_be_bytes w32) payload ∙ be_bytes_4 (take 4 rest) n (length-take-le 4 rest four) (AreBytes-take 4 rest small_rest) (sym is_length))
          ∙ ap (λ (xs : List ℕ). first ∷ xs) (take-append-drop 4 rest),
      at_length.1,
    )

-- a kind and a length are right before a payload that is
pub header_right : (kind n : ℕ) (fields : List (Field Reason)) (payload : List ℕ) → length payload ≡ n → n < 2 ^ 32 → first_wrong fields payload ≡ None
    → first_wrong (kind_field kind ∷ length_field n ∷ fields) (framed kind payload) ≡ None
header_right kind n fields payload long small right =
    let same : from_be_bytes w32 (to_be_bytes w32 (length payload)) ≡ n = from_be_bytes-to_be_bytes_4 (length payload) (omega (arith, long, small)) ∙ long in
    first_wrong-more (kind_field kind) (length_field n ∷ fields) (kind ∷ []) (to_be_bytes w32 (length payload) ++ payload) refl
    (number_right (λ found. reason.Kind found kind) kind kind refl)
    (first_wrong-more (length_field n) fields (to_be_bytes w32 (length payload)) payload refl (number_right (λ found. reason.Length found n) n _ same) right)

-- the kind and the length of a payload are judged before it
pub header_of : (k n kind : ℕ) (fields : List (Field Reason)) (payload : List ℕ) → first_wrong (kind_field k ∷ length_field n ∷ fields) (framed kind payload) ≡ None
    → (kind ≡ k) × (first_wrong fields payload ≡ None)
header_of k n kind fields payload right =
    let lengths : List ℕ = to_be_bytes w32 (length payload) ++ payload in
    let at_kind = first_right (kind_field k) (length_field n ∷ fields) (kind ∷ lengths) (omega arith) right in
    let at_length = first_right (length_field n) fields lengths (omega arith) at_kind.1 in
    (right_number (λ found. reason.Kind found k) k kind at_kind.0, at_length.1)
