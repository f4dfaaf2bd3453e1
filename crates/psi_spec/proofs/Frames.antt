-- Fields that are judged in order.
use Rattle.std.proofs.Common.{Ordering, ◌≡◌, ◌<◌, ◌≤◌, ◌+◌, ◌*◌, ◌==◌, ◌↔◌, ◌∙◌, ℕ, suc, zero, Bool, true, false, cond, List, [], ◌∷◌, ◌++◌, length, take, drop, replicate, get_or, Option, Some, None, nat_lt, refl, sym, ap, ap₂, arith, append_assoc, length-append}
use Rattle.std.specs.Cmp.Lexicographic.{slice_cmp}
use Rattle.std.specs.Int.{w16, w32, w64, to_be_bytes, from_be_bytes}
use Rattle.std.specs.List.{position_from, zip}
use Rattle.std.specs.List.Sorted.{IsSorted}
use Rattle.std.specs.Ordering.{is_lt, nat_cmp, ordering_then}
use Rattle.std.specs.Option.{option_or}
use Rattle.std.proofs.lemmas.Bool.{le-ltb, ltb-false}
use Rattle.std.proofs.lemmas.Bool.Decides.{nat_tests}
use Rattle.std.proofs.lemmas.List.{take-append-le, drop-append-le, take_all, drop_all, drop-drop}
use Rattle.std.proofs.lemmas.Nat.{from_be_bytes-to_be_bytes_2, from_be_bytes-to_be_bytes_4, from_be_bytes-to_be_bytes_8}
use Rattle.psi_spec.specs.Frames.{AreBytes, Field, Fits, FitsHello, Frame, column_frame, done_frame, first_below, first_wrong, hello_payload, is_below, layout, receiver_hello, sender_hello, tags_frame, tags_of, values_frame}

pub AreBytes-take : (n : ℕ) (bytes : List ℕ) → AreBytes bytes → AreBytes (take n bytes)
AreBytes-take zero bytes small i = omega arith
AreBytes-take (suc n) [] small i = small i
AreBytes-take (suc n) (byte ∷ bytes) small zero = small 0
AreBytes-take (suc n) (byte ∷ bytes) small (suc i) = AreBytes-take n bytes (λ k. small (suc k)) i

pub AreBytes-drop : (n : ℕ) (bytes : List ℕ) → AreBytes bytes → AreBytes (drop n bytes)
AreBytes-drop zero bytes small = small
AreBytes-drop (suc n) [] small = small
AreBytes-drop (suc n) (byte ∷ bytes) small = AreBytes-drop n bytes (λ k. small (suc k))

module _ {Why : Type 0} where
  neither : (x y : Option Why) → option_or x y ≡ None → (x ≡ None) × (y ≡ None)
  neither None y e = (refl, e)
  neither (Some x) y e = absurd (cc)

  -- where the first field is there whole, it is judged, and then those after it
  judged : (field : Field Why) (fields : List (Field Why)) (bytes : List ℕ) → field.size ≤ length bytes
      → first_wrong (field ∷ fields) bytes ≡ option_or (field.refuse (take field.size bytes)) (first_wrong fields (drop field.size bytes))
  judged field fields bytes there =
      ap (λ (b : Bool). cond b None (option_or (field.refuse (take field.size bytes)) (first_wrong fields (drop field.size bytes)))) (le-ltb (length bytes) field.size there)

  -- where nothing is wrong, the first field is right, and so are those after it
  pub first_right : (field : Field Why) (fields : List (Field Why)) (bytes : List ℕ) → field.size ≤ length bytes → first_wrong (field ∷ fields) bytes ≡ None
      → (field.refuse (take field.size bytes) ≡ None) × (first_wrong fields (drop field.size bytes) ≡ None)
  first_right field fields bytes there right = neither _ _ (sym (judged field fields bytes there) ∙ right)

  stays_or : (x y z : Option Why) (why : Why) → option_or x y ≡ Some why → (y ≡ Some why → z ≡ Some why) → option_or x z ≡ Some why
  stays_or None y z why e later = later e
  stays_or (Some x) y z why e later = e

  there_or : (field : Field Why) (fields : List (Field Why)) (bytes : List ℕ) (why : Why) (b : Bool) → nat_lt (length bytes) field.size ≡ b
      → first_wrong (field ∷ fields) bytes ≡ Some why → field.size ≤ length bytes
  there_or field fields bytes why true e found =
      let nothing : first_wrong (field ∷ fields) bytes ≡ None =
      ap (λ (b : Bool). cond b None (option_or (field.refuse (take field.size bytes)) (first_wrong fields (drop field.size bytes)))) e in
      absurd (cc)
  there_or field fields bytes why false e found = ltb-false (length bytes) field.size e

  -- a field that is wrong is the first wrong one, whatever follows
  pub first_wrong-stays : (fields : List (Field Why)) (bytes more : List ℕ) (why : Why) → first_wrong fields bytes ≡ Some why → first_wrong fields (bytes ++ more) ≡ Some why
  first_wrong-stays [] bytes more why found = found
  first_wrong-stays (field ∷ fields) bytes more why found =
      let there : field.size ≤ length bytes = there_or field fields bytes why (nat_lt (length bytes) field.size) refl found in
      let there_too : field.size ≤ length (bytes ++ more) = omega (arith, there, length-append bytes more) in
      let rest : first_wrong fields (drop field.size bytes) ≡ Some why → first_wrong fields (drop field.size (bytes ++ more)) ≡ Some why =
      λ e. ap (first_wrong fields) (drop-append-le field.size bytes more there) ∙ first_wrong-stays fields (drop field.size bytes) more why e in
      judged field fields (bytes ++ more) there_too
      ∙ ap (λ (xs : List ℕ). option_or (field.refuse xs) (first_wrong fields (drop field.size (bytes ++ more)))) (take-append-le field.size bytes more there)
      ∙ stays_or (field.refuse (take field.size bytes)) _ _ why (sym (judged field fields bytes there) ∙ found) rest

  -- behind a front that is right, what is right is right too
  pub first_wrong-more : (field : Field Why) (fields : List (Field Why)) (front rest : List ℕ) → length front ≡ field.size → field.refuse front ≡ None → first_wrong fields rest ≡ None
      → first_wrong (field ∷ fields) (front ++ rest) ≡ None
  first_wrong-more field fields front rest long right later =
      let there : field.size ≤ length (front ++ rest) = omega (arith, long, length-append front rest) in
      let here : take field.size (front ++ rest) ≡ front = take-append-le field.size front rest (omega (arith, long)) ∙ take_all field.size front (omega (arith, long)) in
      let behind : drop field.size (front ++ rest) ≡ rest = drop-append-le field.size front rest (omega (arith, long)) ∙ ap (λ (xs : List ℕ). xs ++ rest) (drop_all field.size front (omega (arith, long))) in
      judged field fields (front ++ rest) there
      ∙ ap₂ (λ (xs ys : List ℕ). option_or (field.refuse xs) (first_wrong fields ys)) here behind
      ∙ ap₂ (λ (x y : Option Why). option_or x y) right later

-- what a hello's payload says, a function makes it of
read_hello : (List ℕ → ℕ → ℕ → Frame) → List ℕ → Frame
read_hello make payload = make (take 16 (drop 1 payload)) (from_be_bytes w64 (take 8 (drop 17 payload))) (from_be_bytes w32 (drop 25 payload))

-- the frame of a kind and a payload
abbrev read_payload : ℕ → List ℕ → Frame
read_payload kind payload =
    cond (kind == 1) (read_hello receiver_hello payload)
    (cond (kind == 2) (read_hello sender_hello payload)
    (cond (kind == 3) (column_frame (from_be_bytes w16 (take 2 payload)) (drop 2 payload))
    (cond (kind == 4) (tags_frame (get_or payload 0 0) (from_be_bytes w32 (take 4 (drop 1 payload))) (drop 5 payload))
    (cond (kind == 7) (values_frame (from_be_bytes w32 (take 4 payload)) (drop 4 payload))
    done_frame))))

abbrev read_frame : List ℕ → Frame
read_frame bytes = read_payload (get_or bytes 0 0) (drop 5 bytes)

-- the parts of a hello are read again
hello_again : (make : List ℕ → ℕ → ℕ → Frame) (id : List ℕ) (session count : ℕ) → FitsHello id session count → read_hello make (hello_payload id session count) ≡ make id session count
unfolding read_hello
hello_again make id session count fits =
    let numbers : List ℕ = to_be_bytes w64 session ++ to_be_bytes w32 count in
    let parts : hello_payload id session count ≡ 1 ∷ id ++ numbers = ap (λ (xs : List ℕ). 1 ∷ xs) (append_assoc id (to_be_bytes w64 session) (to_be_bytes w32 count)) in
    let front : take 16 (id ++ numbers) ≡ id = take-append-le 16 id numbers (omega (arith, fits.id)) ∙ take_all 16 id (omega (arith, fits.id)) in
    let back : drop 16 (id ++ numbers) ≡ numbers = drop-append-le 16 id numbers (omega (arith, fits.id)) ∙ ap (λ (xs : List ℕ). xs ++ numbers) (drop_all 16 id (omega (arith, fits.id))) in
    let last : drop 24 (id ++ numbers) ≡ to_be_bytes w32 count = sym (drop-drop 8 16 (id ++ numbers)) ∙ ap (drop 8) back in
    ap (read_hello make) parts
    ∙ ap (λ (i : List ℕ). make i (from_be_bytes w64 (take 8 (drop 16 (id ++ numbers)))) (from_be_bytes w32 (drop 24 (id ++ numbers)))) front
    ∙ ap (λ (s : List ℕ). make id (from_be_bytes w64 (take 8 s)) (from_be_bytes w32 (drop 24 (id ++ numbers)))) back
    ∙ ap (λ (c : List ℕ). make id (from_be_bytes w64 (to_be_bytes w64 session)) (from_be_bytes w32 c)) last
    ∙ ap₂ (λ (s c : ℕ). make id s c) (from_be_bytes-to_be_bytes_8 session fits.session) (from_be_bytes-to_be_bytes_4 count fits.count)

-- a frame is read again from its bytes
read_again : (f : Frame) → Fits f → read_frame (layout f) ≡ f
read_again (receiver_hello id session count) fits = hello_again receiver_hello id session count fits
read_again (sender_hello id session count) fits = hello_again sender_hello id session count fits
read_again (column_frame index bytes) fits = ap (λ (i : ℕ). column_frame i bytes) (from_be_bytes-to_be_bytes_2 index fits)
read_again (tags_frame list block tags) fits = ap (λ (b : ℕ). tags_frame list b tags) (from_be_bytes-to_be_bytes_4 block fits)
read_again (values_frame block values) fits = ap (λ (b : ℕ). values_frame b values) (from_be_bytes-to_be_bytes_4 block fits)
read_again done_frame fits = refl

-- two frames with the same bytes are one
pub same_frame : (f g : Frame) → Fits f → Fits g → layout f ≡ layout g → f ≡ g
same_frame f g fits_f fits_g same = sym (read_again f fits_f) ∙ ap read_frame same ∙ read_again g fits_g

-- no number is below 0
zero_first : (x : ℕ) (rest : Ordering) → is_lt rest ≡ false → is_lt (ordering_then (nat_cmp x 0) rest) ≡ false
zero_first zero rest e = e
zero_first (suc x) rest e = grind (arith, nat_tests)

-- no tag is below zeros
pub none_below_zeros : (width : ℕ) (tag : List ℕ) → length tag ≡ width → is_below tag (replicate width 0) ≡ false
none_below_zeros zero [] long = refl
none_below_zeros zero (x ∷ tag) long = absurd (omega arith)
none_below_zeros (suc width) [] long = absurd (omega arith)
none_below_zeros (suc width) (x ∷ tag) long = zero_first x (slice_cmp nat_cmp tag (replicate width 0)) (none_below_zeros width tag (omega arith))

-- the place of the first tag that is below the one before it, with places counted from `at` on
abbrev pub below_from : ℕ → List ℕ → List (List ℕ) → Option ℕ
below_from at before tags = position_from (λ neighbours. is_below neighbours.1 neighbours.0) at (zip (before ∷ tags) tags)

-- the tag with number k of so many
pub tags_of-at : (n width : ℕ) (bytes : List ℕ) (k : ℕ) → k < n → get_or (tags_of n width bytes) k [] ≡ take width (drop (k * width) bytes)
tags_of-at zero width bytes k within = absurd (omega arith)
tags_of-at (suc n) width bytes zero within = let none : 0 ≡ 0 * width = omega arith in ap (λ (i : ℕ). take width (drop i bytes)) none
tags_of-at (suc n) width bytes (suc k) within =
    let more : width + k * width ≡ suc k * width = omega arith in
    tags_of-at n width (drop width bytes) k (omega arith) ∙ ap (take width) (drop-drop (k * width) width bytes ∙ ap (λ (i : ℕ). drop i bytes) more)

-- where none is below the one before it, neither is the first, and so with those after it
none_below : (at : ℕ) (before tag : List ℕ) (tags : List (List ℕ)) (b : Bool) → is_below tag before ≡ b → cond b (Some at) (below_from (at + 1) tag tags) ≡ None
    → (is_below tag before ≡ false) × (below_from (at + 1) tag tags ≡ None)
none_below at before tag tags true is none = absurd (cc)
none_below at before tag tags false is none = (is, none)

rising-from_none : (at : ℕ) (before : List ℕ) (tags : List (List ℕ)) → below_from at before tags ≡ None → IsSorted (slice_cmp nat_cmp) (before ∷ tags)
rising-from_none at before [] none k d least within = absurd (omega arith)
rising-from_none at before (tag ∷ tags) none zero d least within = (none_below at before tag tags _ refl none).0
rising-from_none at before (tag ∷ tags) none (suc k) d least within =
    let later : suc k + 1 ≡ suc (k + 1) = omega arith in
    ap (λ (i : ℕ). is_below (get_or (before ∷ tag ∷ tags) i d) (get_or (tag ∷ tags) k d)) later
    ∙ rising-from_none (at + 1) tag tags (none_below at before tag tags _ refl none).1 k d (omega arith) (omega arith)

none-from_rising : (at : ℕ) (before : List ℕ) (tags : List (List ℕ)) → IsSorted (slice_cmp nat_cmp) (before ∷ tags) → below_from at before tags ≡ None
none-from_rising at before [] rising = refl
none-from_rising at before (tag ∷ tags) rising =
    let here : is_below tag before ≡ false = rising 0 tag (omega arith) (omega arith) in
    let rest : IsSorted (slice_cmp nat_cmp) (tag ∷ tags) = λ k d least within.
    let later : suc k + 1 ≡ suc (k + 1) = omega arith in
    ap (λ (i : ℕ). is_below (get_or (before ∷ tag ∷ tags) i d) (get_or (tag ∷ tags) k d)) (sym later) ∙ rising (suc k) d (omega arith) (omega arith) in
    ap (λ (b : Bool). cond b (Some at) (below_from (at + 1) tag tags)) here ∙ none-from_rising (at + 1) tag tags rest

-- no tag is below the one before it exactly where they rise
pub order_by_sorting : (before : List ℕ) (tags : List (List ℕ)) → (first_below before tags ≡ None) ↔ IsSorted (slice_cmp nat_cmp) (before ∷ tags)
order_by_sorting before tags = (rising-from_none 0 before tags, none-from_rising 0 before tags)
