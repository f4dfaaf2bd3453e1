-- Records spell their slots and frames, and what they spell is read again.
use Rattle.std.proofs.Common.{◌≡◌, ◌+◌, ◌-◌, ◌*◌, ◌^◌, ◌<◌, ◌≤◌, ◌==◌, ◌&&◌, ◌∙◌, ℕ, zero, suc, map, Bool, true, false, not, cond, All, List, [], ◌∷◌, ◌++◌, length, take, drop, get_or, codes, refl, sym, ap, ap₂, subst, arith, append-nil, append_assoc, length-append, length-drop, take-append-drop, drop-cons}
use Rattle.std.specs.Prelude.{nat_le, ⊤}
use Rattle.std.specs.List.{flat_map}
use Rattle.std.specs.Int.{w16, w32, to_be_bytes, from_be_bytes}
use Rattle.std.proofs.lemmas.Bool.{le-leb, leb-true, eq-eqb, eqb-true, ne_eqb}
use Rattle.std.proofs.lemmas.List.{length-take, length-take-le, take-append-le, drop-append-le, drop-drop, take_all, drop_all, take_more}
use Rattle.std.proofs.lemmas.List.Elements.{All-nil, All-cons, All-head, All-tail}
use Rattle.std.proofs.lemmas.Nat.{be_bytes_4, from_be_bytes-to_be_bytes_4}
use Rattle.std.proofs.Math.Bool.{and-false}
use lib.Seq.{take-add}
use Rattle.sha2.specs.Sha256.{sha256}
use Rattle.sha2.proofs.Facts256.{length-sha256}
use Rattle.psi_spec.specs.DealFiles.{sealed}
use Rattle.psi_spec.specs.Frames.{AreBytes, Frame, column_frame, done_frame, framed, hello_payload, layout, receiver_hello, sender_hello, tags_frame, values_frame}
use Rattle.psi_spec.specs.Placement.{Slot}
use Rattle.psi_spec.specs.Records.{RawFrame, IsEarlier, IsWire, LoggedSession, IsLogged, FitsSlot, wire_place, slots_bytes, record_front, record_file, frames_bytes, slots_of, slot_count, logged_of, is_kind, payload_length, frame_size, has_frame, first_frame, earlier_of, last_place}
use Rattle.psi_spec.proofs.Frames.{AreBytes-take, AreBytes-drop}

-- ---- parts of lists

-- the front of two lists, and what is behind it
front_of : (n : ℕ) (part rest : List ℕ) → length part ≡ n → take n (part ++ rest) ≡ part
front_of n part rest l = take-append-le n part rest (omega arith) ∙ take_all n part (omega arith)

behind : (n : ℕ) (part rest : List ℕ) → length part ≡ n → drop n (part ++ rest) ≡ rest
behind n part rest l = drop-append-le n part rest (omega arith) ∙ ap (λ (none : List ℕ). none ++ rest) (drop_all n part (omega arith))

four_small : (bytes : List ℕ) → AreBytes bytes → from_be_bytes w32 (take 4 bytes) < 2 ^ 32
four_small bytes small = let fits = AreBytes-take 4 bytes small in omega (arith, fits 0, fits 1, fits 2, fits 3)

four_again : (bytes : List ℕ) → AreBytes bytes → 4 ≤ length bytes → to_be_bytes w32 (from_be_bytes w32 (take 4 bytes)) ≡ take 4 bytes
four_again bytes small long = be_bytes_4 (take 4 bytes) (from_be_bytes w32 (take 4 bytes)) (length-take-le 4 bytes long) (AreBytes-take 4 bytes small) refl

-- ---- slots

pub length-slots_bytes : (slots : List Slot) → length (slots_bytes slots) ≡ 5 * length slots
length-slots_bytes [] = refl
length-slots_bytes (slot ∷ slots) = omega (arith, length-slots_bytes slots)

pub length-slots_of : (n : ℕ) (bytes : List ℕ) → length (slots_of n bytes) ≡ n
unfolding slots_of
length-slots_of zero bytes = refl
length-slots_of (suc n) bytes = ap suc (length-slots_of n (drop 5 bytes))

-- the slot whose bytes begin at a place
abbrev pub slot_from : ℕ → List ℕ → Slot
slot_from at bytes = record { row = from_be_bytes w32 (take 4 (drop at bytes)); index = get_or (drop at bytes) 4 0 }

-- one more slot, as at a step of a loop
pub slots_of-more : (n : ℕ) (bytes : List ℕ) → slots_of (n + 1) bytes ≡ slots_of n bytes ++ slot_from (5 * n) bytes ∷ []
unfolding slots_of
slots_of-more zero bytes = refl
slots_of-more (suc n) bytes =
    let count : suc n + 1 ≡ suc (n + 1) = omega arith in
    let place : 5 + 5 * n ≡ 5 * suc n = omega arith in
    ap (λ (k : ℕ). slots_of k bytes) count
    ∙ ap (λ (rest : List Slot). slot_from 0 bytes ∷ rest) (slots_of-more n (drop 5 bytes))
    ∙ ap (λ (rest : List ℕ). slot_from 0 bytes ∷ slots_of n (drop 5 bytes) ++ slot_from 0 rest ∷ []) (drop-drop (5 * n) 5 bytes ∙ ap (λ (k : ℕ). drop k bytes) place)

-- the bytes of the slots that bytes spell
slots_again : (n : ℕ) (bytes : List ℕ) → AreBytes bytes → 5 * n ≤ length bytes → slots_bytes (slots_of n bytes) ≡ take (5 * n) bytes
unfolding slots_of
slots_again zero bytes small long = refl
slots_again (suc n) bytes small long =
    let count : 5 * suc n ≡ 5 + 5 * n = omega arith in
    let here : to_be_bytes w32 (from_be_bytes w32 (take 4 bytes)) ++ get_or bytes 4 0 ∷ [] ≡ take 5 bytes =
    ap (λ (row : List ℕ). row ++ get_or bytes 4 0 ∷ []) (four_again bytes small (omega arith)) ∙ sym (take_more bytes 4 0 (omega arith)) in
    ap₂ (λ (slot rest : List ℕ). slot ++ rest) here (slots_again n (drop 5 bytes) (AreBytes-drop 5 bytes small) (omega (arith, length-drop 5 bytes)))
    ∙ sym (take-add 5 (5 * n) bytes) ∙ ap (λ (k : ℕ). take k bytes) (sym count)

-- the slots that the bytes of slots spell
slots_back : (slots : List Slot) (rest : List ℕ) → All FitsSlot slots → slots_of (length slots) (slots_bytes slots ++ rest) ≡ slots
unfolding slots_of
slots_back [] rest fit = refl
slots_back (slot ∷ slots) rest fit =
    let here = All-head FitsSlot slot slots fit in
    ap₂ (λ (row : ℕ) (others : List Slot). record { row = row; index = slot.index } ∷ others)
    (from_be_bytes-to_be_bytes_4 slot.row here.0) (slots_back slots rest (All-tail FitsSlot slot slots fit))

fit-slots_of : (n : ℕ) (bytes : List ℕ) → AreBytes bytes → All FitsSlot (slots_of n bytes)
unfolding slots_of
fit-slots_of zero bytes small = All-nil FitsSlot
fit-slots_of (suc n) bytes small =
    All-cons FitsSlot (slot_from 0 bytes) (slots_of n (drop 5 bytes)) (four_small bytes small, small 4) (fit-slots_of n (drop 5 bytes) (AreBytes-drop 5 bytes small))

-- ---- a frame at the front

is_kind-true : (kind : ℕ) → 1 ≤ kind → kind ≤ 5 → is_kind kind ≡ true
is_kind-true kind least most = ap₂ (λ (a b : Bool). a && b) (le-leb 1 kind least) (le-leb kind 5 most)

both_true : (a b : Bool) → (a && b) ≡ true → (a ≡ true) × (b ≡ true)
both_true true b e = (refl, e)
both_true false b e = absurd (cc)

payload_length-framed : (kind : ℕ) (payload rest : List ℕ) → length payload < 2 ^ 32 → payload_length (framed kind payload ++ rest) ≡ length payload
payload_length-framed kind payload rest short = from_be_bytes-to_be_bytes_4 (length payload) short

has_frame-framed : (kind : ℕ) (payload rest : List ℕ) → 1 ≤ kind → kind ≤ 5 → length payload < 2 ^ 32 → has_frame (framed kind payload ++ rest) ≡ true
has_frame-framed kind payload rest least most short =
    let size = payload_length-framed kind payload rest short in
    ap₂ (λ (a b : Bool). a && b) (is_kind-true kind least most)
    (le-leb (frame_size (framed kind payload ++ rest)) (length (framed kind payload ++ rest)) (omega (arith, size, length-append payload rest)))

first_frame-framed : (kind : ℕ) (payload rest : List ℕ) → length payload < 2 ^ 32 → first_frame (framed kind payload ++ rest) ≡ record { kind = kind; payload = payload }
first_frame-framed kind payload rest short =
    ap (λ (xs : List ℕ). record { kind = kind; payload = xs })
    (ap (λ (n : ℕ). take n (payload ++ rest)) (payload_length-framed kind payload rest short) ∙ front_of (length payload) payload rest refl)

behind_framed : (kind : ℕ) (payload rest : List ℕ) → length payload < 2 ^ 32 → drop (frame_size (framed kind payload ++ rest)) (framed kind payload ++ rest) ≡ rest
behind_framed kind payload rest short =
    ap (λ (n : ℕ). drop (5 + n) (framed kind payload ++ rest)) (payload_length-framed kind payload rest short)
    ∙ behind (5 + length payload) (framed kind payload) rest (omega arith)

-- the frame that bytes begin with, as a list of bytes
framed_first : (bytes : List ℕ) → AreBytes bytes → has_frame bytes ≡ true → framed (get_or bytes 0 0) (take (payload_length bytes) (drop 5 bytes)) ≡ take (frame_size bytes) bytes
framed_first [] small whole = absurd (cc)
framed_first (kind ∷ rest) small whole =
    let n : ℕ = payload_length (kind ∷ rest) in
    let fits : frame_size (kind ∷ rest) ≤ length (kind ∷ rest) = leb-true (frame_size (kind ∷ rest)) (length (kind ∷ rest)) (both_true (is_kind kind) _ whole).1 in
    let size : length (take n (drop 4 rest)) ≡ n = length-take-le n (drop 4 rest) (omega (arith, length-drop 4 rest)) in
    ap (λ (k : ℕ). kind ∷ to_be_bytes w32 k ++ take n (drop 4 rest)) size
    ∙ ap (λ (xs : List ℕ). kind ∷ xs ++ take n (drop 4 rest)) (four_again rest (λ i. small (suc i)) (omega arith))
    ∙ ap (λ (xs : List ℕ). kind ∷ xs) (sym (take-add 4 n rest))
    ∙ (let five : suc (4 + n) ≡ 5 + n = omega arith in ap (λ (k : ℕ). take k (kind ∷ rest)) five)

-- ---- the frames before the last

-- the frame that bytes begin with is not the last
abbrev pub has_earlier : List ℕ → Bool
has_earlier bytes = has_frame bytes && not (get_or bytes 0 0 == 5)

stops : (n : ℕ) (bytes : List ℕ) → has_earlier bytes ≡ false → earlier_of n bytes ≡ []
unfolding earlier_of
stops zero bytes none = refl
stops (suc n) bytes none = ap (λ (b : Bool). cond b (first_frame bytes ∷ earlier_of n (drop (frame_size bytes) bytes)) []) none

none_of_none : (bytes : List ℕ) → earlier_of 0 bytes ≡ []
unfolding earlier_of
none_of_none bytes = refl

goes_on : (n : ℕ) (bytes : List ℕ) → has_earlier bytes ≡ true → earlier_of (suc n) bytes ≡ first_frame bytes ∷ earlier_of n (drop (frame_size bytes) bytes)
unfolding earlier_of
goes_on n bytes more = ap (λ (b : Bool). cond b (first_frame bytes ∷ earlier_of n (drop (frame_size bytes) bytes)) []) more

none_in_nothing : (bytes : List ℕ) → length bytes ≡ 0 → has_earlier bytes ≡ false
none_in_nothing [] none = refl
none_in_nothing (byte ∷ bytes) none = absurd (omega arith)

-- a frame that bytes begin with lies within them
fits_in : (bytes : List ℕ) → has_frame bytes ≡ true → frame_size bytes ≤ length bytes
fits_in bytes whole = leb-true (frame_size bytes) (length bytes) (both_true (is_kind (get_or bytes 0 0)) _ whole).1

-- as many as there are bytes are enough
enough_by : (n m : ℕ) (bytes : List ℕ) (b : Bool) → has_earlier bytes ≡ b → length bytes ≤ n → length bytes ≤ m → earlier_of n bytes ≡ earlier_of m bytes
enough_by n m bytes false none ln lm = stops n bytes none ∙ sym (stops m bytes none)
enough_by zero m bytes true more ln lm = let none : has_earlier bytes ≡ false = none_in_nothing bytes (omega arith) in absurd (cc)
enough_by (suc n) zero bytes true more ln lm = let none : has_earlier bytes ≡ false = none_in_nothing bytes (omega arith) in absurd (cc)
enough_by (suc n) (suc m) bytes true more ln lm =
    let fits = fits_in bytes (both_true (has_frame bytes) _ more).0 in
    goes_on n bytes more
    ∙ ap (λ (rest : List RawFrame). first_frame bytes ∷ rest) (enough_by n m (drop (frame_size bytes) bytes) (has_earlier (drop (frame_size bytes) bytes)) refl (omega (arith, fits, length-drop (frame_size bytes) bytes)) (omega (arith, fits, length-drop (frame_size bytes) bytes)))
    ∙ sym (goes_on m bytes more)

pub enough : (n m : ℕ) (bytes : List ℕ) → length bytes ≤ n → length bytes ≤ m → earlier_of n bytes ≡ earlier_of m bytes
enough n m bytes ln lm = enough_by n m bytes (has_earlier bytes) refl ln lm

-- where no frame of kinds 1 to 4 begins, the last one is to
pub last_place-here : (at : ℕ) (bytes : List ℕ) → has_earlier bytes ≡ false → last_place at bytes ≡ at
last_place-here at bytes none =
    let nothing : at + 0 ≡ at = omega arith in
    ap (λ (frames : List RawFrame). at + length (frames_bytes frames)) (stops (length bytes) bytes none) ∙ nothing

last_place-by : (at n : ℕ) (bytes : List ℕ) → length bytes ≡ n → has_earlier bytes ≡ true → last_place at bytes ≡ last_place (at + frame_size bytes) (drop (frame_size bytes) bytes)
last_place-by at zero bytes long more = let none : has_earlier bytes ≡ false = none_in_nothing bytes long in absurd (cc)
last_place-by at (suc n) bytes long more =
    let size : ℕ = frame_size bytes in
    let rest : List ℕ = drop size bytes in
    let fits : size ≤ length bytes = fits_in bytes (both_true (has_frame bytes) _ more).0 in
    let others : earlier_of n rest ≡ earlier_of (length rest) rest = enough n (length rest) rest (omega (arith, fits, length-drop size bytes)) (omega arith) in
    let payload : List ℕ = take (payload_length bytes) (drop 5 bytes) in
    let long_payload : length payload ≡ payload_length bytes = length-take-le (payload_length bytes) (drop 5 bytes) (omega (arith, fits, length-drop 5 bytes)) in
    let after : List ℕ = frames_bytes (earlier_of (length rest) rest) in
    ap (λ (k : ℕ). at + length (frames_bytes (earlier_of k bytes))) long
    ∙ ap (λ (frames : List RawFrame). at + length (frames_bytes frames)) (goes_on n bytes more ∙ ap (λ (gs : List RawFrame). first_frame bytes ∷ gs) others)
    ∙ omega (arith, length-append (framed (get_or bytes 0 0) payload) after, long_payload)

-- behind a frame of kinds 1 to 4 the last one is still to come
pub last_place-more : (at : ℕ) (bytes : List ℕ) → has_earlier bytes ≡ true → last_place at bytes ≡ last_place (at + frame_size bytes) (drop (frame_size bytes) bytes)
last_place-more at bytes more = last_place-by at (length bytes) bytes refl more

not_last : (kind : ℕ) → kind ≤ 4 → (kind == 5) ≡ false
not_last kind most = ne_eqb kind 5 (λ e. omega arith)

-- a last frame ends the frames before it
last_stops : (last rest : List ℕ) → has_earlier (framed 5 last ++ rest) ≡ false
last_stops last rest = and-false (has_frame (framed 5 last ++ rest))

-- the frames that the bytes of frames begin with
earlier_back : (frames : List RawFrame) (rest : List ℕ) (n : ℕ) → All IsEarlier frames → length frames ≤ n → has_earlier rest ≡ false → earlier_of n (frames_bytes frames ++ rest) ≡ frames
earlier_back [] rest n kinds few none = stops n rest none
earlier_back (frame ∷ frames) rest zero kinds few none = absurd (omega arith)
earlier_back (frame ∷ frames) rest (suc n) kinds few none =
    let f = All-head IsEarlier frame frames kinds in
    let more : List ℕ = frames_bytes frames ++ rest in
    let all : List ℕ = framed frame.kind frame.payload ++ more in
    let whole : has_frame all ≡ true = has_frame-framed frame.kind frame.payload more f.least (omega (arith, f.most)) f.short in
    let here : has_earlier all ≡ true = ap₂ (λ (a b : Bool). a && not b) whole (not_last frame.kind f.most) in
    ap (earlier_of (suc n)) (append_assoc (framed frame.kind frame.payload) (frames_bytes frames) rest)
    ∙ goes_on n all here
    ∙ ap₂ (λ (g : RawFrame) (gs : List RawFrame). g ∷ gs) (first_frame-framed frame.kind frame.payload more f.short)
    (ap (earlier_of n) (behind_framed frame.kind frame.payload more f.short) ∙ earlier_back frames rest n (All-tail IsEarlier frame frames kinds) (omega arith) none)

length-frames : (frames : List RawFrame) → length frames ≤ length (frames_bytes frames)
length-frames [] = omega arith
length-frames (frame ∷ frames) = omega (arith, length-frames frames, length-append (framed frame.kind frame.payload) (frames_bytes frames))

-- where the last frame of a wire begins
last_place-wire : (at : ℕ) (frames : List RawFrame) (last rest : List ℕ) → All IsEarlier frames → last_place at (frames_bytes frames ++ (framed 5 last ++ rest)) ≡ at + length (frames_bytes frames)
last_place-wire at frames last rest kinds =
    let all : List ℕ = frames_bytes frames ++ (framed 5 last ++ rest) in
    ap (λ (gs : List RawFrame). at + length (frames_bytes gs))
    (earlier_back frames (framed 5 last ++ rest) (length all) kinds (omega (arith, length-frames frames, length-append (frames_bytes frames) (framed 5 last ++ rest))) (last_stops last rest))

-- frames that bytes begin with, where no more of kinds 1 to 4 follow
record AreFront (frames : List RawFrame) (bytes : List ℕ) : Type 0 where
  kinds : All IsEarlier frames
  joined : frames_bytes frames ++ drop (length (frames_bytes frames)) bytes ≡ bytes

is_earlier : (bytes : List ℕ) → AreBytes bytes → has_earlier bytes ≡ true → IsEarlier (first_frame bytes)
is_earlier bytes small more =
    let parts = both_true (has_frame bytes) _ more in
    let kind = both_true (is_kind (get_or bytes 0 0)) _ parts.0 in
    let bounds = both_true (nat_le 1 (get_or bytes 0 0)) (nat_le (get_or bytes 0 0) 5) kind.0 in
    let most : get_or bytes 0 0 ≤ 5 = leb-true (get_or bytes 0 0) 5 bounds.1 in
    let other : get_or bytes 0 0 ≡ 5 → ⊥ = λ e. let same : (get_or bytes 0 0 == 5) ≡ true = eq-eqb (get_or bytes 0 0) 5 e in cc in
    record {
      least = leb-true 1 (get_or bytes 0 0) bounds.0;
      most = omega (arith, other);
      short = omega (arith, length-take (payload_length bytes) (drop 5 bytes), four_small (drop 1 bytes) (AreBytes-drop 1 bytes small));
    }

front_by : (n : ℕ) (bytes : List ℕ) (b : Bool) → has_earlier bytes ≡ b → AreBytes bytes → AreFront (earlier_of n bytes) bytes
front_by n bytes false none small =
    subst (λ (frames : List RawFrame). AreFront frames bytes) (sym (stops n bytes none)) (record { kinds = All-nil IsEarlier; joined = refl })
front_by zero bytes true more small = subst (λ (frames : List RawFrame). AreFront frames bytes) (sym (none_of_none bytes)) (record { kinds = All-nil IsEarlier; joined = refl })
front_by (suc n) bytes true more small =
    let size : ℕ = frame_size bytes in
    let rest : List ℕ = drop size bytes in
    let others : List RawFrame = earlier_of n rest in
    let first : List ℕ = framed (get_or bytes 0 0) (take (payload_length bytes) (drop 5 bytes)) in
    let after : AreFront others rest = front_by n rest (has_earlier rest) refl (AreBytes-drop size bytes small) in
    let whole : has_frame bytes ≡ true = (both_true (has_frame bytes) _ more).0 in
    let same : first ≡ take size bytes = framed_first bytes small whole in
    let long : length first ≡ size = ap length same ∙ length-take-le size bytes (fits_in bytes whole) in
    let count : length (first ++ frames_bytes others) ≡ size + length (frames_bytes others) = omega (arith, long, length-append first (frames_bytes others)) in
    let behind_both : drop (length (first ++ frames_bytes others)) bytes ≡ drop (length (frames_bytes others)) rest =
    ap (λ (k : ℕ). drop k bytes) count ∙ sym (drop-drop (length (frames_bytes others)) size bytes) in
    subst (λ (frames : List RawFrame). AreFront frames bytes) (sym (goes_on n bytes more)) (record {
      kinds = All-cons IsEarlier (first_frame bytes) others (is_earlier bytes small more) after.kinds;
      joined = ap (λ (xs : List ℕ). (first ++ frames_bytes others) ++ xs) behind_both
          ∙ append_assoc first (frames_bytes others) (drop (length (frames_bytes others)) rest)
          ∙ ap₂ (λ (xs ys : List ℕ). xs ++ ys) same after.joined
          ∙ take-append-drop size bytes;
    })

-- no frame of kinds 1 to 4 follows
stopped_by : (n : ℕ) (bytes : List ℕ) (b : Bool) → has_earlier bytes ≡ b → AreBytes bytes → length bytes ≤ n → has_earlier (drop (length (frames_bytes (earlier_of n bytes))) bytes) ≡ false
stopped_by n bytes false none small enough = ap (λ (frames : List RawFrame). has_earlier (drop (length (frames_bytes frames)) bytes)) (stops n bytes none) ∙ none
stopped_by zero bytes true more small enough = let none : has_earlier bytes ≡ false = none_in_nothing bytes (omega arith) in absurd (cc)
stopped_by (suc n) bytes true more small enough =
    let size : ℕ = frame_size bytes in
    let rest : List ℕ = drop size bytes in
    let others : List RawFrame = earlier_of n rest in
    let first : List ℕ = framed (get_or bytes 0 0) (take (payload_length bytes) (drop 5 bytes)) in
    let whole : has_frame bytes ≡ true = (both_true (has_frame bytes) _ more).0 in
    let long : length first ≡ size = ap length (framed_first bytes small whole) ∙ length-take-le size bytes (fits_in bytes whole) in
    let count : length (first ++ frames_bytes others) ≡ size + length (frames_bytes others) = omega (arith, long, length-append first (frames_bytes others)) in
    ap (λ (frames : List RawFrame). has_earlier (drop (length (frames_bytes frames)) bytes)) (goes_on n bytes more)
    ∙ ap has_earlier (ap (λ (k : ℕ). drop k bytes) count ∙ sym (drop-drop (length (frames_bytes others)) size bytes))
    ∙ stopped_by n rest (has_earlier rest) refl (AreBytes-drop size bytes small) (omega (arith, fits_in bytes whole, length-drop size bytes))

-- ---- a wire

other_kind : (a b : Bool) → (a && not b) ≡ false → a ≡ true → b ≡ true
other_kind true true e whole = refl
other_kind true false e whole = absurd (cc)
other_kind false b e whole = absurd (cc)

-- what stands from a place on up to the end of the first frame of kind 5 is a wire
pub wire_found : (start end : ℕ) (bytes : List ℕ) → AreBytes bytes → start ≤ length bytes → has_frame (drop (last_place start (drop start bytes)) bytes) ≡ true
    → end ≡ last_place start (drop start bytes) + frame_size (drop (last_place start (drop start bytes)) bytes) → IsWire (take (end - start) (drop start bytes)) × (end ≤ length bytes)
wire_found start end bytes small within whole is =
    let rest : List ℕ = drop start bytes in
    let small_rest : AreBytes rest = AreBytes-drop start bytes small in
    let frames : List RawFrame = earlier_of (length rest) rest in
    let size : ℕ = length (frames_bytes frames) in
    let front : AreFront frames rest = front_by (length rest) rest (has_earlier rest) refl small_rest in
    let tail : List ℕ = drop size rest in
    let same : drop (last_place start rest) bytes ≡ tail = sym (drop-drop size start bytes) in
    let whole_tail : has_frame tail ≡ true = ap has_frame (sym same) ∙ whole in
    let stopped : has_earlier tail ≡ false = stopped_by (length rest) rest (has_earlier rest) refl small_rest (omega arith) in
    let five : get_or tail 0 0 ≡ 5 = eqb-true (get_or tail 0 0) 5 (other_kind (has_frame tail) (get_or tail 0 0 == 5) stopped whole_tail) in
    let payload : List ℕ = take (payload_length tail) (drop 5 tail) in
    let small_tail : AreBytes tail = AreBytes-drop size rest small_rest in
    let last : framed 5 payload ≡ take (frame_size tail) tail = ap (λ (kind : ℕ). framed kind payload) (sym five) ∙ framed_first tail small_tail whole_tail in
    let first : take size rest ≡ frames_bytes frames = ap (take size) (sym front.joined) ∙ front_of size (frames_bytes frames) tail refl in
    let end_is : end ≡ start + size + frame_size tail = is ∙ ap (λ (xs : List ℕ). start + size + frame_size xs) same in
    let count : end - start ≡ size + frame_size tail = omega (arith, end_is) in
    let lengths : size + length tail ≡ length rest = sym (length-append (frames_bytes frames) tail) ∙ ap length front.joined in (
      record {
        earlier = frames;
        last = payload;
        kinds = front.kinds;
        short = omega (arith, length-take (payload_length tail) (drop 5 tail), four_small (drop 1 tail) (AreBytes-drop 1 tail small_tail));
        joined = ap (λ (n : ℕ). take n rest) count ∙ take-add size (frame_size tail) rest ∙ ap₂ (λ (xs ys : List ℕ). xs ++ ys) first (sym last);
      },
      omega (arith, end_is, lengths, fits_in tail whole_tail, length-drop start bytes),
    )

-- where a wire ends, whatever follows it
wire_end : (wire more : List ℕ) → IsWire wire → last_place 0 (wire ++ more) + frame_size (drop (last_place 0 (wire ++ more)) (wire ++ more)) ≡ length wire
wire_end wire more w =
    let last : List ℕ = framed 5 w.last in
    let size : ℕ = length (frames_bytes w.earlier) in
    let parts : wire ++ more ≡ frames_bytes w.earlier ++ (last ++ more) = ap (λ (xs : List ℕ). xs ++ more) w.joined ∙ append_assoc (frames_bytes w.earlier) last more in
    let place : last_place 0 (wire ++ more) ≡ size = ap (last_place 0) parts ∙ last_place-wire 0 w.earlier w.last more w.kinds ∙ (omega arith) in
    let tail : drop (last_place 0 (wire ++ more)) (wire ++ more) ≡ last ++ more = ap₂ (λ (k : ℕ) (xs : List ℕ). drop k xs) place parts ∙ behind size (frames_bytes w.earlier) (last ++ more) refl in
    let tail_size : frame_size (drop (last_place 0 (wire ++ more)) (wire ++ more)) ≡ 5 + length w.last = ap frame_size tail ∙ ap (λ (n : ℕ). 5 + n) (payload_length-framed 5 w.last more w.short) in
    let long : length wire ≡ size + (5 + length w.last) = ap length w.joined ∙ omega (arith, length-append (frames_bytes w.earlier) last) in
    omega (arith, place, tail_size, long)

no_more : (more : List ℕ) → length more ≡ 0 → more ≡ []
no_more [] none = refl
no_more (byte ∷ more) none = absurd (omega arith)

-- no wire goes on as another one
pub wires_end : (wire more : List ℕ) → IsWire wire → IsWire (wire ++ more) → more ≡ []
wires_end wire more w v =
    let whole : List ℕ = wire ++ more in
    let first = wire_end wire more w in
    let second = wire_end whole [] v in
    let same : last_place 0 (whole ++ []) + frame_size (drop (last_place 0 (whole ++ [])) (whole ++ [])) ≡ last_place 0 whole + frame_size (drop (last_place 0 whole) whole) =
    ap (λ (xs : List ℕ). last_place 0 xs + frame_size (drop (last_place 0 xs) xs)) (append-nil whole) in
    no_more more (omega (arith, first, second, same, length-append wire more))

-- ---- the front of a record

pub length-record_front : (slots : List Slot) → length (record_front slots) ≡ wire_place (length slots)
unfolding record_front
length-record_front slots = omega (arith, length-slots_bytes slots)

-- what the front of a record says, whatever follows
pub record HasRecordFront (slots : List Slot) (rest bytes : List ℕ) : Type 0 where
  pub magic : take 4 bytes ≡ codes "PSIR"
  pub version : get_or bytes 4 0 ≡ 1
  pub count : slot_count bytes ≡ length slots
  pub slots_are : slots_of (length slots) (drop 9 bytes) ≡ slots
  pub behind_slots : drop (wire_place (length slots)) bytes ≡ rest

front_says : (slots : List Slot) (rest : List ℕ) → length slots < 2 ^ 32 → All FitsSlot slots → HasRecordFront slots rest (record_front slots ++ rest)
unfolding record_front
front_says slots rest few fit = record {
  magic = refl;
  version = refl;
  count = from_be_bytes-to_be_bytes_4 (length slots) few;
  slots_are = slots_back slots rest fit;
  behind_slots = behind (wire_place (length slots)) (record_front slots) rest (length-record_front slots);
}

front_again : (n : ℕ) (bytes : List ℕ) → AreBytes bytes → slot_count bytes ≡ n → wire_place n ≤ length bytes → take 4 bytes ≡ codes "PSIR" → get_or bytes 4 0 ≡ 1 → record_front (slots_of n (drop 9 bytes)) ≡ take (wire_place n) bytes
unfolding record_front
front_again n bytes small count long magic version =
    let slots : List Slot = slots_of n (drop 9 bytes) in
    let number : to_be_bytes w32 (length slots) ≡ take 4 (drop 5 bytes) =
    ap (to_be_bytes w32) (length-slots_of n (drop 9 bytes) ∙ sym count) ∙ four_again (drop 5 bytes) (AreBytes-drop 5 bytes small) (omega (arith, length-drop 5 bytes)) in
    let all : slots_bytes slots ≡ take (5 * n) (drop 9 bytes) = slots_again n (drop 9 bytes) (AreBytes-drop 9 bytes small) (omega (arith, length-drop 9 bytes)) in
    let middle : take 5 (drop 4 bytes) ≡ get_or bytes 4 0 ∷ take 4 (drop 5 bytes) = ap (take 5) (drop-cons bytes 4 0 (omega arith)) in
    let numbered : 1 ∷ [] ++ (to_be_bytes w32 (length slots) ++ slots_bytes slots) ≡ take 5 (drop 4 bytes) ++ take (5 * n) (drop 9 bytes) =
    ap₂ (λ (xs ys : List ℕ). 1 ∷ xs ++ ys) number all
    ∙ ap (λ (v : ℕ). v ∷ take 4 (drop 5 bytes) ++ take (5 * n) (drop 9 bytes)) (sym version)
    ∙ ap (λ (xs : List ℕ). xs ++ take (5 * n) (drop 9 bytes)) (sym middle) in
    ap₂ (λ (xs ys : List ℕ). xs ++ ys) (sym magic) numbered
    ∙ sym (append_assoc (take 4 bytes) (take 5 (drop 4 bytes)) (take (5 * n) (drop 9 bytes)))
    ∙ ap (λ (xs : List ℕ). xs ++ take (5 * n) (drop 9 bytes)) (sym (take-add 4 5 bytes))
    ∙ sym (take-add 9 (5 * n) bytes)

-- ---- the file

-- where the frames of a file begin, and where the last one does
abbrev pub wire_at : List ℕ → ℕ
wire_at bytes = wire_place (slot_count bytes)

abbrev pub last_at : List ℕ → ℕ
last_at bytes = last_place (wire_at bytes) (drop (wire_at bytes) bytes)

-- each part of a record is there, in order
pub record IsRecord (bytes : List ℕ) : Type 0 where
  pub magic : take 4 bytes ≡ codes "PSIR"
  pub version : get_or bytes 4 0 ≡ 1
  pub slots : wire_at bytes ≤ length bytes
  pub last : has_frame (drop (last_at bytes) bytes) ≡ true
  pub whole : last_at bytes + frame_size (drop (last_at bytes) bytes) + 32 ≡ length bytes
  pub seal : drop (length bytes - 32) bytes ≡ sha256 (take (length bytes - 32) bytes)

-- bytes with each part of a record are the record that they spell
pub record_found : (bytes : List ℕ) → AreBytes bytes → IsRecord bytes → IsLogged (logged_of bytes) × (bytes ≡ record_file (logged_of bytes).slots (logged_of bytes).wire)
unfolding logged_of
record_found bytes small h =
    let n : ℕ = slot_count bytes in
    let start : ℕ = wire_place n in
    let end : ℕ = length bytes - 32 in
    let end_is : end ≡ last_at bytes + frame_size (drop (last_at bytes) bytes) = omega (arith, h.whole) in
    let found = wire_found start end bytes small h.slots h.last end_is in
    let slots : List Slot = slots_of n (drop 9 bytes) in
    let wire : List ℕ = take (end - start) (drop start bytes) in
    let front : record_front slots ≡ take start bytes = front_again n bytes small refl h.slots h.magic h.version in
    let ordered : start + (end - start) ≡ end = omega (arith, end_is) in
    let body : record_front slots ++ wire ≡ take end bytes =
    ap (λ (xs : List ℕ). xs ++ wire) front ∙ sym (take-add start (end - start) bytes) ∙ ap (λ (k : ℕ). take k bytes) ordered in
    let file : record_file slots wire ≡ bytes =
    ap sealed body ∙ ap (λ (hash : List ℕ). take end bytes ++ hash) (sym h.seal) ∙ take-append-drop end bytes in (
      record {
        few = omega (arith, length-slots_of n (drop 9 bytes), four_small (drop 5 bytes) (AreBytes-drop 5 bytes small));
        fit = fit-slots_of n (drop 9 bytes) (AreBytes-drop 9 bytes small);
        frames = found.0;
      },
      sym file,
    )

-- a record is its front, its wire and its seal
abbrev seal_of : LoggedSession → List ℕ
seal_of session = sha256 (record_front session.slots ++ session.wire)

file_front : (session : LoggedSession) → IsLogged session → HasRecordFront session.slots (session.wire ++ seal_of session) (record_file session.slots session.wire)
file_front session h =
    subst (HasRecordFront session.slots (session.wire ++ seal_of session)) (sym (append_assoc (record_front session.slots) session.wire (seal_of session)))
    (front_says session.slots (session.wire ++ seal_of session) h.few h.fit)

length-record_file : (session : LoggedSession) → length (record_file session.slots session.wire) ≡ wire_place (length session.slots) + length session.wire + 32
length-record_file session =
    omega (arith, length-append (record_front session.slots ++ session.wire) (seal_of session), length-append (record_front session.slots) session.wire, length-record_front session.slots, length-sha256 (record_front session.slots ++ session.wire))

-- the record of slots and frames has each part
pub record_has_parts : (session : LoggedSession) → IsLogged session → IsRecord (record_file session.slots session.wire)
record_has_parts session h =
    let file : List ℕ = record_file session.slots session.wire in
    let body : List ℕ = record_front session.slots ++ session.wire in
    let start : ℕ = wire_place (length session.slots) in
    let f = file_front session h in
    let w = h.frames in
    let seal : List ℕ = seal_of session in
    let last : List ℕ = framed 5 w.last in
    let size : ℕ = length (frames_bytes w.earlier) in
    let at : wire_at file ≡ start = ap wire_place f.count in
    let behind_slots : drop (wire_at file) file ≡ session.wire ++ seal = ap (λ (k : ℕ). drop k file) at ∙ f.behind_slots in
    let parts : session.wire ++ seal ≡ frames_bytes w.earlier ++ (last ++ seal) = ap (λ (xs : List ℕ). xs ++ seal) w.joined ∙ append_assoc (frames_bytes w.earlier) last seal in
    let place : last_at file ≡ start + size = ap₂ last_place at (behind_slots ∙ parts) ∙ last_place-wire start w.earlier w.last seal w.kinds in
    let tail : drop (last_at file) file ≡ last ++ seal =
    ap (λ (k : ℕ). drop k file) place ∙ sym (drop-drop size start file)
    ∙ ap (drop size) (f.behind_slots ∙ parts) ∙ behind size (frames_bytes w.earlier) (last ++ seal) refl in
    let tail_size : frame_size (drop (last_at file) file) ≡ 5 + length w.last = ap frame_size tail ∙ ap (λ (n : ℕ). 5 + n) (payload_length-framed 5 w.last seal w.short) in
    let wire_size : length session.wire ≡ size + (5 + length w.last) = ap length w.joined ∙ omega (arith, length-append (frames_bytes w.earlier) last) in
    let long : length file ≡ start + length session.wire + 32 = length-record_file session in
    let count : length file - 32 ≡ length body = omega (arith, long, length-append (record_front session.slots) session.wire, length-record_front session.slots) in
    record {
      magic = f.magic;
      version = f.version;
      slots = omega (arith, at, long);
      last = ap has_frame tail ∙ has_frame-framed 5 w.last seal (omega arith) (omega arith) w.short;
      whole = omega (arith, place, tail_size, long, wire_size);
      seal = ap (λ (k : ℕ). drop k file) count ∙ behind (length body) body seal refl
          ∙ ap sha256 (sym (ap (λ (k : ℕ). take k file) count ∙ front_of (length body) body seal refl));
    }

-- the record of slots and frames spells them
pub record_again : (session : LoggedSession) → IsLogged session → logged_of (record_file session.slots session.wire) ≡ session
unfolding logged_of
record_again session h =
    let file : List ℕ = record_file session.slots session.wire in
    let start : ℕ = wire_place (length session.slots) in
    let f = file_front session h in
    let seal : List ℕ = seal_of session in
    let at : wire_at file ≡ start = ap wire_place f.count in
    let count : length file - 32 - wire_at file ≡ length session.wire = omega (arith, at, length-record_file session) in
    let slots : slots_of (slot_count file) (drop 9 file) ≡ session.slots = ap (λ (n : ℕ). slots_of n (drop 9 file)) f.count ∙ f.slots_are in
    let wire : take (length file - 32 - wire_at file) (drop (wire_at file) file) ≡ session.wire =
    ap₂ (λ (n : ℕ) (xs : List ℕ). take n xs) count (ap (λ (k : ℕ). drop k file) at ∙ f.behind_slots) ∙ front_of (length session.wire) session.wire seal refl in
    λ i. record { slots = slots i; wire = wire i }

-- ---- frames that ends send

-- a frame is of a kind that a record holds before the last one
abbrev pub IsBeforeEnd : Frame → Type 0
IsBeforeEnd (receiver_hello id session count) = ⊤
IsBeforeEnd (sender_hello id session count) = ⊤
IsBeforeEnd (column_frame index bytes) = ⊤
IsBeforeEnd (tags_frame list block tags) = ⊤
IsBeforeEnd frame = ⊥

-- a frame may stand before the last: it is of such a kind, and its payload's length fits four bytes
pub record MayPrecede (frame : Frame) : Type 0 where
  pub short : length (layout frame) < 2 ^ 32 + 5
  pub kind : IsBeforeEnd frame

raw_of : Frame → RawFrame
raw_of (receiver_hello id session count) = record { kind = 1; payload = hello_payload id session count }
raw_of (sender_hello id session count) = record { kind = 2; payload = hello_payload id session count }
raw_of (column_frame index bytes) = record { kind = 3; payload = to_be_bytes w16 index ++ bytes }
raw_of (tags_frame list block tags) = record { kind = 4; payload = list ∷ to_be_bytes w32 block ++ tags }
raw_of (values_frame block values) = record { kind = 7; payload = to_be_bytes w32 block ++ values }
raw_of done_frame = record { kind = 5; payload = [] }

raw_layout : (frame : Frame) → framed (raw_of frame).kind (raw_of frame).payload ≡ layout frame
unfolding raw_of
raw_layout (receiver_hello id session count) = refl
raw_layout (sender_hello id session count) = refl
raw_layout (column_frame index bytes) = refl
raw_layout (tags_frame list block tags) = refl
raw_layout (values_frame block values) = refl
raw_layout done_frame = refl

kinds_by : (frame : Frame) → IsBeforeEnd frame → (1 ≤ (raw_of frame).kind) × ((raw_of frame).kind ≤ 4)
unfolding raw_of
kinds_by (receiver_hello id session count) kind = (omega arith, omega arith)
kinds_by (sender_hello id session count) kind = (omega arith, omega arith)
kinds_by (column_frame index bytes) kind = (omega arith, omega arith)
kinds_by (tags_frame list block tags) kind = (omega arith, omega arith)
kinds_by (values_frame block values) kind = absurd kind
kinds_by done_frame kind = absurd kind

raw_is_earlier : (frame : Frame) → MayPrecede frame → IsEarlier (raw_of frame)
raw_is_earlier frame h =
    let kinds = kinds_by frame h.kind in
    let size : length (layout frame) ≡ length (framed (raw_of frame).kind (raw_of frame).payload) = ap length (sym (raw_layout frame)) in
    record { least = kinds.0; most = kinds.1; short = omega (arith, size, h.short) }

raw_joined : (frames : List Frame) → frames_bytes (map raw_of frames) ≡ flat_map layout frames
raw_joined [] = refl
raw_joined (frame ∷ frames) = ap₂ (λ (xs ys : List ℕ). xs ++ ys) (raw_layout frame) (raw_joined frames)

raw_are_earlier : (frames : List Frame) → All MayPrecede frames → All IsEarlier (map raw_of frames)
raw_are_earlier [] h = All-nil IsEarlier
raw_are_earlier (frame ∷ frames) h =
    All-cons IsEarlier (raw_of frame) (map raw_of frames) (raw_is_earlier frame (All-head MayPrecede frame frames h)) (raw_are_earlier frames (All-tail MayPrecede frame frames h))

-- the layouts of frames that are not the end, and then that of the end, are a wire
pub wire_of_layouts : (frames : List Frame) → All MayPrecede frames → IsWire (flat_map layout frames ++ layout done_frame)
wire_of_layouts frames h = record {
  earlier = map raw_of frames;
  last = [];
  kinds = raw_are_earlier frames h;
  short = omega arith;
  joined = ap (λ (xs : List ℕ). xs ++ layout done_frame) (sym (raw_joined frames));
}
