-- Slots that are read and written one by one.
use Rattle.std.proofs.Common.{◌≡◌, ◌∙◌, ◌+◌, ◌-◌, ◌*◌, ◌<◌, ℕ, List, [], ◌∷◌, ◌++◌, Some, Option, length, map, take, drop, get_or, refl, sym, ap, ap₂}
use Rattle.std.specs.Prelude.{option_map, slice_get}
use Rattle.std.specs.Int.{w32, to_be_bytes, from_be_bytes}
use Rattle.std.proofs.lemmas.List.{flat_map_more, map-append, get_or-drop, take_more, take_rest}
use Rattle.std.proofs.lemmas.Option.{get_or_from_slice_get, slice_get_within}
use Rattle.psi_cuckoo.specs.Table.{slot_of}
use Rattle.psi_cuckoo.specs.declared.slot.Slot.{Slot as RowSlot}
use Rattle.psi_spec.specs.Placement.{Slot}
use Rattle.psi_spec.specs.Records.{logged_of, slot_count, slots_bytes, slots_of, wire_place}
use Rattle.psi_spec.proofs.Records.{slots_of-more}

pub no_slots : (bytes : List ℕ) → [] ≡ slots_of 0 bytes
unfolding slots_of
no_slots bytes = refl

-- one more slot is read
pub one_more_read : (bytes : List ℕ) (i : ℕ) (slots new : List RowSlot) (row : ℕ) → map slot_of slots ≡ slots_of i bytes → new ≡ slots ++ record { row = row; index = get_or bytes (5 * i + 4) 0 } ∷ []
    → row ≡ from_be_bytes w32 (take 4 (drop (5 * i) bytes)) → map slot_of new ≡ slots_of (i + 1) bytes
one_more_read bytes i slots new row made pushed row_is =
    ap (map slot_of) pushed
    ∙ map-append slot_of slots (record { row = row; index = get_or bytes (5 * i + 4) 0 } ∷ [])
    ∙ ap₂ (λ (front : List Slot) (slot : Slot). front ++ slot ∷ []) made (λ i'. record { row = row_is i'; index = sym (get_or-drop (5 * i) bytes 4 0) i' })
    ∙ sym (slots_of-more i bytes)

-- one more slot is written
pub one_more_written : (start bytes new : List ℕ) (slots : List Slot) (i : ℕ) (slot : RowSlot) (taken : Option RowSlot) → option_map slot_of taken ≡ slice_get slots i → taken ≡ Some slot
    → bytes ≡ start ++ slots_bytes (take i slots) → new ≡ bytes ++ (to_be_bytes w32 slot.row ++ slot.index ∷ []) → new ≡ start ++ slots_bytes (take (i + 1) slots)
one_more_written start bytes new slots i slot taken is some made added =
    let here : slice_get slots i ≡ Some (slot_of slot) = sym is ∙ ap (option_map slot_of) some in
    let within : i < length slots = slice_get_within slots i (slot_of slot) here in
    let more : take (i + 1) slots ≡ take i slots ++ slot_of slot ∷ [] =
    take_more slots i (slot_of slot) within ∙ ap (λ (s : Slot). take i slots ++ s ∷ []) (get_or_from_slice_get slots i (slot_of slot) (slot_of slot) here) in
    added
    ∙ ap (λ (front : List ℕ). front ++ (to_be_bytes w32 slot.row ++ slot.index ∷ [])) made
    ∙ flat_map_more (λ slot. to_be_bytes w32 slot.row ++ slot.index ∷ []) start (take i slots) (slot_of slot)
    ∙ ap (λ (xs : List Slot). start ++ slots_bytes xs) (sym more)

-- slots and a wire that are taken from bytes part by part are what the bytes spell
pub parts_are_logged : (bytes : List ℕ) (count at : ℕ) (slots : List RowSlot) → count ≡ slot_count bytes → at ≡ wire_place count → map slot_of slots ≡ slots_of count (take (length bytes - 9) (drop 9 bytes))
    → record { slots = map slot_of slots; wire = take (length bytes - 32 - at) (drop at bytes) } ≡ logged_of bytes
unfolding logged_of
parts_are_logged bytes count at slots count_is at_is made =
    let all : map slot_of slots ≡ slots_of (slot_count bytes) (drop 9 bytes) = made ∙ ap₂ slots_of count_is (take_rest bytes 9) in
    let place : at ≡ wire_place (slot_count bytes) = at_is ∙ ap wire_place count_is in
    λ i. record { slots = all i; wire = take (length bytes - 32 - place i) (drop (place i) bytes) }
