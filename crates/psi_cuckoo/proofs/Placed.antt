-- A full table is a placement.
use Rattle.std.proofs.Common.{◌≡◌, ◌≢◌, ◌+◌, ◌-◌, ◌<◌, ℕ, List, [], ◌∷◌, zero, suc, Some, length, map, get_or, sym, ap, ◌∙◌, subst, arith, ⊎_elim, inl, inr}
use Rattle.std.specs.Prelude.{slice_get, nat_eq, All, option_map}
use Rattle.std.specs.declared.option.Option.{Option}
use Rattle.std.proofs.lemmas.Bool.{eqb-true, false_from_ne_true}
use Rattle.std.proofs.lemmas.Option.{same_Some, none-some, slice_get_within, get_or_from_slice_get}
use Rattle.std.proofs.lemmas.List.{length-map, get_or-map}
use Rattle.std.proofs.lemmas.Map.Keys.{IsDistinct-from_apart}
use Rattle.psi_spec.specs.Placement.{MayHave, IsPlacement, Slot}
use Rattle.psi_spec.proofs.Lists.{AllZip-from_places}
use Rattle.psi_cuckoo.specs.Table.{AreOccupants, AreSeated, IsFree, NameBins, slot_at, occupant_at, no_slot, slot_of}
use Rattle.psi_cuckoo.specs.declared.slot.Slot.{Slot as RowSlot}

-- each candidate below a number is a bin
pub name_bins : (bins : ℕ) (candidates : List (List ℕ)) → All (λ rows. All (λ row. row < bins) rows) candidates → NameBins bins candidates
name_bins bins [] h item index row named = absurd (no_row (index - 1) row named.2)
  where
    no_row : (n row : ℕ) → slice_get {X = ℕ} [] n ≡ Some row → ⊥
    no_row n row h = let l : n < 0 = slice_get_within {A = ℕ} [] n row h in omega arith
name_bins bins (x ∷ xs) h zero index row named = subst (λ (n : ℕ). n < bins) (get_or_from_slice_get x (index - 1) row 0 named.2) (h 0 [] (omega arith) (index - 1) 0 (slice_get_within x (index - 1) row named.2))
name_bins bins (x ∷ xs) h (suc item) index row named = name_bins bins xs (λ k d l. h (suc k) d (omega arith)) item index row named

-- a slot that is not the row behind the stash is one of a placement
may_within : (stash bins : ℕ) (candidates : List ℕ) (slot : Slot) → MayHave (stash + 1) bins candidates slot → slot.row ≢ bins + stash → MayHave stash bins candidates slot
may_within stash bins candidates slot may ne = ⊎_elim (λ h. inl (h.0, h.1, omega (arith, h.2))) inr may

-- seats of all items are a placement
pub placement_from_seats : (stash bins : ℕ) (candidates : List (List ℕ)) (slots : List RowSlot) (occupants : List (Option ℕ)) → ((k : ℕ) → k < length slots → MayHave stash bins (get_or candidates k []) (slot_of (slot_at slots k))) → AreOccupants slots occupants → length slots ≡ length candidates → IsPlacement stash bins candidates (map slot_of slots)
placement_from_seats stash bins candidates slots occupants may standing all =
    let placed : List Slot = map slot_of slots in
    let long : length placed ≡ length slots = length-map slots slot_of in
    let at = λ (k : ℕ) (l : k < length slots). get_or-map slot_of slots k no_slot (slot_of no_slot) l in
    record {
      each = AllZip-from_places (MayHave stash bins) candidates placed [] (slot_of no_slot) (sym all ∙ sym long) (λ k l.
          let m : k < length slots = omega arith in
          subst (MayHave stash bins (get_or candidates k [])) (sym (at k m)) (may k m));
      apart = IsDistinct-from_apart nat_eq (map (λ (slot : Slot). slot.row) placed) (λ i j d l m.
          let n : j < length slots = omega (arith, length-map placed (λ (slot : Slot). slot.row)) in
          let o : i < length slots = omega arith in
          let row = λ (k : ℕ) (l : k < length slots). get_or-map (λ (slot : Slot). slot.row) placed k (slot_of no_slot) d (omega arith) ∙ ap (λ (slot : Slot). slot.row) (at k l) in
          false_from_ne_true _ (λ same.
          let e : (slot_at slots i).row ≡ (slot_at slots j).row = sym (row i o) ∙ (eqb-true _ _ same ∙ row j n) in
          let one : i ≡ j = same_Some i j (sym (standing.held i o) ∙ (ap (occupant_at occupants) e ∙ standing.held j n)) in
          absurd (omega arith)));
    }

pub placement_from_ready : (stash bins : ℕ) (candidates : List (List ℕ)) (slots : List RowSlot) (occupants : List (Option ℕ)) → AreSeated (stash + 1) bins candidates slots occupants → IsFree occupants (bins + stash) → length slots ≡ length candidates → IsPlacement stash bins candidates (map slot_of slots)
placement_from_ready stash bins candidates slots occupants t waiting all =
    placement_from_seats stash bins candidates slots occupants
    (λ k l.
    let ne : (slot_at slots k).row ≢ bins + stash = λ e. none-some k (sym waiting.1 ∙ (ap (occupant_at occupants) (sym e) ∙ t.standing.held k l)) in
    may_within stash bins (get_or candidates k []) (slot_of (slot_at slots k)) (t.may k l) ne)
    t.standing all

-- ---- the item in a row

-- the row of an item's slot
abbrev row_at : List Slot → ℕ → Option ℕ
row_at slots i = option_map (λ (slot : Slot). slot.row) (slice_get slots i)

row_from : (slots : List RowSlot) (i row : ℕ) → row_at (map slot_of slots) i ≡ Some row → (i < length slots) × ((slot_at slots i).row ≡ row)
row_from [] i row h = absurd (none-some row h)
row_from (s ∷ ss) zero row h = (omega arith, same_Some _ _ h)
row_from (s ∷ ss) (suc i) row h = let r = row_from ss i row h in (omega (arith, r.0), r.1)

row_to : (slots : List RowSlot) (i row : ℕ) → i < length slots → (slot_at slots i).row ≡ row → row_at (map slot_of slots) i ≡ Some row
row_to [] i row l e = absurd (omega arith)
row_to (s ∷ ss) zero row l e = ap (λ (n : ℕ). Some n) e
row_to (s ∷ ss) (suc i) row l e = row_to ss i row (omega arith) e

pub item_in_row : (slots : List RowSlot) (occupants : List (Option ℕ)) (row : ℕ) (found : Option ℕ) → AreOccupants slots occupants → found ≡ occupant_at occupants row → (i : ℕ) → ((found ≡ Some i → row_at (map slot_of slots) i ≡ Some row) × (row_at (map slot_of slots) i ≡ Some row → found ≡ Some i))
item_in_row slots occupants row found h read i = (
  λ e. let at = h.holds row i (sym read ∙ e) in row_to slots i row at.0 at.1,
  λ e. let at = row_from slots i row e in read ∙ (ap (occupant_at occupants) (sym at.1) ∙ h.held i at.0),
)
