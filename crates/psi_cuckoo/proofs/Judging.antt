-- Slots that are judged.
use Rattle.std.proofs.Common.{◌≡◌, ◌≢◌, ◌+◌, ◌-◌, ◌<◌, ◌≤◌, ◌==◌, ◌&&◌, ℕ, zero, suc, Bool, true, false, cond, List, [], length, map, take, get_or, Some, None, nat_eq, nat_lt, nat_le, is_some, not, slice_get, refl, sym, ap, ◌∙◌, subst, arith, ⊎_elim, inl, inr, eq-eqb}
use Rattle.std.specs.List.{filter_map, list_any, range_with_len}
use Rattle.std.specs.Option.{option_map_or}
use Rattle.std.specs.declared.option.Option.{Option}
use Rattle.std.proofs.lemmas.Bool.{and_from, and_parts, eqb-true, le-leb, leb-true, lt-ltb, ltb-true, true≢false, false_from_ne_true, ne_eqb}
use Rattle.std.proofs.lemmas.List.{get_or-map, get_or-take, get_or_default, length-map, length-take}
use Rattle.std.proofs.lemmas.List.Folds.{list_any_at, list_any_none}
use Rattle.std.proofs.lemmas.Option.{none-some, slice_get_within}
use Rattle.std.proofs.lemmas.Map.Keys.{apart_from_distinct}
use Rattle.psi_spec.specs.Placement.{IsPlacement, MayHave, Slot}
use Rattle.psi_spec.proofs.Crowding.{may_have_at, nowhere}
use Rattle.psi_cuckoo.specs.Table.{AreOccupants, NameBins, no_slot, occupant_at, slot_at, slot_of}
use Rattle.psi_cuckoo.specs.Refusal.{fault_of, first_fault, may_have}
use Rattle.psi_cuckoo.specs.declared.slot.Slot.{Slot as RowSlot}
use Rattle.psi_cuckoo.specs.declared.errors.BadSlots.{BadSlots}
use Rattle.psi_cuckoo.specs.declared.errors.BadSlots.TheVariants.{Count, Index, Row, Twice, NoMemory}

-- ---- the tests of a slot

none_parts : (a b c : Bool) (x y z : BadSlots) → cond a (Some x) (cond (not b) (Some z) (cond c (Some y) None)) ≡ None → (a ≡ false) × (b ≡ true) × (c ≡ false)
none_parts true b c x y z h = cc
none_parts false true true x y z h = cc
none_parts false true false x y z h = (refl, refl, refl)
none_parts false false c x y z h = cc

-- a slot without a fault passes each test
pub right_parts : (stash bins : ℕ) (candidates : List (List ℕ)) (slots : List RowSlot) (item : ℕ) → fault_of stash bins candidates slots item ≡ None → (nat_lt 3 (slot_at slots item).index ≡ false) × (may_have stash bins (get_or candidates item []) (slot_at slots item) ≡ true) × (list_any (λ before. before.row == (slot_at slots item).row) (take item slots) ≡ false)
right_parts stash bins candidates slots item h = none_parts _ _ _ (Index item) (Twice (slot_at slots item).row) (Row item) h

pub fault_is_none : (stash bins : ℕ) (candidates : List (List ℕ)) (slots : List RowSlot) (item : ℕ) → nat_lt 3 (slot_at slots item).index ≡ false → may_have stash bins (get_or candidates item []) (slot_at slots item) ≡ true → list_any (λ before. before.row == (slot_at slots item).row) (take item slots) ≡ false → fault_of stash bins candidates slots item ≡ None
fault_is_none stash bins candidates slots item a b d = rw (a, b, d) refl

pub fault_is_twice : (stash bins : ℕ) (candidates : List (List ℕ)) (slots : List RowSlot) (item : ℕ) → nat_lt 3 (slot_at slots item).index ≡ false → may_have stash bins (get_or candidates item []) (slot_at slots item) ≡ true → list_any (λ before. before.row == (slot_at slots item).row) (take item slots) ≡ true → fault_of stash bins candidates slots item ≡ Some (Twice (slot_at slots item).row)
fault_is_twice stash bins candidates slots item a b d = rw (a, b, d) refl

pub index_test : (index : ℕ) → index ≤ 3 → nat_lt 3 index ≡ false
index_test index l = false_from_ne_true _ (λ t. let above : 3 < index = ltb-true 3 index t in absurd (omega arith))

-- a row is taken exactly where an item stands there
pub taken_row : (slots : List RowSlot) (occupants : List (Option ℕ)) (row : ℕ) → AreOccupants slots occupants → list_any (λ before. before.row == row) slots ≡ is_some (occupant_at occupants row)
taken_row slots occupants row s = by_case (occupant_at occupants row) refl
  where
    by_case : (found : Option ℕ) → occupant_at occupants row ≡ found → list_any (λ (before : RowSlot). before.row == row) slots ≡ is_some found
    by_case (Some item) e = let at = s.holds row item e in list_any_at (λ (before : RowSlot). before.row == row) slots item no_slot at.0 (eq-eqb _ _ at.1)
    by_case None e = list_any_none (λ (before : RowSlot). before.row == row) slots (λ k d l. false_from_ne_true _ (λ t.
        let same : (slot_at slots k).row ≡ row = ap (λ (s : RowSlot). s.row) (sym (get_or_default slots k d no_slot l)) ∙ eqb-true _ _ t in
        none-some k (sym e ∙ (ap (occupant_at occupants) (sym same) ∙ s.held k l))))

module _ (stash bins : ℕ) (candidates : List ℕ) (slot : RowSlot) where
  names : (found : Option ℕ) → option_map_or (λ row. row == slot.row) found false ≡ true → found ≡ Some slot.row
  names None h = cc
  names (Some row) h = ap (λ (n : ℕ). Some n) (eqb-true row slot.row h)

  by_index : (stashed : Bool) → (slot.index == 0) ≡ stashed → cond stashed (nat_le bins slot.row && nat_lt slot.row (bins + stash)) (option_map_or (λ row. row == slot.row) (slice_get candidates (slot.index - 1)) false) ≡ true → MayHave stash bins candidates (slot_of slot)
  by_index true e h =
      let parts = and_parts (nat_le bins slot.row) (nat_lt slot.row (bins + stash)) h in
      inl (eqb-true slot.index 0 e, leb-true bins slot.row parts.0, ltb-true slot.row (bins + stash) parts.1)
  by_index false e h =
      let other : slot.index ≢ 0 = λ z. true≢false (sym (eq-eqb slot.index 0 z) ∙ e) in
      inr (omega arith, names (slice_get candidates (slot.index - 1)) h)

  -- an item may have a slot that passes the test
  pub may_from_test : may_have stash bins candidates slot ≡ true → MayHave stash bins candidates (slot_of slot)
  may_from_test h = by_index (slot.index == 0) refl h

  pub test_from_may : MayHave stash bins candidates (slot_of slot) → may_have stash bins candidates slot ≡ true
  test_from_may may = ⊎_elim
      (λ h. let e : (slot.index == 0) ≡ true = eq-eqb slot.index 0 h.0 in rw e (and_from (nat_le bins slot.row) (nat_lt slot.row (bins + stash)) (le-leb bins slot.row h.1) (lt-ltb slot.row (bins + stash) h.2)))
      (λ h. let e : (slot.index == 0) ≡ false = ne_eqb slot.index 0 (λ z. omega (arith, h.0)) in rw (e, h.1) (eq-eqb slot.row slot.row refl))
      may

  pub index_from_may : length candidates ≡ 3 → MayHave stash bins candidates (slot_of slot) → slot.index ≤ 3
  index_from_may three may = ⊎_elim (λ h. omega (arith, h.0)) (λ h. omega (arith, h.0, slice_get_within candidates (slot.index - 1) slot.row h.1)) may

-- a row that an item may have is in the table
pub row_from_may : (stash bins : ℕ) (candidates : List (List ℕ)) (item : ℕ) (slot : RowSlot) → NameBins bins candidates → slot.index ≤ 3 → MayHave stash bins (get_or candidates item []) (slot_of slot) → slot.row < bins + stash
row_from_may stash bins candidates item slot named few may = ⊎_elim
    (λ h. h.2)
    (λ h. let low = named item slot.index slot.row (h.0, few, h.1) in omega (arith, low))
    may

-- slots that are a placement have no fault
pub placement_right : (stash bins : ℕ) (candidates : List (List ℕ)) (slots : List RowSlot) (item : ℕ) → ((i : ℕ) → i < length candidates → length (get_or candidates i []) ≡ 3) → length slots ≡ length candidates → IsPlacement stash bins candidates (map slot_of slots) → item < length slots → fault_of stash bins candidates slots item ≡ None
placement_right stash bins candidates slots item three count placement l =
    let slot : RowSlot = slot_at slots item in
    let own : get_or (map slot_of slots) item nowhere ≡ slot_of slot = get_or-map slot_of slots item no_slot nowhere l in
    let within : item < length candidates = omega arith in
    let may = subst (MayHave stash bins (get_or candidates item [])) own (may_have_at stash bins candidates (map slot_of slots) item placement.each within) in
    let row = λ (k : ℕ) (m : k < length slots). get_or-map (λ (s : Slot). s.row) (map slot_of slots) k nowhere 0 (omega (arith, length-map slots slot_of)) ∙ ap (λ (s : Slot). s.row) (get_or-map slot_of slots k no_slot nowhere m) in
    let free : list_any (λ before. before.row == slot.row) (take item slots) ≡ false = list_any_none (λ (before : RowSlot). before.row == slot.row) (take item slots) (λ k d m.
    let lower : k < item = omega (arith, length-take item slots, m) in
    let apart = apart_from_distinct nat_eq (map (λ (s : Slot). s.row) (map slot_of slots)) k item 0 placement.apart lower (omega (arith, length-map (map slot_of slots) (λ (s : Slot). s.row), length-map slots slot_of)) in
    let here : get_or (take item slots) k d ≡ slot_at slots k = get_or-take item slots k d lower ∙ get_or_default slots k d no_slot (omega arith) in
    rw here (subst (λ (r : ℕ). nat_eq (slot_at slots k).row r ≡ false) (row item l) (subst (λ (r : ℕ). nat_eq r (get_or (map (λ (s : Slot). s.row) (map slot_of slots)) item 0) ≡ false) (row k (omega arith)) apart))) in
    fault_is_none stash bins candidates slots item (index_test slot.index (index_from_may stash bins (get_or candidates item []) slot (three item within) may)) (test_from_may stash bins (get_or candidates item []) slot may) free

-- ---- the first fault

first_at : (f : ℕ → Option BadSlots) (a n i : ℕ) (x : BadSlots) → ((j : ℕ) → j < i → f (a + j) ≡ None) → i < n → f (a + i) ≡ Some x → slice_get (filter_map f (range_with_len a n)) 0 ≡ Some x
first_at f a zero i x none l h = absurd (omega arith)
first_at f a (suc n) zero x none l h = let e : f a ≡ Some x = ap f (omega arith) ∙ h in rw e refl
first_at f a (suc n) (suc i) x none l h =
    let e : f a ≡ None = ap f (omega arith) ∙ none 0 (omega arith) in
    rw e (first_at f (a + 1) n i x (λ j m. ap f (omega arith) ∙ none (suc j) (omega arith)) (omega arith) (ap f (omega arith) ∙ h))

none_at : (f : ℕ → Option BadSlots) (a n : ℕ) → ((j : ℕ) → j < n → f (a + j) ≡ None) → slice_get (filter_map f (range_with_len a n)) 0 ≡ None
none_at f a zero none = refl
none_at f a (suc n) none =
    let e : f a ≡ None = ap f (omega arith) ∙ none 0 (omega arith) in
    rw e (none_at f (a + 1) n (λ j m. ap f (omega arith) ∙ none (suc j) (omega arith)))

module _ (stash bins : ℕ) (candidates : List (List ℕ)) (slots : List RowSlot) where
  pub first_is_count : length slots ≢ length candidates → first_fault stash bins candidates slots ≡ Some (Count (length slots))
  first_is_count ne = let e : (length slots == length candidates) ≡ false = ne_eqb (length slots) (length candidates) ne in rw e refl

  pub first_is : (item : ℕ) (x : BadSlots) → length slots ≡ length candidates → ((j : ℕ) → j < item → fault_of stash bins candidates slots j ≡ None) → item < length slots → fault_of stash bins candidates slots item ≡ Some x → first_fault stash bins candidates slots ≡ Some x
  first_is item x count before l h =
      let e : (length slots == length candidates) ≡ true = eq-eqb (length slots) (length candidates) count in
      rw e (first_at (fault_of stash bins candidates slots) 0 (length slots) item x (λ j m. ap (fault_of stash bins candidates slots) (omega arith) ∙ before j m) l (ap (fault_of stash bins candidates slots) (omega arith) ∙ h))

  pub first_is_none : length slots ≡ length candidates → ((j : ℕ) → j < length slots → fault_of stash bins candidates slots j ≡ None) → first_fault stash bins candidates slots ≡ None
  first_is_none count before =
      let e : (length slots == length candidates) ≡ true = eq-eqb (length slots) (length candidates) count in
      rw e (none_at (fault_of stash bins candidates slots) 0 (length slots) (λ j m. ap (fault_of stash bins candidates slots) (omega arith) ∙ before j m))

-- where no slot has a fault, a refusal can only be for want of memory
pub only_memory : (e : BadSlots) (fault : Option BadSlots) → fault ≡ None → (e ≢ NoMemory → fault ≡ Some e) → e ≡ NoMemory
only_memory (Count found) fault none h = absurd (none-some _ (sym none ∙ h (λ q. cc)))
only_memory (Index item) fault none h = absurd (none-some _ (sym none ∙ h (λ q. cc)))
only_memory (Row item) fault none h = absurd (none-some _ (sym none ∙ h (λ q. cc)))
only_memory (Twice row) fault none h = absurd (none-some _ (sym none ∙ h (λ q. cc)))
only_memory NoMemory fault none h = refl
