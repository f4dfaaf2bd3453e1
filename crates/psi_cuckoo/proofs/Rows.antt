-- A table after a move and after an addition.
use Rattle.std.proofs.Common.{◌≡◌, ◌≢◌, ◌<◌, ◌++◌, ℕ, List, [], ◌∷◌, Some, None, length, get_or, set, refl, sym, ap, ◌∙◌, subst, arith, ⊎_elim}
use Rattle.std.specs.declared.option.Option.{Option}
use Rattle.std.proofs.lemmas.Bool.{cases_eq}
use Rattle.std.proofs.lemmas.Option.{same_Some, none-some}
use Rattle.std.proofs.lemmas.List.{length-set, get_or-set_same, get_or-set_other, get_or_push, get_or_append_left, length_push}
use Rattle.psi_spec.specs.Placement.{MayHave}
use Rattle.psi_cuckoo.specs.Table.{AreSeated, IsFree, slot_at, occupant_at, no_slot, slot_of}
use Rattle.psi_cuckoo.specs.declared.slot.Slot.{Slot}

-- the occupants after item goes from the row old to the row new
unfoldable pub moved : List (Option ℕ) → ℕ → ℕ → ℕ → List (Option ℕ)
moved occupants old new item = set (set occupants old None) new (Some item)

module _ (occupants : List (Option ℕ)) (old new item : ℕ) where
  length-moved : length (moved occupants old new item) ≡ length occupants
  unfolding moved
  length-moved = length-set (set occupants old None) new (Some item) ∙ length-set occupants old None

  moved_new : new < length occupants → occupant_at (moved occupants old new item) new ≡ Some item
  unfolding moved
  moved_new l = get_or-set_same (set occupants old None) new (Some item) None (subst (λ (n : ℕ). new < n) (sym (length-set occupants old None)) l)

  moved_old : old < length occupants → old ≢ new → occupant_at (moved occupants old new item) old ≡ None
  unfolding moved
  moved_old l ne = get_or-set_other (set occupants old None) new old (Some item) None ne ∙ get_or-set_same occupants old None None l

  moved_other : (row : ℕ) → row ≢ old → row ≢ new → occupant_at (moved occupants old new item) row ≡ occupant_at occupants row
  unfolding moved
  moved_other row a b = get_or-set_other (set occupants old None) new row (Some item) None b ∙ get_or-set_other occupants old row None None a

slot_same : (slots : List Slot) (item : ℕ) (slot : Slot) → item < length slots → slot_at (set slots item slot) item ≡ slot
slot_same slots item slot l = get_or-set_same slots item slot no_slot l

slot_other : (slots : List Slot) (item : ℕ) (slot : Slot) (i : ℕ) → i ≢ item → slot_at (set slots item slot) i ≡ slot_at slots i
slot_other slots item slot i ne = get_or-set_other slots item i slot no_slot ne

seated_after_move : (stash bins : ℕ) (candidates : List (List ℕ)) (slots : List Slot) (occupants : List (Option ℕ)) (item : ℕ) (slot : Slot) → AreSeated stash bins candidates slots occupants → item < length slots → MayHave stash bins (get_or candidates item []) (slot_of slot) → IsFree occupants slot.row → AreSeated stash bins candidates (set slots item slot) (moved occupants (slot_at slots item).row slot.row item)
seated_after_move stash bins candidates slots occupants item slot t l may free =
    let old : ℕ = (slot_at slots item).row in
    let apart : old ≢ slot.row = λ e. none-some item (sym free.1 ∙ (ap (occupant_at occupants) (sym e) ∙ t.standing.held item l)) in
    let long = length-set slots item slot in
    record {
      rows = length-moved occupants old slot.row item ∙ t.rows;
      may = λ i m. ⊎_elim
          (λ e. subst (λ (k : ℕ). MayHave stash bins (get_or candidates k []) (slot_of (slot_at (set slots item slot) k))) (sym e) (subst (λ (s : Slot). MayHave stash bins (get_or candidates item []) (slot_of s)) (sym (slot_same slots item slot l)) may))
          (λ ne. subst (λ (s : Slot). MayHave stash bins (get_or candidates i []) (slot_of s)) (sym (slot_other slots item slot i ne)) (t.may i (omega (arith, long))))
          (cases_eq i item);
      inside = λ i m. ⊎_elim
          (λ e. let at : slot_at (set slots item slot) i ≡ slot = ap (slot_at (set slots item slot)) e ∙ slot_same slots item slot l in rw at (subst (λ (n : ℕ). slot.row < n) (sym (length-moved occupants old slot.row item)) free.0))
          (λ ne. let at : slot_at (set slots item slot) i ≡ slot_at slots i = slot_other slots item slot i ne in rw at (subst (λ (n : ℕ). (slot_at slots i).row < n) (sym (length-moved occupants old slot.row item)) (t.inside i (omega (arith, long)))))
          (cases_eq i item);
      standing = record {
        held = λ i m. ⊎_elim
            (λ e. let at : slot_at (set slots item slot) i ≡ slot = ap (slot_at (set slots item slot)) e ∙ slot_same slots item slot l in rw at (moved_new occupants old slot.row item free.0 ∙ ap (λ (k : ℕ). Some k) (sym e)))
            (λ ne. let at : slot_at (set slots item slot) i ≡ slot_at slots i = slot_other slots item slot i ne in
            let stands = t.standing.held i (omega (arith, long)) in
            rw at (moved_other occupants old slot.row item (slot_at slots i).row
            (λ q. ne (same_Some i item (sym stands ∙ (ap (occupant_at occupants) q ∙ t.standing.held item l))))
            (λ q. none-some i (sym free.1 ∙ (ap (occupant_at occupants) (sym q) ∙ stands))) ∙ stands))
            (cases_eq i item);
        holds = λ row i h. ⊎_elim
            (λ e. let same : item ≡ i = same_Some item i (sym (moved_new occupants old slot.row item free.0) ∙ (ap (occupant_at (moved occupants old slot.row item)) (sym e) ∙ h)) in
            (subst (λ (k : ℕ). k < length (set slots item slot)) same (omega (arith, long)), ap (λ (k : ℕ). (slot_at (set slots item slot) k).row) (sym same) ∙ (ap (λ (s : Slot). s.row) (slot_same slots item slot l) ∙ sym e)))
            (λ ne. ⊎_elim
            (λ e. absurd (none-some i (sym (moved_old occupants old slot.row item (t.inside item l) apart) ∙ (ap (occupant_at (moved occupants old slot.row item)) (sym e) ∙ h))))
            (λ ne2. let was = t.standing.holds row i (sym (moved_other occupants old slot.row item row ne2 ne) ∙ h) in
            let other : i ≢ item = λ q. ne2 (sym was.1 ∙ ap (λ (k : ℕ). (slot_at slots k).row) q) in
            (omega (arith, long, was.0), ap (λ (s : Slot). s.row) (slot_other slots item slot i other) ∙ was.1))
            (cases_eq row old))
            (cases_eq row slot.row);
      };
    }

slot_last : (slots : List Slot) (slot : Slot) → slot_at (slots ++ slot ∷ []) (length slots) ≡ slot
slot_last slots slot = get_or_push slots slot no_slot (length slots) refl

slot_before : (slots : List Slot) (slot : Slot) (i : ℕ) → i < length slots → slot_at (slots ++ slot ∷ []) i ≡ slot_at slots i
slot_before slots slot i l = get_or_append_left slots (slot ∷ []) no_slot i l

-- an item behind the others is not an earlier one
earlier : (slots : List Slot) (slot : Slot) (i : ℕ) → i < length (slots ++ slot ∷ []) → i ≢ length slots → i < length slots
earlier slots slot i m ne = omega (arith, length_push slots slot)

seated_after_add : (stash bins : ℕ) (candidates : List (List ℕ)) (slots : List Slot) (occupants : List (Option ℕ)) (slot : Slot) → AreSeated stash bins candidates slots occupants → MayHave stash bins (get_or candidates (length slots) []) (slot_of slot) → IsFree occupants slot.row → AreSeated stash bins candidates (slots ++ slot ∷ []) (set occupants slot.row (Some (length slots)))
seated_after_add stash bins candidates slots occupants slot t may free =
    let item : ℕ = length slots in
    let long = length-set occupants slot.row (Some item) in
    let there : occupant_at (set occupants slot.row (Some item)) slot.row ≡ Some item = get_or-set_same occupants slot.row (Some item) None free.0 in
    let others = λ (row : ℕ) (ne : row ≢ slot.row). get_or-set_other occupants slot.row row (Some item) None ne in
    record {
      rows = long ∙ t.rows;
      may = λ i m. ⊎_elim
          (λ e. subst (λ (k : ℕ). MayHave stash bins (get_or candidates k []) (slot_of (slot_at (slots ++ slot ∷ []) k))) (sym e) (subst (λ (s : Slot). MayHave stash bins (get_or candidates item []) (slot_of s)) (sym (slot_last slots slot)) may))
          (λ ne. let l : i < length slots = earlier slots slot i m ne in subst (λ (s : Slot). MayHave stash bins (get_or candidates i []) (slot_of s)) (sym (slot_before slots slot i l)) (t.may i l))
          (cases_eq i item);
      inside = λ i m. ⊎_elim
          (λ e. let at : slot_at (slots ++ slot ∷ []) i ≡ slot = ap (slot_at (slots ++ slot ∷ [])) e ∙ slot_last slots slot in rw at (omega (arith, long, free.0)))
          (λ ne. let l : i < length slots = earlier slots slot i m ne in let at : slot_at (slots ++ slot ∷ []) i ≡ slot_at slots i = slot_before slots slot i l in rw at (omega (arith, long, t.inside i l)))
          (cases_eq i item);
      standing = record {
        held = λ i m. ⊎_elim
            (λ e. let at : slot_at (slots ++ slot ∷ []) i ≡ slot = ap (slot_at (slots ++ slot ∷ [])) e ∙ slot_last slots slot in rw at (there ∙ ap (λ (k : ℕ). Some k) (sym e)))
            (λ ne. let l : i < length slots = earlier slots slot i m ne in
            let at : slot_at (slots ++ slot ∷ []) i ≡ slot_at slots i = slot_before slots slot i l in
            rw at (others (slot_at slots i).row (λ q. none-some i (sym free.1 ∙ (ap (occupant_at occupants) (sym q) ∙ t.standing.held i l))) ∙ t.standing.held i l))
            (cases_eq i item);
        holds = λ row i h. ⊎_elim
            (λ e. let same : item ≡ i = same_Some item i (sym there ∙ (ap (occupant_at (set occupants slot.row (Some item))) (sym e) ∙ h)) in
            (subst (λ (k : ℕ). k < length (slots ++ slot ∷ [])) same (omega (arith, length_push slots slot)), ap (λ (k : ℕ). (slot_at (slots ++ slot ∷ []) k).row) (sym same) ∙ (ap (λ (s : Slot). s.row) (slot_last slots slot) ∙ sym e)))
            (λ ne. let was = t.standing.holds row i (sym (others row ne) ∙ h) in
            (omega (arith, length_push slots slot, was.0), ap (λ (s : Slot). s.row) (slot_before slots slot i was.0) ∙ was.1))
            (cases_eq row slot.row);
      };
    }

-- the same, of what a move and an addition leave
module _ (spare bins : ℕ) (candidates : List (List ℕ)) (slots : List Slot) (occupants : List (Option ℕ)) (slot : Slot) (new_slots : List Slot) (new_occupants : List (Option ℕ)) where
  pub moved_seats : (item : ℕ) → AreSeated spare bins candidates slots occupants → item < length slots → MayHave spare bins (get_or candidates item []) (slot_of slot) → IsFree occupants slot.row → new_slots ≡ set slots item slot → new_occupants ≡ set (set occupants (slot_at slots item).row None) slot.row (Some item) → AreSeated spare bins candidates new_slots new_occupants
  unfolding moved
  moved_seats item t l may free e f =
      subst (λ (ss : List Slot). AreSeated spare bins candidates ss new_occupants) (sym e)
      (subst (λ (os : List (Option ℕ)). AreSeated spare bins candidates (set slots item slot) os) (sym f)
      (seated_after_move spare bins candidates slots occupants item slot t l may free))

  -- the row that an item had is free
  pub moved_free : (item : ℕ) → AreSeated spare bins candidates slots occupants → item < length slots → IsFree occupants slot.row → new_occupants ≡ set (set occupants (slot_at slots item).row None) slot.row (Some item) → IsFree new_occupants (slot_at slots item).row
  unfolding moved
  moved_free item t l free f =
      let old : ℕ = (slot_at slots item).row in
      let apart : old ≢ slot.row = λ e. none-some item (sym free.1 ∙ (ap (occupant_at occupants) (sym e) ∙ t.standing.held item l)) in
      subst (λ (os : List (Option ℕ)). IsFree os old) (sym f)
      (subst (λ (n : ℕ). old < n) (sym (length-moved occupants old slot.row item)) (t.inside item l), moved_old occupants old slot.row item (t.inside item l) apart)

  -- another row stays free
  pub added_free : (n row : ℕ) → IsFree occupants row → row ≢ slot.row → new_occupants ≡ set occupants slot.row (Some n) → IsFree new_occupants row
  added_free n row free ne f = subst (λ (os : List (Option ℕ)). IsFree os row) (sym f)
      (subst (λ (m : ℕ). row < m) (sym (length-set occupants slot.row (Some n))) free.0, get_or-set_other occupants slot.row row (Some n) None ne ∙ free.1)

  pub added_seats : AreSeated spare bins candidates slots occupants → MayHave spare bins (get_or candidates (length slots) []) (slot_of slot) → IsFree occupants slot.row → new_slots ≡ slots ++ slot ∷ [] → new_occupants ≡ set occupants slot.row (Some (length slots)) → AreSeated spare bins candidates new_slots new_occupants
  added_seats t may free e f =
      subst (λ (ss : List Slot). AreSeated spare bins candidates ss new_occupants) (sym e)
      (subst (λ (os : List (Option ℕ)). AreSeated spare bins candidates (slots ++ slot ∷ []) os) (sym f)
      (seated_after_add spare bins candidates slots occupants slot t may free))
