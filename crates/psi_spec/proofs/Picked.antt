-- What is picked is a placement.
use Rattle.std.proofs.Common.{◌≡◌, ◌+◌, ◌<◌, ℕ, List, [], ◌∷◌, ◌++◌, None, Some, length, map, suc, refl, sym, ap, ◌∙◌, subst, arith, ⊎_elim}
use Rattle.std.specs.Prelude.{fold, nat_eq, option_and_then}
use Rattle.std.specs.declared.option.Option.{Option}
use Rattle.std.proofs.lemmas.Bool.{eqb-true, false_from_ne_true}
use Rattle.std.proofs.lemmas.List.{length-map, get_or-map, get_or_push, length_push}
use Rattle.std.proofs.lemmas.List.Folds.{fold_stays}
use Rattle.std.proofs.lemmas.Map.Keys.{IsDistinct-from_apart}
use Rattle.std.proofs.lemmas.Option.{none-some, same_Some}
use Rattle.psi_spec.specs.Placement.{IsPlacement, MayHave, Slot}
use Rattle.psi_spec.specs.Picking.{moved, picked, room_for, with_next}
use Rattle.psi_spec.proofs.Crowding.{nowhere}
use Rattle.psi_spec.proofs.Lists.{AllZip-from_places}
use Rattle.psi_spec.proofs.Moves.{AreApart, IsVacant, apart_push, behind_stash, chain_seats, length-moved}
use Rattle.psi_spec.proofs.Walks.{map_some, room_seats}

module _ (stash bins : ℕ) (candidates : List (List ℕ)) where
  -- so many items stand apart, none of them behind the stash
  record AreSeated (count : ℕ) (slots : List Slot) : Type 0 where
    apart : AreApart stash bins candidates slots
    vacant : IsVacant slots (bins + stash)
    long : length slots ≡ count

  -- the next item is seated too
  next_seated : (count : ℕ) (slots new : List Slot) → AreSeated count slots
      → with_next stash bins candidates slots ≡ Some new → AreSeated (count + 1) new
  unfolding with_next
  next_seated count slots new seated e =
      let last : Slot = behind_stash stash bins candidates in
      let waits : List Slot = slots ++ last ∷ [] in
      let apart = apart_push stash bins candidates slots seated.apart seated.vacant in
      let room = map_some (moved waits)
      (room_for stash bins candidates waits (record { item = length slots; moves = [] })) new e in
      let seating = room_seats stash bins candidates waits (length slots) room.0 (omega (arith, length_push slots last))
      (ap (λ (s : Slot). s.row) (get_or_push slots last nowhere (length slots) refl)) room.1 in
      let after = chain_seats stash bins candidates room.0 waits seating.0 apart seating.1 seating.2 in
      subst (AreSeated (count + 1)) room.2 (record {
        apart = after.0;
        vacant = after.1;
        long = omega (arith, length-moved stash bins candidates room.0 waits, length_push slots last, seated.long);
      })

  -- one more item, as all are seated
  abbrev seat : Option (List Slot) → List ℕ → Option (List Slot)
  seat slots item = option_and_then (with_next stash bins candidates) slots

  -- and so are all that follow
  all_seated : (items : List (List ℕ)) (count : ℕ) (slots new : List Slot) → AreSeated count slots
      → fold seat (Some slots) items ≡ Some new → AreSeated (count + length items) new
  all_seated [] count slots new seated e =
      let same : count ≡ count + 0 = omega arith in
      subst (λ (n : ℕ). AreSeated n new) same (subst (AreSeated count) (same_Some slots new e) seated)
  all_seated (item ∷ items) count slots new seated e =
      by_next (with_next stash bins candidates slots) refl e (all_seated items (count + 1))
    where
      by_next : (next : Option (List Slot)) → with_next stash bins candidates slots ≡ next
          → fold seat next items ≡ Some new
          → ((slots new : List Slot) → AreSeated (count + 1) slots → fold seat (Some slots) items ≡ Some new
          → AreSeated (count + 1 + length items) new)
          → AreSeated (count + suc (length items)) new
      by_next None is e later =
          absurd (none-some new (sym (fold_stays seat None (λ x. refl) items) ∙ e))
      by_next (Some next) is e later =
          let count' : count + 1 + length items ≡ count + suc (length items) = omega arith in
          subst (λ (n : ℕ). AreSeated n new) count' (later next new (next_seated count slots next seated is) e)

  placement_of_seated : (slots : List Slot) → AreSeated (length candidates) slots
      → IsPlacement stash bins candidates slots
  placement_of_seated slots seated = record {
    each = AllZip-from_places (MayHave stash bins) candidates slots [] nowhere (sym seated.long) (λ k l.
        let m : k < length slots = omega (arith, seated.long) in
        ⊎_elim (λ may. may) (λ behind. absurd (seated.vacant k m behind)) (seated.apart.each k m));
    apart = IsDistinct-from_apart nat_eq (map (λ (slot : Slot). slot.row) slots) (λ i j d l m.
        let n : j < length slots = omega (arith, length-map slots (λ (slot : Slot). slot.row)) in
        let o : i < length slots = omega arith in
        let row = λ (k : ℕ) (l : k < length slots). get_or-map (λ (slot : Slot). slot.row) slots k nowhere d l in
        false_from_ne_true _ (λ same.
        let one : i ≡ j = seated.apart.apart i j o n (sym (row i o) ∙ (eqb-true _ _ same ∙ row j n)) in
        absurd (omega arith)));
  }

pub picked_is_placement : (stash bins : ℕ) (candidates : List (List ℕ)) (slots : List Slot)
    → picked stash bins candidates ≡ Some slots → IsPlacement stash bins candidates slots
unfolding picked
picked_is_placement stash bins candidates slots e =
    let none : AreSeated stash bins candidates 0 [] = record {
      apart = record { apart = λ i j l m same. absurd (omega arith); each = λ i l. absurd (omega arith) };
      vacant = λ i l same. absurd (omega arith);
      long = refl;
    } in
    let all : AreSeated stash bins candidates (0 + length candidates) slots =
    all_seated stash bins candidates candidates 0 [] slots none e in
    let count : 0 + length candidates ≡ length candidates = omega arith in
    placement_of_seated stash bins candidates slots
    (subst (λ (n : ℕ). AreSeated stash bins candidates n slots) count all)
