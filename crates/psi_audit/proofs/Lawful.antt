-- The laws of verdicts.
use Rattle.std.proofs.Common.{◌≡◌, ◌<◌, ◌≤◌, ◌∙◌, ℕ, Bool, true, false, not, cond, ◌&&◌, ◌==◌, nat_le, List, [], ◌∷◌, length, map, take, nat_lt, slice_get, Option, Some, None, refl, sym, ap, arith}
use Rattle.std.specs.List.{cons_option, filter_map, list_any, range_with_len}
use Rattle.std.specs.Option.{option_map_or}
use Rattle.std.specs.Prelude.{slice_index_or}
use Rattle.std.proofs.lemmas.Bool.{false≢true, leb-true}
use Rattle.std.proofs.lemmas.Option.{none-some}
use Rattle.psi_spec.specs.Deals.{ReceiverDeal, SenderDeal, IsReceiverDeal, IsSenderDeal}
use Rattle.psi_spec.specs.Differing.{differs_from, first_difference}
use Rattle.psi_spec.specs.Meeting.{placed_of}
use Rattle.psi_spec.specs.Limits.{bins_for}
use Rattle.psi_spec.specs.Placement.{Slot, candidates_of}
use Rattle.psi_spec.specs.Records.{IsWire, LoggedSession}
use Rattle.psi_spec.specs.SessionLaws.{pair_setup}
use Rattle.psi_deal.specs.Differences.{first_difference as first_field}
use Rattle.psi_deal.specs.declared.errors.DealField.{DealField}
use Rattle.psi_cuckoo.specs.Refusal.{fault_of, first_fault, may_have}
use Rattle.psi_cuckoo.specs.Table.{slot_at}
use Rattle.psi_cuckoo.specs.declared.errors.BadSlots.{BadSlots}
use Rattle.psi_cuckoo.specs.declared.errors.BadSlots.TheVariants.{Count, Index, Row, Twice, NoMemory}
use Rattle.psi_cuckoo.specs.declared.slot.Slot.{Slot as RowSlot}
use Rattle.psi_audit.specs.Comparing.{shared_from}
use Rattle.psi_audit.specs.Laws.{DifferencesLieInside, LiesInside, SlotsHaveFaults}
use Rattle.psi_audit.specs.Verdicts.{consistent, differs_at, row_slot, slots_fault, verdict_of, wire_verdict}
use Rattle.psi_audit.specs.declared.comparing.Difference.{Difference}
use Rattle.psi_audit.specs.declared.verdict.Verdict.TheVariants.{DealsDiffer, Differs, Slots}
use Rattle.psi_audit.proofs.Judged.{none_from_same, session_of, shared_differs, wires_same}
use Rattle.psi_audit.proofs.Wired.{session_is_wire}

-- ---- faults

abbrev NoWant : Option BadSlots → Type 0
NoWant o = o ≡ Some NoMemory → ⊥

choose : (a b c : Bool) (x y z : BadSlots) → NoWant (Some x) → NoWant (Some y) → NoWant (Some z) → NoWant (cond a (Some x) (cond b (Some y) (cond c (Some z) None)))
choose true b c x y z hx hy hz = hx
choose false true c x y z hx hy hz = hy
choose false false true x y z hx hy hz = hz
choose false false false x y z hx hy hz = λ e. none-some NoMemory e

first_of : (f : ℕ → Option BadSlots) (xs : List ℕ) → ((i : ℕ) → NoWant (f i)) → NoWant (slice_get (filter_map f xs) 0)
first_of f [] h = λ e. none-some NoMemory e
first_of f (x ∷ xs) h = by_case (f x) (h x) (first_of f xs h)
  where
    by_case : (o : Option BadSlots) → NoWant o → NoWant (slice_get (filter_map f xs) 0) → NoWant (slice_get (cons_option o (filter_map f xs)) 0)
    by_case None here later = later
    by_case (Some y) here later = here

fault_wants : (stash bins : ℕ) (candidates : List (List ℕ)) (slots : List RowSlot) (item : ℕ) → NoWant (fault_of stash bins candidates slots item)
fault_wants stash bins candidates slots item =
    let slot : RowSlot = slot_at slots item in
    choose (nat_lt 3 slot.index) (not (may_have stash bins (slice_index_or candidates item []) slot)) (list_any (λ before. before.row == slot.row) (take item slots)) (Index item) (Row item) (Twice slot.row)
    (λ e. cc) (λ e. cc) (λ e. cc)

first_wants : (stash bins : ℕ) (candidates : List (List ℕ)) (slots : List RowSlot) → NoWant (first_fault stash bins candidates slots)
first_wants stash bins candidates slots = by_case (length slots == length candidates)
  where
    by_case : (b : Bool) → NoWant (cond b (slice_get (filter_map (fault_of stash bins candidates slots) (range_with_len 0 (length slots))) 0) (Some (Count (length slots))))
    by_case true = first_of (fault_of stash bins candidates slots) (range_with_len 0 (length slots)) (fault_wants stash bins candidates slots)
    by_case false = λ e. cc

wire_is_no_slots : (receiver : ReceiverDeal) (sender : SenderDeal) (xs ys : List (List ℕ)) (log : LoggedSession) (fault : BadSlots) → wire_verdict receiver sender xs ys log ≡ Slots fault → ⊥
wire_is_no_slots receiver sender xs ys log fault = by_case (first_difference log.wire (session_of receiver sender xs ys log))
  where
    by_case : (o : Option ℕ) → option_map_or (differs_at log (session_of receiver sender xs ys log)) o (consistent (pair_setup receiver sender xs log.slots) ys) ≡ Slots fault → ⊥
    by_case None e = cc
    by_case (Some place) e = cc

pub slots_have_faults : SlotsHaveFaults
unfolding verdict_of
slots_have_faults receiver sender xs ys log = by_field (first_field receiver sender)
  where
    by_fault : (o : Option BadSlots) → NoWant o → option_map_or Slots o (wire_verdict receiver sender xs ys log) ≡ Slots NoMemory → ⊥
    by_fault None none e = wire_is_no_slots receiver sender xs ys log NoMemory e
    by_fault (Some fault) none e = none (ap (λ (x : BadSlots). Some x) (slots_same fault NoMemory e))
      where
        slots_same : (a b : BadSlots) → Slots a ≡ Slots b → a ≡ b
        slots_same a b e = cc

    by_field : (o : Option DealField) → option_map_or DealsDiffer o (option_map_or Slots (slots_fault receiver xs log.slots) (wire_verdict receiver sender xs ys log)) ≡ Slots NoMemory → ⊥
    by_field None e = by_fault (slots_fault receiver xs log.slots) (first_wants receiver.stash (bins_for (length xs)) (map (candidates_of receiver.key (bins_for (length xs))) xs) (map row_slot log.slots)) e
    by_field (Some field) e = cc

-- ---- sizes

stash_of : (deal : ReceiverDeal) → IsReceiverDeal deal → deal.stash ≤ 16
stash_of deal is = leb-true deal.stash 16 is.stash

width_of_sender : (deal : SenderDeal) → IsSenderDeal deal → deal.tag_length ≤ 16
width_of_sender deal is = by_case (nat_le 1 deal.tag_length) (nat_le deal.tag_length 16) refl is.tag_length
  where
    by_case : (a b : Bool) → nat_le deal.tag_length 16 ≡ b → (a && b) ≡ true → deal.tag_length ≤ 16
    by_case true true e h = leb-true deal.tag_length 16 e
    by_case true false e h = absurd (false≢true h)
    by_case false b e h = absurd (false≢true h)

pub few_of : (xs : List (List ℕ)) (slots : List Slot) → length (placed_of xs slots) ≤ length xs
few_of [] slots = omega arith
few_of (x ∷ xs) [] = omega arith
few_of (x ∷ xs) (slot ∷ slots) = let more = few_of xs slots in omega (arith, more)

-- ---- differences

differing_place : (xs ys : List ℕ) (place : ℕ) → IsWire xs → IsWire ys → differs_from 0 xs ys ≡ Some place → (place < length xs) × (place < length ys)
differing_place xs ys place x y h = by_case (shared_from 0 xs ys) refl
  where
    by_case : (o : Option Difference) → shared_from 0 xs ys ≡ o → (place < length xs) × (place < length ys)
    by_case None e =
        let same : xs ≡ ys = wires_same xs ys x y e in
        absurd (none-some place (sym (ap (λ (zs : List ℕ). differs_from 0 zs ys) same ∙ none_from_same 0 ys) ∙ h))
    by_case (Some d) e =
        let at = shared_differs 0 xs ys d e in
        let is : d.place ≡ place = some_same d.place place (sym at.6 ∙ h) in
        (omega (arith, at.1, at.2, is), omega (arith, at.1, at.3, is))
      where
        some_same : (a b : ℕ) → Some a ≡ Some b → a ≡ b
        some_same a b e = cc

differs_same : (a b c a' b' c' : ℕ) → Differs a b c ≡ Differs a' b' c' → a ≡ a'
differs_same a b c a' b' c' e = cc

wire_inside : (receiver : ReceiverDeal) (sender : SenderDeal) (xs ys : List (List ℕ)) (log : LoggedSession) (offset found wanted : ℕ) → IsWire log.wire → IsWire (session_of receiver sender xs ys log)
    → wire_verdict receiver sender xs ys log ≡ Differs offset found wanted → LiesInside log (session_of receiver sender xs ys log) offset
unfolding first_difference
wire_inside receiver sender xs ys log offset found wanted x y = by_case (differs_from 0 log.wire (session_of receiver sender xs ys log)) refl
  where
    by_case : (o : Option ℕ) → differs_from 0 log.wire (session_of receiver sender xs ys log) ≡ o
        → option_map_or (differs_at log (session_of receiver sender xs ys log)) o (consistent (pair_setup receiver sender xs log.slots) ys) ≡ Differs offset found wanted
        → LiesInside log (session_of receiver sender xs ys log) offset
    by_case None h e = absurd (cc)
    by_case (Some place) h e =
        let inside = differing_place log.wire (session_of receiver sender xs ys log) place x y h in
        record {
          place = place;
          behind = sym (differs_same _ _ _ _ _ _ e);
          recorded = inside.0;
          played = inside.1;
        }

pub differences_lie_inside : DifferencesLieInside
unfolding verdict_of
differences_lie_inside receiver sender xs ys log offset found wanted own peer few frames = by_field (first_field receiver sender) refl
  where
    by_fault : (o : Option BadSlots) → option_map_or Slots o (wire_verdict receiver sender xs ys log) ≡ Differs offset found wanted → LiesInside log (session_of receiver sender xs ys log) offset
    by_fault None e = wire_inside receiver sender xs ys log offset found wanted frames (session_is_wire receiver sender (placed_of xs log.slots) ys own.id peer.id own.count (stash_of receiver own) (width_of_sender sender peer) (omega (arith, few_of xs log.slots, few))) e
    by_fault (Some fault) e = absurd (cc)

    by_field : (o : Option DealField) → first_field receiver sender ≡ o → option_map_or DealsDiffer o (option_map_or Slots (slots_fault receiver xs log.slots) (wire_verdict receiver sender xs ys log)) ≡ Differs offset found wanted
        → LiesInside log (session_of receiver sender xs ys log) offset
    by_field None h e = by_fault (slots_fault receiver xs log.slots) e
    by_field (Some field) h e = absurd (cc)
