-- What a verdict says of the lists, the deals and the record that it was passed on.
use Rattle.std.proofs.Common.{◌≡◌, ◌≢◌, ◌+◌, ◌<◌, ◌==◌, ◌∙◌, ℕ, zero, suc, Bool, true, false, cond, List, [], ◌∷◌, ◌++◌, length, map, take, get_or, slice_get, slice_index, Option, Some, None, Ok, Err, nat_eq, refl, sym, ap, ap₂, subst, arith}
use Rattle.std.specs.declared.result.Result.{Result}
use Rattle.std.specs.List.{AllZip, filter_map, range_with_len}
use Rattle.std.specs.Option.{option_map_or}
use Rattle.std.proofs.lemmas.Bool.{eqb-true, leb-true, eq-eqb, false_from_ne_true, true≢false}
use Rattle.std.proofs.lemmas.List.{get_or-map, get_or-take, length-map, length-take}
use Rattle.std.proofs.lemmas.List.Folds.{list_any_at}
use Rattle.std.proofs.lemmas.Map.Keys.{IsDistinct-from_apart}
use Rattle.std.proofs.lemmas.Option.{get_or_from_slice_get}
use Rattle.psi_spec.specs.Deals.{ArePair, IsReceiverDeal, IsSenderDeal, ReceiverDeal}
use Rattle.psi_spec.specs.Differing.{differs_from, first_difference}
use Rattle.psi_spec.specs.Limits.{bins_for}
use Rattle.psi_spec.specs.Placement.{IsPlacement, IsPlacementOf, MayHave, Slot, candidates_of}
use Rattle.psi_spec.specs.Meeting.{placed_of}
use Rattle.psi_spec.specs.Records.{IsLogged, IsWire}
use Rattle.psi_spec.proofs.Crowding.{length_zip}
use Rattle.psi_spec.proofs.Dealing.{length-placement}
use Rattle.psi_spec.proofs.Placing.{length-placed_of}
use Rattle.psi_spec.proofs.Records.{wires_end}
use Rattle.psi_deal.specs.Differences.{first_difference as first_field}
use Rattle.psi_deal.specs.declared.errors.DealField.{DealField}
use Rattle.psi_deal.proofs.Differing.{none_from_pair, pair_from_none}
use Rattle.psi_cuckoo.specs.Refusal.{fault_of, first_fault}
use Rattle.psi_cuckoo.specs.Table.{no_slot, slot_at, slot_of}
use Rattle.psi_cuckoo.specs.declared.errors.BadSlots.{BadSlots}
use Rattle.psi_cuckoo.specs.declared.errors.BadSlots.TheVariants.{Count}
use Rattle.psi_cuckoo.specs.declared.slot.Slot.{Slot as RowSlot}
use Rattle.psi_cuckoo.proofs.Judging.{first_is_none, may_from_test, placement_right, right_parts}
use Rattle.psi_audit.specs.Verdicts.{consistent, differs_at, row_slot, slots_fault, verdict_of, wire_verdict}
use Rattle.psi_audit.specs.declared.verdict.Verdict.TheVariants as verdict
use Rattle.psi_audit.proofs.Wired.{session_is_wire}
use Rattle.psi_receiver.proofs.Hearing.{width_of}
use Rattle.psi_auditor.specs.Audit.{findings_of, found_by}
use Rattle.psi_auditor.specs.AuditPromises.{DifferAt, DiffersFrom, Evidence, IsConsistent, IsPlayable, findings_in, session_in, setup_in}
use Rattle.psi_auditor.specs.declared.findings.Findings.{Findings}
use Rattle.psi_texts.specs.declared.status.Status.{Status}
use Rattle.psi_texts.specs.declared.status.Status.TheVariants as status

-- ---- slots without a fault

none_each : (f : ℕ → Option BadSlots) (a n : ℕ) → slice_get (filter_map f (range_with_len a n)) 0 ≡ None → (j : ℕ) → j < n → f (a + j) ≡ None
none_each f a zero none j l = absurd (omega arith)
none_each f a (suc n) none zero l = let same : a + 0 ≡ a = omega arith in ap f same ∙ by_first (f a) refl
  where
    by_first : (o : Option BadSlots) → f a ≡ o → f a ≡ None
    by_first (Some x) e = let here : Some x ≡ None = rw e at none in cc here
    by_first None e = e
none_each f a (suc n) none (suc j) l =
    let same : a + suc j ≡ a + 1 + j = omega arith in ap f same ∙ none_each f (a + 1) n (later (f a) refl) j (omega arith)
  where
    later : (o : Option BadSlots) → f a ≡ o → slice_get (filter_map f (range_with_len (a + 1) n)) 0 ≡ None
    later (Some x) e = let here : Some x ≡ None = rw e at none in cc here
    later None e = rw e at none

-- what holds at each place holds along two lists
along : {A B : Type 0} (R : A → B → Type 0) (xs : List A) (ys : List B) (d : A) (e : B) → length xs ≡ length ys
    → ((k : ℕ) → k < length xs → R (get_or xs k d) (get_or ys k e)) → AllZip R xs ys
along R [] [] d e long h = tt
along R [] (y ∷ ys) d e long h = absurd (omega arith)
along R (x ∷ xs) [] d e long h = absurd (omega arith)
along R (x ∷ xs) (y ∷ ys) d e long h = (h 0 (omega arith), along R xs ys d e (omega arith) (λ k l. h (suc k) (omega arith)))

module _ (stash bins : ℕ) (candidates : List (List ℕ)) (slots : List RowSlot) where
  -- slots that have no first fault have none
  faultless : first_fault stash bins candidates slots ≡ None
      → (length slots ≡ length candidates) × ((j : ℕ) → j < length slots → fault_of stash bins candidates slots j ≡ None)
  faultless none = by_count (length slots == length candidates) refl none
    where
      by_count : (b : Bool) → (length slots == length candidates) ≡ b
          → cond b (slice_get (filter_map (fault_of stash bins candidates slots) (range_with_len 0 (length slots))) 0) (Some (Count (length slots))) ≡ None
          → (length slots ≡ length candidates) × ((j : ℕ) → j < length slots → fault_of stash bins candidates slots j ≡ None)
      by_count true e h = (
        eqb-true (length slots) (length candidates) e,
        λ j l. let same : j ≡ 0 + j = omega arith in ap (fault_of stash bins candidates slots) same ∙ none_each (fault_of stash bins candidates slots) 0 (length slots) h j l,
      )
      by_count false e h = cc h

  -- they are a placement
  placement_from_none : first_fault stash bins candidates slots ≡ None → IsPlacement stash bins candidates (map slot_of slots)
  placement_from_none none =
      let right = faultless none in
      let placed : List Slot = map slot_of slots in
      let long : length placed ≡ length slots = length-map slots slot_of in
      let at = λ (k : ℕ) (l : k < length slots). get_or-map slot_of slots k no_slot (slot_of no_slot) l in
      let parts = λ (k : ℕ) (l : k < length slots). right_parts stash bins candidates slots k (right.1 k l) in
      record {
        each = along (MayHave stash bins) candidates placed [] (slot_of no_slot) (sym right.0 ∙ sym long) (λ k l.
            let m : k < length slots = let e = right.0 in omega arith in
            subst (MayHave stash bins (get_or candidates k [])) (sym (at k m)) (may_from_test stash bins (get_or candidates k []) (slot_at slots k) (parts k m).1));
        apart = IsDistinct-from_apart nat_eq (map (λ (slot : Slot). slot.row) placed) (λ i j d l m.
            let n : j < length slots = omega (arith, length-map placed (λ (slot : Slot). slot.row)) in
            let o : i < length slots = omega arith in
            let row = λ (k : ℕ) (l : k < length slots). get_or-map (λ (slot : Slot). slot.row) placed k (slot_of no_slot) d (omega arith) ∙ ap (λ (slot : Slot). slot.row) (at k l) in
            false_from_ne_true _ (λ same.
            let e : (slot_at slots i).row ≡ (slot_at slots j).row = sym (row i o) ∙ (eqb-true _ _ same ∙ row j n) in
            let there : (get_or (take j slots) i no_slot).row ≡ (slot_at slots j).row = ap (λ (s : RowSlot). s.row) (get_or-take j slots i no_slot l) ∙ e in
            let within : i < length (take j slots) = omega (arith, length-take j slots) in
            absurd (true≢false (sym (list_any_at (λ (before : RowSlot). before.row == (slot_at slots j).row) (take j slots) i no_slot within (eq-eqb _ _ there)) ∙ (parts j n).2))));
      }

row_slots : (slots : List Slot) → map slot_of (map row_slot slots) ≡ slots
row_slots [] = refl
row_slots (slot ∷ slots) = ap (λ (rest : List Slot). slot ∷ rest) (row_slots slots)

pub placed_from_none : (deal : ReceiverDeal) (xs : List (List ℕ)) (slots : List Slot) → slots_fault deal xs slots ≡ None
    → IsPlacementOf deal.stash deal.key (bins_for (length xs)) xs slots
placed_from_none deal xs slots none =
    let candidates : List (List ℕ) = map (candidates_of deal.key (bins_for (length xs))) xs in
    subst (IsPlacement deal.stash (bins_for (length xs)) candidates) (row_slots slots) (placement_from_none deal.stash (bins_for (length xs)) candidates (map row_slot slots) none)

pub none_from_placed : (deal : ReceiverDeal) (xs : List (List ℕ)) (slots : List Slot) → IsPlacementOf deal.stash deal.key (bins_for (length xs)) xs slots
    → slots_fault deal xs slots ≡ None
none_from_placed deal xs slots placement =
    let bins : ℕ = bins_for (length xs) in
    let candidates : List (List ℕ) = map (candidates_of deal.key bins) xs in
    let rows : List RowSlot = map row_slot slots in
    let count : length rows ≡ length candidates = length-map slots row_slot ∙ sym (length_zip (MayHave deal.stash bins) candidates slots placement.each) in
    let same : IsPlacement deal.stash bins candidates (map slot_of rows) = subst (IsPlacement deal.stash bins candidates) (sym (row_slots slots)) placement in
    let three = λ (i : ℕ) (l : i < length candidates). ap length (get_or-map (candidates_of deal.key bins) xs i [] [] (omega (arith, length-map xs (candidates_of deal.key bins)))) in
    first_is_none deal.stash bins candidates rows count (λ j l. placement_right deal.stash bins candidates rows j three count same l)

-- ---- the first place at which byte strings differ

same_from_none : (at : ℕ) (xs ys : List ℕ) → differs_from at xs ys ≡ None → xs ≡ ys
same_from_none at [] [] h = refl
same_from_none at [] (y ∷ ys) h = cc h
same_from_none at (x ∷ xs) [] h = cc h
same_from_none at (x ∷ xs) (y ∷ ys) h = by_case (x == y) refl (same_from_none (at + 1) xs ys) h
  where
    by_case : (b : Bool) → (x == y) ≡ b → (differs_from (at + 1) xs ys ≡ None → xs ≡ ys) → cond b (differs_from (at + 1) xs ys) (Some at) ≡ None → x ∷ xs ≡ y ∷ ys
    by_case true e same later = ap₂ (λ (z : ℕ) (zs : List ℕ). z ∷ zs) (eqb-true x y e) (same later)
    by_case false e same none = cc none

none_from_same : (at : ℕ) (xs : List ℕ) → differs_from at xs xs ≡ None
none_from_same at [] = refl
none_from_same at (x ∷ xs) = let e : (x == x) ≡ true = eq-eqb x x refl in rw e (none_from_same (at + 1) xs)

-- where two byte strings part: at a byte of both, or where one of them ends
data Parting (xs ys : List ℕ) (at place : ℕ) : Type 0 where
  inside : (count x y : ℕ) → place ≡ at + count → take count xs ≡ take count ys → slice_get xs count ≡ Some x → slice_get ys count ≡ Some y → x ≢ y → Parting xs ys at place
  first_ends : (y : ℕ) (more : List ℕ) → ys ≡ xs ++ y ∷ more → Parting xs ys at place
  second_ends : (x : ℕ) (more : List ℕ) → xs ≡ ys ++ x ∷ more → Parting xs ys at place

-- the same byte before both
behind_same : (x y : ℕ) (xs ys : List ℕ) (at place : ℕ) → x ≡ y → Parting xs ys (at + 1) place → Parting (x ∷ xs) (y ∷ ys) at place
behind_same x y xs ys at place same (inside count a b is before u v apart) =
    inside (suc count) a b (omega arith) (ap₂ (λ (z : ℕ) (zs : List ℕ). z ∷ zs) same before) u v apart
behind_same x y xs ys at place same (first_ends b more e) = first_ends b more (ap₂ (λ (z : ℕ) (zs : List ℕ). z ∷ zs) (sym same) e)
behind_same x y xs ys at place same (second_ends a more e) = second_ends a more (ap₂ (λ (z : ℕ) (zs : List ℕ). z ∷ zs) same e)

parted : (at place : ℕ) (xs ys : List ℕ) → differs_from at xs ys ≡ Some place → Parting xs ys at place
parted at place [] [] h = cc h
parted at place [] (y ∷ ys) h = first_ends y ys refl
parted at place (x ∷ xs) [] h = second_ends x xs refl
parted at place (x ∷ xs) (y ∷ ys) h = by_case (x == y) refl (parted (at + 1) place xs ys) h
  where
    by_case : (b : Bool) → (x == y) ≡ b → (differs_from (at + 1) xs ys ≡ Some place → Parting xs ys (at + 1) place)
        → cond b (differs_from (at + 1) xs ys) (Some at) ≡ Some place → Parting (x ∷ xs) (y ∷ ys) at place
    by_case true e part later = behind_same x y xs ys at place (eqb-true x y e) (part later)
    by_case false e part here =
        let is : at ≡ place = cc here in
        inside 0 x y (omega arith) refl refl refl (λ same. true≢false (sym (eq-eqb x y same) ∙ e))

some_more : (x : ℕ) (more : List ℕ) → x ∷ more ≡ [] → ⊥
some_more x more e = cc e

-- frames that end with their one end frame part at a byte of both
differ_there : (recorded session : List ℕ) (place : ℕ) → IsWire recorded → IsWire session → first_difference recorded session ≡ Some place
    → DifferAt recorded session place (slice_index recorded place) (slice_index session place)
unfolding first_difference
differ_there recorded session place wire played h = by_parting (parted 0 place recorded session h)
  where
    by_parting : Parting recorded session 0 place → DifferAt recorded session place (slice_index recorded place) (slice_index session place)
    by_parting (inside count x y is before u v apart) =
        let same : count ≡ place = omega arith in
        let found : slice_index recorded count ≡ x = get_or_from_slice_get recorded count x 0 u in
        let wanted : slice_index session count ≡ y = get_or_from_slice_get session count y 0 v in
        subst (λ (n : ℕ). DifferAt recorded session n (slice_index recorded n) (slice_index session n)) same (record {
          before = before;
          found_there = u ∙ ap Some (sym found);
          wanted_there = v ∙ ap Some (sym wanted);
          apart = λ e. apart (sym found ∙ e ∙ wanted);
        })
    by_parting (first_ends y more e) = absurd (some_more y more (wires_end recorded (y ∷ more) wire (subst IsWire e played)))
    by_parting (second_ends x more e) = absurd (some_more x more (wires_end session (x ∷ more) played (subst IsWire e wire)))

-- the session that is played has such frames
session_has_frames : (e : Evidence) → IsReceiverDeal e.receiver → IsSenderDeal e.sender → IsLogged e.log → IsPlayable e → IsWire (session_in e)
session_has_frames e receiver sender log playable =
    let long = length-placement e.receiver.stash e.receiver.key (bins_for (length e.xs)) e.xs e.log.slots playable.placement in
    session_is_wire e.receiver e.sender (placed_of e.xs e.log.slots) e.ys receiver.id sender.id receiver.count (leb-true e.receiver.stash 16 receiver.stash)
    (omega (arith, width_of e.receiver receiver, playable.pair.tag_length)) (omega (arith, log.few, long, length-placed_of e.xs e.log.slots long))

-- ---- what a verdict says

-- what it finds, or why it refuses, of these lists, deals and record
abbrev pub Says : Evidence → Result Findings Status → Type 0
Says e (Ok found) = IsConsistent e × (found ≡ findings_in e)
Says e (Err (status.DealsDiffer field)) = first_field e.receiver e.sender ≡ Some field
Says e (Err (status.BadSlots fault)) = ArePair e.receiver e.sender × (slots_fault e.receiver e.xs e.log.slots ≡ Some fault)
Says e (Err (status.Differs offset found wanted)) = DiffersFrom offset found wanted e
Says e (Err _) = ⊥

pub evidence_says : (e : Evidence) → IsReceiverDeal e.receiver → IsSenderDeal e.sender → IsLogged e.log → Says e (findings_of e.receiver e.sender e.xs e.ys e.log)
unfolding findings_of verdict_of first_difference
evidence_says e receiver sender log = by_field (first_field e.receiver e.sender) refl
  where
    by_wire : ArePair e.receiver e.sender → slots_fault e.receiver e.xs e.log.slots ≡ None → (o : Option ℕ) → first_difference e.log.wire (session_in e) ≡ o
        → Says e (found_by (option_map_or (differs_at e.log (session_in e)) o (consistent (setup_in e) e.ys)))
    by_wire pair none None same =
        (record { playable = record { pair = pair; placement = placed_from_none e.receiver e.xs e.log.slots none }; session = same_from_none 0 e.log.wire (session_in e) same }, refl)
    by_wire pair none (Some place) differ =
        let playable : IsPlayable e = record { pair = pair; placement = placed_from_none e.receiver e.xs e.log.slots none } in
        (playable, (place, refl, differ_there e.log.wire (session_in e) place log.frames (session_has_frames e receiver sender log playable) differ))

    by_slots : ArePair e.receiver e.sender → (o : Option BadSlots) → slots_fault e.receiver e.xs e.log.slots ≡ o
        → Says e (found_by (option_map_or verdict.Slots o (wire_verdict e.receiver e.sender e.xs e.ys e.log)))
    by_slots pair None none = by_wire pair none (first_difference e.log.wire (session_in e)) refl
    by_slots pair (Some fault) some = (pair, some)

    by_field : (o : Option DealField) → first_field e.receiver e.sender ≡ o
        → Says e (found_by (option_map_or verdict.DealsDiffer o (option_map_or verdict.Slots (slots_fault e.receiver e.xs e.log.slots) (wire_verdict e.receiver e.sender e.xs e.ys e.log))))
    by_field None none =
        by_slots (pair_from_none e.receiver e.sender (receiver.count ∙ sym sender.count) none) (slots_fault e.receiver e.xs e.log.slots) refl
    by_field (Some field) some = some

-- a consistent record is found to be so
pub consistent_is_found : (e : Evidence) → IsConsistent e → findings_of e.receiver e.sender e.xs e.ys e.log ≡ Ok (findings_in e)
unfolding findings_of verdict_of first_difference
consistent_is_found e is =
    let field : first_field e.receiver e.sender ≡ None = none_from_pair e.receiver e.sender is.playable.pair in
    let fault : slots_fault e.receiver e.xs e.log.slots ≡ None = none_from_placed e.receiver e.xs e.log.slots is.playable.placement in
    let same : first_difference e.log.wire (session_in e) ≡ None =
    ap (λ (wire : List ℕ). differs_from 0 wire (session_in e)) is.session ∙ none_from_same 0 (session_in e) in
    by_parts (first_field e.receiver e.sender) (slots_fault e.receiver e.xs e.log.slots) (first_difference e.log.wire (session_in e)) field fault same
  where
    by_parts : (field : Option DealField) (fault : Option BadSlots) (place : Option ℕ) → field ≡ None → fault ≡ None → place ≡ None
        → found_by (option_map_or verdict.DealsDiffer field (option_map_or verdict.Slots fault
        (option_map_or (differs_at e.log (session_in e)) place (consistent (setup_in e) e.ys)))) ≡ Ok (findings_in e)
    by_parts None None None a b c = refl
    by_parts (Some field) fault place a b c = cc a
    by_parts None (Some fault) place a b c = cc b
    by_parts None None (Some place) a b c = cc c
