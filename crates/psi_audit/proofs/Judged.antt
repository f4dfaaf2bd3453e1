-- Slots that are judged, and bytes that are compared.
use Rattle.std.proofs.Common.{◌≡◌, ◌<◌, ◌+◌, ◌∙◌, inl, inr, ◌⊎◌, ℕ, suc, Bool, true, false, cond, nat_eq, List, [], ◌∷◌, ◌++◌, length, map, get_or, Contains, Result, Ok, Err, Option, Some, None, append-nil, refl, sym, ap, ap₂, subst, arith, eq-eqb}
use Rattle.std.specs.Option.{option_map_or}
use Rattle.std.proofs.lemmas.Bool.{eqb-true}
use Rattle.std.proofs.lemmas.Option.{none-some}
use Rattle.std.specs.Prelude.{IfOk, OnOk}
use Rattle.psi_spec.specs.Formulas.{item_digest}
use Rattle.psi_spec.specs.Placement.{IsPlacement, IsPlacementOf, Slot, candidates_of}
use Rattle.psi_oprf.specs.Candidates.{digest_candidates}
use Rattle.psi_cuckoo.specs.Refusal.{first_fault}
use Rattle.psi_cuckoo.specs.Table.{slot_of}
use Rattle.psi_cuckoo.specs.declared.slot.Slot.{Slot as RowSlot}
use Rattle.std.proofs.lemmas.Simd.{map-map}
use Rattle.psi_spec.specs.Deals.{ReceiverDeal, SenderDeal, ArePair, zero_columns}
use Rattle.psi_spec.specs.Differing.{differs_from, first_difference}
use Rattle.psi_spec.specs.Hits.{ReceiverSide, is_hit, receiver_side}
use Rattle.psi_spec.specs.Limits.{bins_for, rows_for}
use Rattle.psi_spec.specs.Meeting.{Placed, is_shown, placed_of}
use Rattle.psi_spec.specs.Records.{IsWire, LoggedSession, wire_place}
use Rattle.psi_spec.specs.SessionLaws.{pair_lists, pair_setup}
use Rattle.psi_spec.specs.Sessions.{dealt_masked, session_bytes}
use Rattle.psi_spec.specs.Streams.{sender_side}
use Rattle.psi_spec.specs.TagLists.{tag_lists}
use Rattle.psi_spec.proofs.Dealing.{length-placement}
use Rattle.psi_spec.proofs.Finding.{pair_hit_is_shown}
use Rattle.psi_spec.proofs.Lists.{Contains-here, Contains-later}
use Rattle.psi_spec.proofs.Placing.{length-placed_of}
use Rattle.psi_spec.proofs.Records.{wires_end}
use Rattle.psi_deal.specs.Differences.{first_difference as first_field}
use Rattle.psi_deal.specs.declared.errors.DealField.{DealField}
use Rattle.psi_cuckoo.specs.declared.errors.BadSlots.{BadSlots}
use Rattle.psi_cuckoo.specs.declared.errors.BadSlots.TheVariants.{NoMemory}
use Rattle.psi_receiver.specs.Receiving.{hits_of}
use Rattle.psi_spec.specs.Sessions.{dealt_lists}
use Rattle.psi_audit.specs.Comparing.{Compared, IsCompared, shared_from}
use Rattle.psi_audit.specs.Verdicts.{consistent, differs_at, row_slot, slots_fault, verdict_of, wire_verdict}
use Rattle.psi_audit.specs.declared.comparing.Difference.{Difference}
use Rattle.psi_audit.specs.declared.verdict.Verdict.{Verdict}
use Rattle.psi_audit.specs.declared.verdict.Verdict.TheVariants.{DealsDiffer, Differs, Slots}

pub slots_back : (slots : List RowSlot) → map row_slot (map slot_of slots) ≡ slots
slots_back [] = refl
slots_back (slot ∷ slots) = ap (λ (rest : List RowSlot). slot ∷ rest) (slots_back slots)

-- the candidates of the digests of items are those of the items
pub candidates_are : (key key' : List ℕ) (bins bins' : ℕ) (xs digests : List (List ℕ)) → key ≡ key' → bins ≡ bins' → digests ≡ map item_digest xs → map (digest_candidates key bins) digests ≡ map (candidates_of key' bins') xs
candidates_are key key' bins bins' xs digests k b d =
    (λ i. map (digest_candidates (k i) (b i)) (d i)) ∙ map-map (digest_candidates key' bins') item_digest xs

pub placement_so : {E : Type 0} (r : Result (List Slot) E) (stash stash' bins bins' : ℕ) (cs cs' : List (List ℕ)) → stash ≡ stash' → bins ≡ bins' → cs ≡ cs' → IfOk r (IsPlacement stash bins cs) → IfOk r (IsPlacement stash' bins' cs')
placement_so r stash stash' bins bins' cs cs' s b c h =
    subst (λ (n : ℕ). IfOk r (IsPlacement n bins' cs')) s (subst (λ (n : ℕ). IfOk r (IsPlacement stash n cs')) b (subst (λ (xs : List (List ℕ)). IfOk r (IsPlacement stash bins xs)) c h))

pub one_placement_so : (slots : List Slot) (stash stash' bins bins' : ℕ) (cs cs' : List (List ℕ)) → stash ≡ stash' → bins ≡ bins' → cs ≡ cs' → IsPlacement stash bins cs slots → IsPlacement stash' bins' cs' slots
one_placement_so slots stash stash' bins bins' cs cs' s b c h =
    subst (λ (n : ℕ). IsPlacement n bins' cs' slots) s (subst (λ (n : ℕ). IsPlacement stash n cs' slots) b (subst (λ (xs : List (List ℕ)). IsPlacement stash bins xs slots) c h))

pub fault_so : (stash stash' bins bins' : ℕ) (cs cs' : List (List ℕ)) (slots : List RowSlot) → stash ≡ stash' → bins ≡ bins' → cs ≡ cs' → first_fault stash bins cs slots ≡ first_fault stash' bins' cs' (map row_slot (map slot_of slots))
fault_so stash stash' bins bins' cs cs' slots s b c = λ i. first_fault (s i) (b i) (c i) (sym (slots_back slots) i)

-- ---- recorded bytes against those of the session

-- a difference that both byte strings reach is the first
abbrev pub Differing : ℕ → List ℕ → List ℕ → Difference → Type 0
Differing at xs ys d = (k : ℕ) × (d.place ≡ at + k) × (k < length xs) × (k < length ys) × (get_or xs k 0 ≡ d.found) × (get_or ys k 0 ≡ d.wanted) × (differs_from at xs ys ≡ Some d.place)

some_same : (a b : Difference) → Some a ≡ Some b → a ≡ b
some_same a b e = cc

pub shared_differs : (at : ℕ) (xs ys : List ℕ) (d : Difference) → shared_from at xs ys ≡ Some d → Differing at xs ys d
shared_differs at [] ys d h = absurd (none-some d h)
shared_differs at (x ∷ xs) [] d h = absurd (none-some d h)
shared_differs at (x ∷ xs) (y ∷ ys) d h = by_case (nat_eq x y) (shared_differs (at + 1) xs ys d) h
  where
    by_case : (b : Bool) → (shared_from (at + 1) xs ys ≡ Some d → Differing (at + 1) xs ys d) → cond b (shared_from (at + 1) xs ys) (Some (record { place = at; found = x; wanted = y })) ≡ Some d
        → (k : ℕ) × (d.place ≡ at + k) × (k < length (x ∷ xs)) × (k < length (y ∷ ys)) × (get_or (x ∷ xs) k 0 ≡ d.found) × (get_or (y ∷ ys) k 0 ≡ d.wanted) × (cond b (differs_from (at + 1) xs ys) (Some at) ≡ Some d.place)
    by_case true later e =
        let more = later e in
        let place = more.1 in
        (suc more.0, omega (arith, place), omega (arith, more.2), omega (arith, more.3), more.4, more.5, more.6)
    by_case false later e =
        let is : record { place = at; found = x; wanted = y } ≡ d = some_same (record { place = at; found = x; wanted = y }) d e in
        (0, sym (ap (λ (z : Difference). z.place) is) ∙ omega arith, omega arith, omega arith, ap (λ (z : Difference). z.found) is, ap (λ (z : Difference). z.wanted) is, ap (λ (z : Difference). Some z.place) is)

-- where there is none, one goes on where the other ends
shared_front : (at : ℕ) (xs ys : List ℕ) → shared_from at xs ys ≡ None → ((more : List ℕ) × (xs ≡ ys ++ more)) ⊎ ((more : List ℕ) × (ys ≡ xs ++ more))
shared_front at [] ys h = inr (ys, refl)
shared_front at (x ∷ xs) [] h = inl (x ∷ xs, refl)
shared_front at (x ∷ xs) (y ∷ ys) h = by_case (nat_eq x y) refl (shared_front (at + 1) xs ys) h
  where
    joined : x ≡ y → ((more : List ℕ) × (xs ≡ ys ++ more)) ⊎ ((more : List ℕ) × (ys ≡ xs ++ more)) → ((more : List ℕ) × ((x ∷ xs) ≡ (y ∷ ys) ++ more)) ⊎ ((more : List ℕ) × ((y ∷ ys) ≡ (x ∷ xs) ++ more))
    joined e (inl h) = inl (h.0, λ i. e i ∷ h.1 i)
    joined e (inr h) = inr (h.0, λ i. sym e i ∷ h.1 i)

    by_case : (b : Bool) → nat_eq x y ≡ b → (shared_from (at + 1) xs ys ≡ None → ((more : List ℕ) × (xs ≡ ys ++ more)) ⊎ ((more : List ℕ) × (ys ≡ xs ++ more)))
        → cond b (shared_from (at + 1) xs ys) (Some (record { place = at; found = x; wanted = y })) ≡ None
        → ((more : List ℕ) × ((x ∷ xs) ≡ (y ∷ ys) ++ more)) ⊎ ((more : List ℕ) × ((y ∷ ys) ≡ (x ∷ xs) ++ more))
    by_case true e later h = joined (eqb-true x y e) (later h)
    by_case false e later h = absurd (none-some (record { place = at; found = x; wanted = y }) (sym h))

pub wires_same : (xs ys : List ℕ) → IsWire xs → IsWire ys → shared_from 0 xs ys ≡ None → xs ≡ ys
wires_same xs ys x y h = by_case (shared_front 0 xs ys h)
  where
    by_case : ((more : List ℕ) × (xs ≡ ys ++ more)) ⊎ ((more : List ℕ) × (ys ≡ xs ++ more)) → xs ≡ ys
    by_case (inl h) = h.1 ∙ (ap (λ (more : List ℕ). ys ++ more) (wires_end ys h.0 y (subst IsWire h.1 x)) ∙ append-nil ys)
    by_case (inr h) = sym (h.1 ∙ (ap (λ (more : List ℕ). xs ++ more) (wires_end xs h.0 x (subst IsWire h.1 y)) ∙ append-nil xs))

pub none_from_same : (at : ℕ) (xs : List ℕ) → differs_from at xs xs ≡ None
none_from_same at [] = refl
none_from_same at (x ∷ xs) = let same : nat_eq x x ≡ true = eq-eqb x x refl in rw same (none_from_same (at + 1) xs)

abbrev pub session_of : ReceiverDeal → SenderDeal → List (List ℕ) → List (List ℕ) → LoggedSession → List ℕ
session_of receiver sender xs ys log = session_bytes receiver sender (placed_of xs log.slots) ys

pub differs_verdict : (receiver : ReceiverDeal) (sender : SenderDeal) (xs ys : List (List ℕ)) (log : LoggedSession) (d : Difference) → Some d ≡ shared_from 0 log.wire (session_of receiver sender xs ys log)
    → Differs (wire_place (length log.slots) + d.place) d.found d.wanted ≡ wire_verdict receiver sender xs ys log
unfolding first_difference
differs_verdict receiver sender xs ys log d h =
    let session : List ℕ = session_of receiver sender xs ys log in
    let at = shared_differs 0 log.wire session d (sym h) in
    let place : at.0 ≡ d.place = omega (arith, at.1) in
    let found : d.found ≡ get_or log.wire d.place 0 = sym at.4 ∙ ap (λ (k : ℕ). get_or log.wire k 0) place in
    let wanted : d.wanted ≡ get_or session d.place 0 = sym at.5 ∙ ap (λ (k : ℕ). get_or session k 0) place in
    (λ i. Differs (wire_place (length log.slots) + d.place) (found i) (wanted i))
    ∙ sym (ap (λ (o : Option ℕ). option_map_or (differs_at log session) o (consistent (pair_setup receiver sender xs log.slots) ys)) at.6)

pub inside_wire : (xs ys : List ℕ) (d : Difference) → Some d ≡ shared_from 0 xs ys → d.place < length xs
inside_wire xs ys d h = let at = shared_differs 0 xs ys d (sym h) in omega (arith, at.1, at.2)

pub same_verdict : (receiver : ReceiverDeal) (sender : SenderDeal) (xs ys : List (List ℕ)) (log : LoggedSession) → None ≡ shared_from 0 log.wire (session_of receiver sender xs ys log) → IsWire log.wire → IsWire (session_of receiver sender xs ys log)
    → consistent (pair_setup receiver sender xs log.slots) ys ≡ wire_verdict receiver sender xs ys log
unfolding first_difference
same_verdict receiver sender xs ys log h recorded made =
    let session : List ℕ = session_of receiver sender xs ys log in
    let same : log.wire ≡ session = wires_same log.wire session recorded made (sym h) in
    sym (ap (λ (o : Option ℕ). option_map_or (differs_at log session) o (consistent (pair_setup receiver sender xs log.slots) ys)) (ap (λ (w : List ℕ). differs_from 0 w session) same ∙ none_from_same 0 session))

-- ---- verdicts before

pub deals_verdict : (receiver : ReceiverDeal) (sender : SenderDeal) (xs ys : List (List ℕ)) (log : LoggedSession) (field : DealField) → Some field ≡ first_field receiver sender → DealsDiffer field ≡ verdict_of receiver sender xs ys log
unfolding verdict_of
deals_verdict receiver sender xs ys log field h = ap (λ (o : Option DealField). option_map_or DealsDiffer o (option_map_or Slots (slots_fault receiver xs log.slots) (wire_verdict receiver sender xs ys log))) h

pub slots_verdict : (receiver : ReceiverDeal) (sender : SenderDeal) (xs ys : List (List ℕ)) (log : LoggedSession) (fault : BadSlots) → None ≡ first_field receiver sender → slots_fault receiver xs log.slots ≡ Some fault → Slots fault ≡ verdict_of receiver sender xs ys log
unfolding verdict_of
slots_verdict receiver sender xs ys log fault none h =
    ap (λ (o : Option BadSlots). option_map_or Slots o (wire_verdict receiver sender xs ys log)) (sym h)
    ∙ ap (λ (o : Option DealField). option_map_or DealsDiffer o (option_map_or Slots (slots_fault receiver xs log.slots) (wire_verdict receiver sender xs ys log))) none

pub frames_verdict : (receiver : ReceiverDeal) (sender : SenderDeal) (xs ys : List (List ℕ)) (log : LoggedSession) → None ≡ first_field receiver sender → slots_fault receiver xs log.slots ≡ None → wire_verdict receiver sender xs ys log ≡ verdict_of receiver sender xs ys log
unfolding verdict_of
frames_verdict receiver sender xs ys log none h =
    ap (λ (o : Option BadSlots). option_map_or Slots o (wire_verdict receiver sender xs ys log)) (sym h)
    ∙ ap (λ (o : Option DealField). option_map_or DealsDiffer o (option_map_or Slots (slots_fault receiver xs log.slots) (wire_verdict receiver sender xs ys log))) none

-- ---- the marks of the receiver's end

map_same : {A B : Type 0} (f g : A → B) (xs : List A) → ((x : A) → Contains xs x → f x ≡ g x) → map f xs ≡ map g xs
map_same f g [] h = refl
map_same {A} {B} f g (x ∷ xs) h = ap₂ (λ (y : B) (ys : List B). y ∷ ys) (h x (Contains-here x xs)) (map_same f g xs (λ z c. h z (Contains-later x xs z c)))

pub hits_are_shown : (receiver : ReceiverDeal) (sender : SenderDeal) (xs ys : List (List ℕ)) (slots : List Slot) → ArePair receiver sender → length receiver.seeds ≡ 512 → length sender.choice ≡ 64
    → IsPlacementOf receiver.stash receiver.key (bins_for (length xs)) xs slots
    → hits_of receiver (placed_of xs slots) (dealt_lists receiver sender (placed_of xs slots) ys) ≡ map (is_shown (pair_setup receiver sender xs slots) ys) (placed_of xs slots)
unfolding hits_of
hits_are_shown receiver sender xs ys slots pair seeds choice placement =
    let placed : List Placed = placed_of xs slots in
    let count : length placed ≡ length xs = length-placed_of xs slots (length-placement receiver.stash receiver.key (bins_for (length xs)) xs slots placement) in
    ap (λ (n : ℕ). map (is_hit (side n) (tag_lists sender.stash (sender_side sender n (dealt_masked receiver placed)) ys)) placed) count
    ∙ map_same (is_hit (receiver_side receiver xs slots) (pair_lists receiver sender xs slots ys)) (is_shown (pair_setup receiver sender xs slots) ys) placed
    (pair_hit_is_shown receiver sender xs ys slots pair seeds choice placement)
  where
    side : ℕ → ReceiverSide
    side n = record { key = receiver.key; tag_length = receiver.tag_length; columns = zero_columns receiver (rows_for receiver.stash n); bins = bins_for n; placed = placed_of xs slots }

-- ---- steps of the audit

pub refused_so : {E : Type 0} (r : Result Verdict E) (fault : BadSlots) (target : Verdict) → IfOk r (λ v. v ≡ Slots fault) → OnOk r (fault ≡ NoMemory → ⊥) → ((fault ≡ NoMemory → ⊥) → Slots fault ≡ target) → IfOk r (λ v. v ≡ target)
refused_so (Ok v) fault target is other h = is ∙ h other
refused_so (Err e) fault target is other h = tt

pub heard_is : (recorded wire session' session : List ℕ) (c : Compared) (d : Option Difference) → recorded ≡ wire → session' ≡ session → IsCompared recorded ([] ++ session') c → d ≡ c.difference → d ≡ shared_from 0 wire session
heard_is recorded wire session' session c d r s h is = is ∙ (h.difference ∙ (λ j. shared_from 0 (r j) (s j)))
