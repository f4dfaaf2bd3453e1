-- The paths of a search.
use Rattle.std.proofs.Common.{◌≡◌, ◌≢◌, ◌+◌, ◌-◌, ◌<◌, ◌≤◌, ℕ, List, [], ◌∷◌, ◌++◌, Some, None, length, map, get_or, set, refl, sym, ap, ◌∙◌, subst, arith, ⊎_elim, inl, inr}
use Rattle.std.specs.Prelude.{MatchOption, nat_eq}
use Rattle.std.specs.List.{IsDistinct, range_with_len}
use Rattle.std.specs.Cmp.{unsigned_Decides}
use Rattle.std.proofs.lemmas.Bool.{cases_eq, eqb-true, false_from_ne_true}
use Rattle.std.proofs.lemmas.Cmp.{nat_eq_equiv}
use Rattle.std.proofs.lemmas.List.{length-set, get_or-set_same, get_or-set_other, get_or_push, get_or_append_left, get_or_default, length_push, length-map, get_or-map}
use Rattle.std.proofs.lemmas.List.FromFn.{length-range_with_len, get_or-range_with_len}
use Rattle.std.proofs.lemmas.Map.Keys.{IsDistinct-from_apart}
use Rattle.std.proofs.lemmas.Map.Made.{length-le_from_is_member, is_member-Decides}
use Rattle.std.specs.declared.option.Option.{Option}
use Rattle.std.proofs.lemmas.Option.{get_or_from_slice_get, slice_get-get_or}
use Rattle.psi_spec.specs.Placement.{MayHave}
use Rattle.psi_cuckoo.specs.Table.{IsFree, LeadsToFree, Names, no_slot, slot_at, occupant_at}
use Rattle.psi_cuckoo.specs.declared.search.Search.{Search}
use Rattle.psi_cuckoo.specs.Search.{AddsVisit, AreTrees, IsLed, no_visit, visit_at, IsVisited, IsReached, Extends, AllReached}
use Rattle.psi_cuckoo.specs.declared.slot.Slot.{Slot}
use Rattle.psi_cuckoo.specs.declared.search.Visit.{Visit}

-- the row that the candidate with this number is
pub row_named : (candidates : List (List ℕ)) (item index row : ℕ) → Names candidates item index row → get_or (get_or candidates item []) (index - 1) 0 ≡ row
row_named candidates item index row h = get_or_from_slice_get (get_or candidates item []) (index - 1) row 0 h.2

-- a candidate names one row
pub names_once : (candidates : List (List ℕ)) (item index r s : ℕ) → Names candidates item index r → Names candidates item index s → r ≡ s
names_once candidates item index r s a b = sym (row_named candidates item index r a) ∙ row_named candidates item index s b

-- the row that a path's last candidate names is free
pub free_at_path : (candidates : List (List ℕ)) (occupants : List (Option ℕ)) (item index row : ℕ) → LeadsToFree candidates occupants item index → Names candidates item index row → IsFree occupants row
free_at_path candidates occupants item index row free named = subst (IsFree occupants) (names_once candidates item index free.0 row free.1 named) free.2

-- an item may stand where a candidate of it is
pub may_at : (spare bins : ℕ) (candidates : List (List ℕ)) (item index row : ℕ) → Names candidates item index row → MayHave spare bins (get_or candidates item []) (record { row = row; index = index })
may_at spare bins candidates item index row named = inr (named.0, named.2)

-- two visits of one item are one
pub visited_once : (visits : List Visit) (numbers : List ℕ) → ((k : ℕ) → k < length visits → get_or numbers (visit_at visits k).item 0 ≡ k) → (j k : ℕ) → j < length visits → k < length visits → (visit_at visits j).item ≡ (visit_at visits k).item → j ≡ k
visited_once visits numbers numbered j k l m e = sym (numbered j l) ∙ (ap (λ (i : ℕ). get_or numbers i 0) e ∙ numbered k m)

-- an item that has a number above 0 has a way through a bin
pub led_on : (bins : ℕ) (candidates : List (List ℕ)) (visits : List Visit) (before parent index row : ℕ) → IsLed bins candidates visits before parent index row → index ≢ 0 → (parent < before) × Names candidates (visit_at visits parent).item index row
led_on bins candidates visits before parent index row led ne = ⊎_elim (λ h. absurd (ne h.0)) (λ h. h) led

-- an item with the number 0 stands behind the bins
pub led_root : (bins : ℕ) (candidates : List (List ℕ)) (visits : List Visit) (before parent index row : ℕ) → IsLed bins candidates visits before parent index row → index ≡ 0 → bins ≤ row
led_root bins candidates visits before parent index row led e = ⊎_elim (λ h. h.1) (λ h. absurd (let l : 0 < index = h.1.0 in omega arith)) led

-- ---- searches grow

visit_last : (visits : List Visit) (visit : Visit) → visit_at (visits ++ visit ∷ []) (length visits) ≡ visit
visit_last visits visit = get_or_push visits visit no_visit (length visits) refl

visit_before : (visits : List Visit) (visit : Visit) (k : ℕ) → k < length visits → visit_at (visits ++ visit ∷ []) k ≡ visit_at visits k
visit_before visits visit k l = get_or_append_left visits (visit ∷ []) no_visit k l

led_more : (bins : ℕ) (candidates : List (List ℕ)) (visits : List Visit) (visit : Visit) (before parent index row : ℕ) → before ≤ length visits → IsLed bins candidates visits before parent index row → IsLed bins candidates (visits ++ visit ∷ []) before parent index row
led_more bins candidates visits visit before parent index row few led = ⊎_elim inl (λ h. let l : parent < length visits = omega (arith, h.0) in inr (h.0, subst (λ (v : Visit). Names candidates v.item index row) (sym (visit_before visits visit parent l)) h.1)) led

pub forest_of_none : (bins : ℕ) (candidates : List (List ℕ)) (slots : List Slot) (numbers : List ℕ) → length slots ≤ length candidates → length candidates ≤ length numbers → AreTrees bins candidates slots [] numbers
forest_of_none bins candidates slots numbers few long = record {
  few = few;
  long = long;
  each = λ k l. absurd (omega arith);
  numbered = λ k l. absurd (omega arith);
  led = λ k l. absurd (omega arith);
}

pub forest_after_visit : (bins : ℕ) (candidates : List (List ℕ)) (slots : List Slot) (visits : List Visit) (numbers : List ℕ) (visit : Visit) → AreTrees bins candidates slots visits numbers → visit.item < length slots → (IsVisited visits visit.item → ⊥) → IsLed bins candidates visits (length visits) visit.parent visit.index (slot_at slots visit.item).row → AreTrees bins candidates slots (visits ++ visit ∷ []) (set numbers visit.item (length visits))
forest_after_visit bins candidates slots visits numbers visit forest placed unvisited led =
    let n : ℕ = length visits in
    let earlier = λ (k : ℕ) (l : k < length (visits ++ visit ∷ [])) (ne : k ≢ n). let l2 : k < n = omega (arith, length_push visits visit) in l2 in
    let P = λ (k : ℕ) (v : Visit). IsLed bins candidates (visits ++ visit ∷ []) k v.parent v.index (slot_at slots v.item).row in
    let there : get_or (set numbers visit.item n) visit.item 0 ≡ n = get_or-set_same numbers visit.item n 0 (omega (arith, forest.few, forest.long)) in
    record {
      few = forest.few;
      long = omega (arith, forest.long, length-set numbers visit.item n);
      each = λ k l. ⊎_elim
          (λ e. subst (λ (v : Visit). v.item < length slots) (sym (ap (visit_at (visits ++ visit ∷ [])) e ∙ visit_last visits visit)) placed)
          (λ ne. subst (λ (v : Visit). v.item < length slots) (sym (visit_before visits visit k (earlier k l ne))) (forest.each k (earlier k l ne)))
          (cases_eq k n);
      numbered = λ k l. ⊎_elim
          (λ e. subst (λ (v : Visit). get_or (set numbers visit.item n) v.item 0 ≡ k) (sym (ap (visit_at (visits ++ visit ∷ [])) e ∙ visit_last visits visit)) (there ∙ sym e))
          (λ ne. let m : k < n = earlier k l ne in subst (λ (v : Visit). get_or (set numbers visit.item n) v.item 0 ≡ k) (sym (visit_before visits visit k m)) (get_or-set_other numbers visit.item (visit_at visits k).item n 0 (λ e. unvisited (k, m, e)) ∙ forest.numbered k m))
          (cases_eq k n);
      led = λ k l. ⊎_elim
          (λ e. subst (P k) (sym (ap (visit_at (visits ++ visit ∷ [])) e ∙ visit_last visits visit)) (subst (λ (k : ℕ). P k visit) (sym e) (led_more bins candidates visits visit n visit.parent visit.index (slot_at slots visit.item).row (omega arith) led)))
          (λ ne. let m : k < n = earlier k l ne in subst (P k) (sym (visit_before visits visit k m)) (led_more bins candidates visits visit k (visit_at visits k).parent (visit_at visits k).index (slot_at slots (visit_at visits k).item).row (omega arith) (forest.led k m)))
          (cases_eq k n);
    }

pub extends_same : (visits : List Visit) → Extends visits visits
extends_same visits = record { longer = omega arith; same = λ k l. refl }

pub extends_twice : (a b c : List Visit) → Extends a b → Extends b c → Extends a c
extends_twice a b c p q = record { longer = omega (arith, p.longer, q.longer); same = λ k l. q.same k (omega (arith, p.longer)) ∙ p.same k l }

pub reached_more : (occupants : List (Option ℕ)) (old new : List Visit) (row : ℕ) → Extends old new → IsReached occupants old row → IsReached occupants new row
reached_more occupants old new row grows h =
    (h.0, h.1, (h.2.0, omega (arith, grows.longer, h.2.1), ap (λ (v : Visit). v.item) (grows.same h.2.0 h.2.1) ∙ h.2.2))

-- the visited items, in the order of the visits
visited_items : List Visit → List ℕ
visited_items visits = map (λ v. v.item) visits

item_at : (visits : List Visit) (k d : ℕ) → k < length visits → get_or (visited_items visits) k d ≡ (visit_at visits k).item
unfolding visited_items
item_at visits k d l = get_or-map (λ (v : Visit). v.item) visits k no_visit d l

length-visited_items : (visits : List Visit) → length (visited_items visits) ≡ length visits
unfolding visited_items
length-visited_items visits = length-map visits (λ v. v.item)

visited_apart : (visits : List Visit) (numbers : List ℕ) → ((k : ℕ) → k < length visits → get_or numbers (visit_at visits k).item 0 ≡ k) → IsDistinct nat_eq (visited_items visits)
visited_apart visits numbers numbered =
    IsDistinct-from_apart nat_eq (visited_items visits) (λ i j d l m.
    let n : j < length visits = omega (arith, length-visited_items visits) in
    let o : i < length visits = omega arith in
    false_from_ne_true _ (λ t. let same = visited_once visits numbers numbered i j o n (sym (item_at visits i d o) ∙ (eqb-true _ _ t ∙ item_at visits j d n)) in absurd (omega arith)))

-- there are no more visits than items
pub visits_fit : (bins : ℕ) (candidates : List (List ℕ)) (slots : List Slot) (visits : List Visit) (numbers : List ℕ) → AreTrees bins candidates slots visits numbers → length visits ≤ length slots
visits_fit bins candidates slots visits numbers forest =
    let all : List ℕ = range_with_len 0 (length slots) in
    let few = length-le_from_is_member nat_eq_equiv (visited_items visits) all (visited_apart visits numbers forest.numbered)
    (λ q h. let found = (is_member-Decides unsigned_Decides (visited_items visits) q).0 h in
    let l : found.0 < length visits = omega (arith, length-visited_items visits, found.1) in
    let is : q ≡ (visit_at visits found.0).item = sym found.2 ∙ item_at visits found.0 q l in
    let low : q < length slots = omega (arith, forest.each found.0 l) in
    (is_member-Decides unsigned_Decides all q).1 (q, omega (arith, length-range_with_len 0 (length slots)), get_or-range_with_len 0 (length slots) q q low ∙ omega arith)) in
    omega (arith, few, length-visited_items visits, length-range_with_len 0 (length slots))

-- each of the three candidates names a row
pub names_at : (candidates : List (List ℕ)) (item index : ℕ) → length (get_or candidates item []) ≡ 3 → 1 ≤ index → index < 4 → Names candidates item index (get_or (get_or candidates item []) (index - 1) 0)
names_at candidates item index three low high = (omega arith, omega arith, slice_get-get_or (get_or candidates item []) (index - 1) 0 (omega arith))

-- one more row is reached
pub reached_upto : (bins : ℕ) (occupants : List (Option ℕ)) (old new : List Visit) (end : ℕ) → ((row : ℕ) → bins ≤ row → row < end → IsReached occupants old row) → Extends old new → IsReached occupants new end → (row : ℕ) → bins ≤ row → row < end + 1 → IsReached occupants new row
reached_upto bins occupants old new end before grows here row low high = ⊎_elim
    (λ e. subst (IsReached occupants new) (sym e) here)
    (λ ne. reached_more occupants old new row grows (before row low (omega arith)))
    (cases_eq row end)

-- what holds of the rows of an item's first candidates, and of the next, holds of one more
pub named_upto : (candidates : List (List ℕ)) (item end this : ℕ) (P : ℕ → Type 0) → ((index row : ℕ) → index < end → Names candidates item index row → P row) → Names candidates item end this → P this → (index row : ℕ) → index < end + 1 → Names candidates item index row → P row
named_upto candidates item end this P before is here index row high named = ⊎_elim
    (λ e. subst P (names_once candidates item end this row is (subst (λ (n : ℕ). Names candidates item n row) e named)) here)
    (λ ne. before index row (omega arith) named)
    (cases_eq index end)

-- one more visit has its candidates reached
pub closed_upto : (candidates : List (List ℕ)) (occupants : List (Option ℕ)) (old new : List Visit) (at : ℕ) → ((k : ℕ) → k < at → AllReached candidates occupants old (visit_at old k).item) → at < length old → Extends old new → AllReached candidates occupants new (visit_at old at).item → (k : ℕ) → k < at + 1 → AllReached candidates occupants new (visit_at new k).item
closed_upto candidates occupants old new at before within grows here k l = ⊎_elim
    (λ e. subst (λ (v : Visit). AllReached candidates occupants new v.item) (sym (ap (visit_at new) e ∙ grows.same at within)) here)
    (λ ne. subst (λ (v : Visit). AllReached candidates occupants new v.item) (sym (grows.same k (omega arith))) (λ index row named. reached_more occupants old new row grows (before k (omega arith) index row named)))
    (cases_eq k at)

-- ---- one visit

-- a visit that may be added keeps the forest, and reaches the row where its item stands
module _ (bins : ℕ) (candidates : List (List ℕ)) (slots : List Slot) (occupants : List (Option ℕ)) (old new : Search) (visit : Visit) where
  pub forest_of_visit : AddsVisit old new visit → AreTrees bins candidates slots old.visits.items old.numbers.items → visit.item < length slots → IsLed bins candidates old.visits.items (length old.visits.items) visit.parent visit.index (slot_at slots visit.item).row → AreTrees bins candidates slots new.visits.items new.numbers.items
  forest_of_visit adds forest placed led = ⊎_elim
      (λ known. along new.visits.items new.numbers.items known.1 known.2 forest)
      (λ fresh. along new.visits.items new.numbers.items fresh.1 fresh.2 (forest_after_visit bins candidates slots old.visits.items old.numbers.items visit forest placed fresh.0 led))
      adds
    where
      along : {visits : List Visit} {numbers : List ℕ} (vs : List Visit) (ns : List ℕ) → vs ≡ visits → ns ≡ numbers → AreTrees bins candidates slots visits numbers → AreTrees bins candidates slots vs ns
      along vs ns e f trees = subst (λ (ws : List Visit). AreTrees bins candidates slots ws ns) (sym e) (subst (AreTrees bins candidates slots _) (sym f) trees)

  pub visit_extends : AddsVisit old new visit → Extends old.visits.items new.visits.items
  visit_extends adds = ⊎_elim
      (λ known. subst (Extends old.visits.items) (sym known.1) (extends_same old.visits.items))
      (λ fresh. subst (Extends old.visits.items) (sym fresh.1) (record {
        longer = omega (arith, length_push old.visits.items visit);
        same = λ k l. visit_before old.visits.items visit k l;
      }))
      adds

  pub visit_reaches : AddsVisit old new visit → (row : ℕ) → occupant_at occupants row ≡ Some visit.item → IsReached occupants new.visits.items row
  visit_reaches adds row stands = (
    visit.item,
    stands,
    ⊎_elim
        (λ known. subst (λ (vs : List Visit). IsVisited vs visit.item) (sym known.1) known.0)
        (λ fresh. subst (λ (vs : List Visit). IsVisited vs visit.item) (sym fresh.1) (length old.visits.items, omega (arith, length_push old.visits.items visit), ap (λ (v : Visit). v.item) (visit_last old.visits.items visit)))
        adds,
  )

-- what is read from the rows
pub occupant_read : (occupants : List (Option ℕ)) (row : ℕ) (found : Option ℕ) → found ≡ get_or occupants row found → row < length occupants → occupant_at occupants row ≡ found
occupant_read occupants row found read within = sym (get_or_default occupants row found None within) ∙ sym read

-- what is read from the visits
pub visit_read : (visits : List Visit) (k : ℕ) (visit : Visit) → visit ≡ get_or visits k visit → k < length visits → visit ≡ visit_at visits k
visit_read visits k visit read within = read ∙ get_or_default visits k visit no_visit within

-- what is read from the slots
pub slot_read : (slots : List Slot) (item : ℕ) (slot : Slot) → slot ≡ get_or slots item slot → item < length slots → slot ≡ slot_at slots item
slot_read slots item slot read within = read ∙ get_or_default slots item slot no_slot within

-- what is known where nothing is found says more
pub match_more : {A B : Type 0} {X : Type 0} (P : X → Type 0) (found : Option X) → (A → B) → MatchOption found A P → MatchOption found B P
match_more P None f h = f h
match_more P (Some x) f h = h
