-- Own tags whose marks are carried to their items.
use Rattle.std.proofs.Common.{◌≡◌, ◌+◌, ◌-◌, ◌<◌, ◌≤◌, ℕ, zero, suc, nat_eq, Bool, true, false, Option, List, [], ◌∷◌, length, map, get_or, option_map, Contains, Some, None, refl, sym, ap, subst, inl, inr, ⊎_elim, ◌∙◌, arith}
use Rattle.std.specs.List.{AllZip, slice_get, slice_set}
use Rattle.std.proofs.lemmas.Bool.{cases_eq, eq-eqb, ne_eqb}
use Rattle.std.proofs.lemmas.List.{get_or_default, length-set, map-set}
use Rattle.std.proofs.lemmas.Option.{none-some, same_Some, slice_get-map, slice_get_read, slice_get_within}
use Rattle.psi_spec.specs.Deals.{ReceiverDeal}
use Rattle.psi_spec.specs.Limits.{bins_for, rows_for}
use Rattle.psi_spec.specs.Hits.{list_of_slot}
use Rattle.psi_spec.specs.Placement.{MayHave, Slot, candidates_of}
use Rattle.psi_receiver.specs.Own.{AreCarriable, AreCarried, AreItemsIn, AreOwnTags, AreShownBy, AreUnmarked, AreUnshown, HasOwnTag, IsMarkedList, IsShownAmong, IsShownBy, Marked, marked_of, marks_of, own_tag_of, own_tags_in}
use Rattle.psi_receiver.specs.declared.own.OwnList.{OwnList}
use Rattle.psi_receiver.specs.declared.own.OwnTags.{OwnTags}
use Rattle.psi_receiver.proofs.Marks.{slice_get-set_other, slice_get-set_same}

-- ---- lists and their marks

-- the marks of a list with its number
pub marks_at : (lists : List OwnList) (k : ℕ) (list : OwnList) → k < length lists → list ≡ get_or lists k list
    → slice_get (map marked_of lists) k ≡ Some (marked_of list)
marks_at lists k list l is =
    slice_get-map marked_of lists k ∙ ap (option_map marked_of) (slice_get_read lists (length lists) k list refl l is)

-- the list that has the marks with a number
pub list_of_marks : (lists : List OwnList) (k : ℕ) (m : Marked) → slice_get (map marked_of lists) k ≡ Some m
    → (one : OwnList) × (slice_get lists k ≡ Some one) × (marked_of one ≡ m)
list_of_marks lists k m there = by_case (slice_get lists k) refl (sym (slice_get-map marked_of lists k) ∙ there)
  where
    by_case : (found : Option OwnList) → slice_get lists k ≡ found → option_map marked_of found ≡ Some m
        → (one : OwnList) × (slice_get lists k ≡ Some one) × (marked_of one ≡ m)
    by_case None at is = absurd (none-some m is)
    by_case (Some one) at is = (one, at, same_Some (marked_of one) m is)

-- ---- marks that are carried

module _ (lists : List OwnList) where
  -- the items of the first so many lists are shown by their marks
  abbrev pub AreCarriedBefore : ℕ → List Bool → Type 0
  AreCarriedBefore n shown =
      (list : ℕ) (one : OwnList) (item : ℕ) → list < n → slice_get lists list ≡ Some one → Contains one.items.items item
      → IsShownAmong one.items.items one.hits.items item (get_or shown item false)

  -- and so are those of the next one
  pub one_more_carried : (count n : ℕ) (next : OwnList) (shown shown' : List Bool) → AreCarriable count lists → slice_get lists n ≡ Some next
      → ((item : ℕ) → Contains next.items.items item → IsShownAmong next.items.items next.hits.items item (get_or shown' item false))
      → ((item : ℕ) → (Contains next.items.items item → ⊥) → get_or shown' item false ≡ get_or shown item false)
      → AreCarriedBefore n shown → AreCarriedBefore (n + 1) shown'
  one_more_carried count n next shown shown' carriable at carried kept before list one item l there has = ⊎_elim same other (cases_eq list n)
    where
      same : list ≡ n → IsShownAmong one.items.items one.hits.items item (get_or shown' item false)
      same e =
          let is : next ≡ one = same_Some next one (sym at ∙ ap (slice_get lists) (sym e) ∙ there) in
          subst (λ (o : OwnList). IsShownAmong o.items.items o.hits.items item (get_or shown' item false)) is
          (carried item (subst (λ (o : OwnList). Contains o.items.items item) (sym is) has))

      other : (list ≡ n → ⊥) → IsShownAmong one.items.items one.hits.items item (get_or shown' item false)
      other d =
          subst (IsShownAmong one.items.items one.hits.items item)
          (sym (kept item (λ too. d (carriable.apart list n one next item there at has too))))
          (before list one item (omega (arith, d)) there has)

-- where no own tag is marked, the marks are carried to items of which none is shown
pub no_marks_carried : (lists : List OwnList) (shown : List Bool) → AreUnmarked (map marked_of lists) → AreUnshown shown → AreCarried lists shown
no_marks_carried lists shown none early list one item at has = record {
  place = has.0;
  within = has.1;
  same = get_or_default one.items.items has.0 0 item has.1 ∙ has.2;
  as_marked = early item ∙ sym (none list (marked_of one) (slice_get-map marked_of lists list ∙ ap (option_map marked_of) at) has.0);
}

-- ---- own tags of a deal

module _ (deal : ReceiverDeal) (slots : List Slot) (own : OwnTags) (are : AreOwnTags deal slots own) where
  -- the tag of a slot
  abbrev tag_for : Slot → List ℕ
  tag_for slot = own_tag_of deal (rows_for deal.stash (length slots)) slot

  -- an item of a list has its slot there
  item_has : (list : ℕ) (one : OwnList) (item : ℕ) → slice_get own.lists.items list ≡ Some one → Contains one.items.items item
      → (tag : List ℕ) × HasOwnTag deal slots list item tag
  item_has list one item at has =
      let tag : List ℕ = get_or one.tags.items has.0 [] in (
        tag,
        subst (λ (n : ℕ). HasOwnTag deal slots list n tag) (get_or_default one.items.items has.0 0 item has.1 ∙ has.2)
            ((are.items list one at).each has.0 has.1),
      )

  -- their marks can be carried to the items
  pub own_marks_are_carriable : (count : ℕ) → count ≡ length slots → AreCarriable count own.lists.items
  own_marks_are_carriable count many = record {
    long = λ list one at.
        (are.each list (marked_of one) (slice_get-map marked_of own.lists.items list ∙ ap (option_map marked_of) at)).long
        ∙ sym (are.items list one at).many;
    low = λ list one at place d l.
        let has : HasOwnTag deal slots list (get_or one.items.items place 0) (get_or one.tags.items place []) = (are.items list one at).each place l in
        let inside = slice_get_within slots (get_or one.items.items place 0) has.slot has.at in
        omega (arith, many, inside, get_or_default one.items.items place d 0 l);
    apart = λ list other one two item at there has too.
        let in_one : HasOwnTag deal slots list item _ = (item_has list one item at has).1 in
        let in_two : HasOwnTag deal slots other item _ = (item_has other two item there too).1 in
        let same : in_one.slot ≡ in_two.slot = same_Some in_one.slot in_two.slot (sym in_one.at ∙ in_two.at) in
        sym in_one.listed ∙ (ap (list_of_slot (bins_for (length slots))) same ∙ in_two.listed);
  }

  -- and once they are, the items are shown by them
  pub shown_by_carried : (shown : List Bool) → AreCarried own.lists.items shown → AreShownBy deal slots (marks_of own) shown
  shown_by_carried shown carried i slot m at there =
      let list : ℕ = list_of_slot (bins_for (length slots)) slot in
      let found = list_of_marks own.lists.items list m there in
      let one : OwnList = found.0 in
      let items : AreItemsIn deal slots list one.tags.items one.items.items = are.items list one found.1 in
      let by : IsShownAmong one.items.items one.hits.items i (get_or shown i false) = carried list one i found.1 (items.all i slot at refl) in
      let has : HasOwnTag deal slots list (get_or one.items.items by.place 0) (get_or one.tags.items by.place []) = items.each by.place by.within in
      let same : has.slot ≡ slot = same_Some has.slot slot (sym has.at ∙ ap (slice_get slots) by.same ∙ at) in
      let within = by.within in
      let many = items.many in
      let by_list : IsShownBy (marked_of one) (tag_for slot) (get_or shown i false) = record {
        place = by.place;
        within = omega (arith, within, many);
        same = sym has.tagged ∙ ap tag_for same;
        as_marked = by.as_marked;
      } in
      subst (λ (n : Marked). IsShownBy n (tag_for slot) (get_or shown i false)) found.2 by_list

-- they stay where a list is marked anew
pub own_tags_stay : (deal : ReceiverDeal) (slots : List Slot) (own own' : OwnTags) (l : ℕ) (list list' : OwnList) → AreOwnTags deal slots own
    → own'.lists.items ≡ slice_set own.lists.items l list' → slice_get own.lists.items l ≡ Some list
    → list'.tags.items ≡ list.tags.items → list'.items.items ≡ list.items.items
    → length list'.hits.items ≡ length list.hits.items → AreOwnTags deal slots own'
own_tags_stay deal slots own own' l list list' are lists at tags items hits = record {
  many = ap (λ (xs : List OwnList). length xs) lists ∙ length-set own.lists.items l list' ∙ are.many;
  each = λ k m there. ⊎_elim (same k m there) (other k m there) (cases_eq k l);
  items = λ k one there. ⊎_elim (same_items k one there) (other_items k one there) (cases_eq k l);
}
  where
    marks_are : marks_of own' ≡ slice_set (marks_of own) l (marked_of list')
    marks_are = ap (λ (xs : List OwnList). map marked_of xs) lists ∙ map-set marked_of own.lists.items l list'

    old : slice_get (marks_of own) l ≡ Some (marked_of list)
    old = slice_get-map marked_of own.lists.items l ∙ ap (option_map marked_of) at

    same : (k : ℕ) (m : Marked) → slice_get (marks_of own') k ≡ Some m → k ≡ l → IsMarkedList (own_tags_in deal slots k) m
    same k m there e =
        let is : marked_of list' ≡ m =
        same_Some (marked_of list') m
        (sym (slice_get-set_same (marks_of own) l (marked_of list') (marked_of list) old)
        ∙ ap (λ (ms : List Marked). slice_get ms l) (sym marks_are) ∙ ap (slice_get (marks_of own')) (sym e) ∙ there) in
        let before : IsMarkedList (own_tags_in deal slots l) (marked_of list) = are.each l (marked_of list) old in
        let after : IsMarkedList (own_tags_in deal slots l) (marked_of list') =
        record { tags_are = tags ∙ before.tags_are; long = hits ∙ before.long ∙ ap (λ (ts : List (List ℕ)). length ts) (sym tags) } in
        subst (λ (j : ℕ). IsMarkedList (own_tags_in deal slots j) m) (sym e) (subst (IsMarkedList (own_tags_in deal slots l)) is after)

    other : (k : ℕ) (m : Marked) → slice_get (marks_of own') k ≡ Some m → (k ≡ l → ⊥) → IsMarkedList (own_tags_in deal slots k) m
    other k m there d =
        are.each k m
        (sym (slice_get-set_other (marks_of own) l k (marked_of list') d) ∙ ap (λ (ms : List Marked). slice_get ms k) (sym marks_are) ∙ there)

    same_items : (k : ℕ) (one : OwnList) → slice_get own'.lists.items k ≡ Some one → k ≡ l → AreItemsIn deal slots k one.tags.items one.items.items
    same_items k one there e =
        let is : list' ≡ one =
        same_Some list' one
        (sym (slice_get-set_same own.lists.items l list' list at)
        ∙ ap (λ (xs : List OwnList). slice_get xs l) (sym lists) ∙ ap (slice_get own'.lists.items) (sym e) ∙ there) in
        let after : AreItemsIn deal slots l list'.tags.items list'.items.items =
        subst (λ (ts : List (List ℕ)). AreItemsIn deal slots l ts list'.items.items) (sym tags)
        (subst (AreItemsIn deal slots l list.tags.items) (sym items) (are.items l list at)) in
        subst (λ (j : ℕ). AreItemsIn deal slots j one.tags.items one.items.items) (sym e)
        (subst (λ (o : OwnList). AreItemsIn deal slots l o.tags.items o.items.items) is after)

    other_items : (k : ℕ) (one : OwnList) → slice_get own'.lists.items k ≡ Some one → (k ≡ l → ⊥)
        → AreItemsIn deal slots k one.tags.items one.items.items
    other_items k one there d =
        are.items k one
        (sym (slice_get-set_other own.lists.items l k list' d) ∙ ap (λ (xs : List OwnList). slice_get xs k) (sym lists) ∙ there)

-- ---- lists of slots

-- the slots of a placement have lists
pub slots_have_lists : (stash bins : ℕ) (key : List ℕ) (items : List (List ℕ)) (slots : List Slot)
    → AllZip (MayHave stash bins) (map (candidates_of key bins) items) slots → (i : ℕ) (slot : Slot) → slice_get slots i ≡ Some slot
    → list_of_slot bins slot < 3 + stash
slots_have_lists stash bins key [] [] each i slot at = absurd (none-some slot at)
slots_have_lists stash bins key [] (s ∷ slots) each i slot at = absurd each
slots_have_lists stash bins key (x ∷ items) [] each i slot at = absurd each
slots_have_lists stash bins key (x ∷ items) (s ∷ slots) each zero slot at =
    subst (λ (t : Slot). list_of_slot bins t < 3 + stash) (same_Some s slot at) (has_list each.0)
  where
    has_list : MayHave stash bins (candidates_of key bins x) s → list_of_slot bins s < 3 + stash
    has_list (inl h) =
        let high : s.row < bins + stash = h.2 in
        let low : bins ≤ s.row = h.1 in
        let none : nat_eq s.index 0 ≡ true = eq-eqb s.index 0 h.0 in
        rw none (omega arith)
    has_list (inr h) =
        let positive : 0 < s.index = h.0 in
        let few : s.index - 1 < 3 = slice_get_within (candidates_of key bins x) (s.index - 1) s.row h.1 in
        let some : nat_eq s.index 0 ≡ false = ne_eqb s.index 0 (λ e. omega arith) in
        rw some (omega arith)
slots_have_lists stash bins key (x ∷ items) (s ∷ slots) each (suc i) slot at = slots_have_lists stash bins key items slots each.1 i slot at
