-- Tables and searches as the definition of the picked placement has them.
use Rattle.std.proofs.Common.{◌≡◌, ◌≢◌, ◌+◌, ◌-◌, ◌<◌, ◌≤◌, ◌==◌, ℕ, Bool, true, false, cond, not, is_some, List, [], ◌∷◌, ◌++◌, zero, suc, Some, None, length, map, get_or, set, take, drop, refl, sym, ap, ◌∙◌, subst, arith, ⊎_elim, eq-eqb}
use Rattle.std.specs.Prelude.{IsSome, fold, is_none, option_map, option_and_then}
use Rattle.std.specs.Option.{option_map_or, option_or}
use Rattle.std.specs.List.{list_any, position_from}
use Rattle.std.specs.declared.option.Option.{Option}
use Rattle.std.proofs.lemmas.Bool.{cases_eq, true≢false, eqb-true, false_from_ne_true, ne_eqb}
use Rattle.std.proofs.lemmas.Option.{same_Some, none-some, slice_get-get_or, slice_get_past}
use Rattle.std.proofs.lemmas.List.{length-map, map-set, map_push, get_or_push, get_or_append_left, length_push, drop_all, drop_more, get_or_default, get_or-take, length-take-le, take-append-drop, same_lists}
use Rattle.std.proofs.Math.Seq.{set-append_seam}
use Rattle.std.proofs.lemmas.List.Folds.{list_any_at, Any-from_list_any, fold_stays}
use Rattle.std.proofs.lemmas.List.Sums.{fold_push, fold-append}
use Rattle.psi_spec.specs.Placement.{Slot, stash_slots}
use Rattle.psi_spec.specs.Picking.{Visit as Way, choices_of, first_free, led_to, moved, numbered, occupant, picked, room_for, walk, with_next, with_room, with_visit}
use Rattle.psi_cuckoo.specs.Table.{AreOccupants, Names, occupant_at, slot_at, slot_of}
use Rattle.psi_cuckoo.specs.Search.{AddsVisit, AreTrees, Extends, IsVisited, no_visit, visit_at}
use Rattle.psi_cuckoo.specs.Picks.{choice_at, first_ways, no_way, path_moves, still_waits, waiting_moves, waiting_way, way_at, way_of, ways_of}
use Rattle.psi_cuckoo.specs.declared.slot.Slot.{Slot as RowSlot}
use Rattle.psi_cuckoo.specs.declared.search.Search.{Search}
use Rattle.psi_cuckoo.specs.declared.search.Visit.{Visit}
use Rattle.psi_cuckoo.proofs.Paths.{led_on, row_named}

-- ---- the item in a row

finds : (slots : List RowSlot) (row i c j : ℕ) → i < length slots → (slot_at slots i).row ≡ row → ((k : ℕ) → k < i → (slot_at slots k).row ≢ row) → c + i ≡ j → position_from (λ (slot : Slot). slot.row == row) c (map slot_of slots) ≡ Some j
finds [] row i c j l is none e = absurd (omega arith)
finds (s ∷ ss) row zero c j l is none e =
    let here : (s.row == row) ≡ true = eq-eqb s.row row is in
    let same : c ≡ j = omega arith in
    ap (λ (b : Bool). cond b (Some c) (position_from (λ (slot : Slot). slot.row == row) (c + 1) (map slot_of ss))) here ∙ ap (λ (n : ℕ). Some n) same
finds (s ∷ ss) row (suc i) c j l is none e =
    let other : (s.row == row) ≡ false = ne_eqb s.row row (none 0 (omega arith)) in
    ap (λ (b : Bool). cond b (Some c) (position_from (λ (slot : Slot). slot.row == row) (c + 1) (map slot_of ss))) other
    ∙ finds ss row i (c + 1) j (omega arith) is (λ k m. none (suc k) (omega arith)) (omega arith)

finds_none : (slots : List RowSlot) (row c : ℕ) → ((k : ℕ) → k < length slots → (slot_at slots k).row ≢ row) → position_from (λ (slot : Slot). slot.row == row) c (map slot_of slots) ≡ None
finds_none [] row c none = refl
finds_none (s ∷ ss) row c none =
    let other : (s.row == row) ≡ false = ne_eqb s.row row (none 0 (omega arith)) in
    ap (λ (b : Bool). cond b (Some c) (position_from (λ (slot : Slot). slot.row == row) (c + 1) (map slot_of ss))) other
    ∙ finds_none ss row (c + 1) (λ k m. none (suc k) (omega arith))

-- the item that the slots name for a row is the one that the table has there
pub occupant_is : (slots : List RowSlot) (occupants : List (Option ℕ)) (row : ℕ) → AreOccupants slots occupants → occupant (map slot_of slots) row ≡ occupant_at occupants row
occupant_is slots occupants row h = by_found (occupant_at occupants row) refl
  where
    by_found : (found : Option ℕ) → occupant_at occupants row ≡ found → occupant (map slot_of slots) row ≡ found
    by_found None e = finds_none slots row 0 (λ k l same. none-some k (sym e ∙ (ap (occupant_at occupants) (sym same) ∙ h.held k l)))
    by_found (Some i) e =
        let at = h.holds row i e in
        finds slots row i 0 i at.0 at.1 (λ k l same.
        let one : k ≡ i = same_Some k i (sym (h.held k (omega (arith, at.0))) ∙ (ap (occupant_at occupants) same ∙ e)) in
        absurd (omega arith)) (omega arith)

-- ---- choices

-- what is left of an item's choices
pub numbered_more : (rows : List ℕ) (index : ℕ) → length rows ≡ 3 → 1 ≤ index → index < 4 → numbered index (drop (index - 1) rows) ≡ record { row = get_or rows (index - 1) 0; index = index } ∷ numbered (index + 1) (drop (index + 1 - 1) rows)
numbered_more rows index three low high =
    let next : index - 1 + 1 ≡ index + 1 - 1 = omega arith in
    ap (numbered index) (drop_more rows (index - 1) 0 (omega arith))
    ∙ ap (λ (n : ℕ). record { row = get_or rows (index - 1) 0; index = index } ∷ numbered (index + 1) (drop n rows)) next

pub numbered_all : (rows : List ℕ) (index : ℕ) → length rows ≡ 3 → 4 ≤ index → numbered index (drop (index - 1) rows) ≡ []
numbered_all rows index three end = ap (numbered index) (drop_all (index - 1) rows (omega arith))

-- a choice that is free is the first one
pub first_here : (slots : List Slot) (choice : Slot) (more : List Slot) → occupant slots choice.row ≡ None → first_free slots (choice ∷ more) ≡ Some choice
first_here slots choice more e = ap (λ (o : Option ℕ). cond (is_none o) (Some choice) (first_free slots more)) e

-- a choice that is taken is passed over
pub first_later : (slots : List Slot) (choice : Slot) (more : List Slot) (item : ℕ) → occupant slots choice.row ≡ Some item → first_free slots (choice ∷ more) ≡ first_free slots more
first_later slots choice more item e = ap (λ (o : Option ℕ). cond (is_none o) (Some choice) (first_free slots more)) e

pub first_of_both : (slots : List Slot) (xs ys : List Slot) → first_free slots (xs ++ ys) ≡ option_or (first_free slots xs) (first_free slots ys)
first_of_both slots [] ys = refl
first_of_both slots (x ∷ xs) ys = by_test x (first_free slots (xs ++ ys)) (first_free slots xs) (first_free slots ys) (is_none (occupant slots x.row)) (first_of_both slots xs ys)
  where
    by_test : (x : Slot) (both left right : Option Slot) (b : Bool) → both ≡ option_or left right → cond b (Some x) both ≡ option_or (cond b (Some x) left) right
    by_test x both left right true e = refl
    by_test x both left right false e = e

-- the stash's rows from one on are that one and those behind it
pub stash_more : (row end : ℕ) → row < end → stash_slots row (end - row) ≡ record { row = row; index = 0 } ∷ stash_slots (row + 1) (end - (row + 1))
stash_more row end l = let e : end - row ≡ suc (end - (row + 1)) = omega arith in ap (stash_slots row) e

pub stash_end : (row end : ℕ) → end ≤ row → stash_slots row (end - row) ≡ []
stash_end row end l = let e : end - row ≡ 0 = omega arith in ap (stash_slots row) e

-- ---- the ways of visits

module _ (waiting : ℕ) (slots : List RowSlot) where
  -- the ways so far, and those of further visits
  ways_from : List Way → List Visit → List Way
  ways_from ways visits = fold (λ ways visit. ways ++ way_of waiting slots ways visit ∷ []) ways visits

  length-ways_from : (visits : List Visit) (ways : List Way) → length (ways_from ways visits) ≡ length ways + length visits
  unfolding ways_from
  length-ways_from [] ways = omega arith
  length-ways_from (v ∷ vs) ways = length-ways_from vs (ways ++ way_of waiting slots ways v ∷ []) ∙ omega (arith, length_push ways (way_of waiting slots ways v))

  -- the earlier ways stay
  ways_stay : (visits : List Visit) (ways : List Way) (k : ℕ) → k < length ways → way_at (ways_from ways visits) k ≡ way_at ways k
  unfolding ways_from
  ways_stay [] ways k l = refl
  ways_stay (v ∷ vs) ways k l =
      let way : Way = way_of waiting slots ways v in
      ways_stay vs (ways ++ way ∷ []) k (omega (arith, length_push ways way)) ∙ get_or_append_left ways (way ∷ []) no_way k l

  item_from : (visits : List Visit) (ways : List Way) (j k : ℕ) → j < length visits → length ways + j ≡ k → (way_at (ways_from ways visits) k).item ≡ (visit_at visits j).item
  unfolding ways_from
  item_from [] ways j k l e = absurd (omega arith)
  item_from (v ∷ vs) ways zero k l e =
      let way : Way = way_of waiting slots ways v in
      ap (λ (w : Way). w.item) (ways_stay vs (ways ++ way ∷ []) k (omega (arith, length_push ways way)) ∙ get_or_push ways way no_way k (omega arith))
  item_from (v ∷ vs) ways (suc j) k l e =
      let way : Way = way_of waiting slots ways v in
      item_from vs (ways ++ way ∷ []) j k (omega arith) (omega (arith, length_push ways way))

  same_parent : (a b : List Way) (v : Visit) → (v.index ≢ 0 → way_at a v.parent ≡ way_at b v.parent) → way_of waiting slots a v ≡ way_of waiting slots b v
  same_parent a b v h = ⊎_elim
      (λ e. let t : (v.index == 0) ≡ true = eq-eqb v.index 0 e in rw t refl)
      (λ ne. ap (λ (w : Way). record {
        item = v.item;
        moves = cond (v.index == 0) (waiting_moves (still_waits waiting (length slots - 1) (slot_at slots v.item).row) (slot_at slots v.item).row)
            ((w.item, record { row = (slot_at slots v.item).row; index = v.index }) ∷ w.moves);
      }) (h ne))
      (cases_eq v.index 0)

  way_from : (visits : List Visit) (ways : List Way) (j k : ℕ) → j < length visits → length ways + j ≡ k → ((visit_at visits j).index ≢ 0 → (visit_at visits j).parent < k) → way_at (ways_from ways visits) k ≡ way_of waiting slots (ways_from ways visits) (visit_at visits j)
  unfolding ways_from
  way_from [] ways j k l e before = absurd (omega arith)
  way_from (v ∷ vs) ways zero k l e before =
      let way : Way = way_of waiting slots ways v in
      let all : List Way = ways_from (ways ++ way ∷ []) vs in
      ways_stay vs (ways ++ way ∷ []) k (omega (arith, length_push ways way)) ∙ (get_or_push ways way no_way k (omega arith)
      ∙ same_parent ways all v (λ ne. sym (ways_stay (v ∷ vs) ways v.parent (omega (arith, before ne)))))
  way_from (v ∷ vs) ways (suc j) k l e before =
      let way : Way = way_of waiting slots ways v in
      way_from vs (ways ++ way ∷ []) j k (omega arith) (omega (arith, length_push ways way)) before

  pub length-ways : (visits : List Visit) → length (ways_of waiting slots visits) ≡ length visits
  unfolding ways_from ways_of
  length-ways visits = length-ways_from visits [] ∙ omega arith

  pub item_of_way : (visits : List Visit) (k : ℕ) → k < length visits → (way_at (ways_of waiting slots visits) k).item ≡ (visit_at visits k).item
  unfolding ways_from ways_of
  item_of_way visits k l = item_from visits [] k k l (omega arith)

  pub way_is : (visits : List Visit) (k : ℕ) → k < length visits → ((visit_at visits k).index ≢ 0 → (visit_at visits k).parent < k) → way_at (ways_of waiting slots visits) k ≡ way_of waiting slots (ways_of waiting slots visits) (visit_at visits k)
  unfolding ways_from ways_of
  way_is visits k l before = way_from visits [] k k l (omega arith) before

  pub ways_push : (visits : List Visit) (visit : Visit) → ways_of waiting slots (visits ++ visit ∷ []) ≡ ways_of waiting slots visits ++ way_of waiting slots (ways_of waiting slots visits) visit ∷ []
  unfolding ways_of
  ways_push visits visit = fold_push (λ (ways : List Way) (visit : Visit). ways ++ way_of waiting slots ways visit ∷ []) [] visits visit

  pub ways_none : ways_of waiting slots [] ≡ []
  unfolding ways_of
  ways_none = refl

  -- the ways of the first visits stay
  pub ways_kept : (old new : List Visit) (k : ℕ) → Extends old new → k < length old → way_at (ways_of waiting slots new) k ≡ way_at (ways_of waiting slots old) k
  unfolding ways_from ways_of
  ways_kept old new k grows l =
      let front : take (length old) new ≡ old = same_lists (take (length old) new) old (length-take-le (length old) new grows.longer) (λ i d m.
      let n : i < length old = omega (arith, length-take-le (length old) new grows.longer) in
      let o : i < length new = omega (arith, grows.longer) in
      get_or-take (length old) new i d n ∙ (get_or_default new i d no_visit o ∙ (grows.same i n ∙ get_or_default old i no_visit d n))) in
      let parts : new ≡ old ++ drop (length old) new = sym (take-append-drop (length old) new) ∙ ap (λ (vs : List Visit). vs ++ drop (length old) new) front in
      let two : ways_of waiting slots new ≡ ways_from (ways_of waiting slots old) (drop (length old) new) = ap (ways_of waiting slots) parts ∙ fold-append (λ (ways : List Way) (visit : Visit). ways ++ way_of waiting slots ways visit ∷ []) [] old (drop (length old) new) in
      ap (λ (ws : List Way). way_at ws k) two ∙ ways_stay (drop (length old) new) (ways_of waiting slots old) k (omega (arith, length-ways old))

  visited_true : (visits : List Visit) (item : ℕ) → IsVisited visits item → list_any (λ (w : Way). w.item == item) (ways_of waiting slots visits) ≡ true
  visited_true visits item h =
      list_any_at (λ (w : Way). w.item == item) (ways_of waiting slots visits) h.0 no_way (omega (arith, length-ways visits, h.1))
      (eq-eqb (way_at (ways_of waiting slots visits) h.0).item item (item_of_way visits h.0 h.1 ∙ h.2))

  visited_false : (visits : List Visit) (item : ℕ) → (IsVisited visits item → ⊥) → list_any (λ (w : Way). w.item == item) (ways_of waiting slots visits) ≡ false
  visited_false visits item unvisited = false_from_ne_true _ (λ t.
      let any = Any-from_list_any (λ (w : Way). w.item == item) (ways_of waiting slots visits) t in
      let l : any.0 < length visits = omega (arith, length-ways visits, any.2) in
      let o : any.0 < length (ways_of waiting slots visits) = any.2 in
      let at : way_at (ways_of waiting slots visits) any.0 ≡ any.1 = get_or_default (ways_of waiting slots visits) any.0 no_way any.1 o ∙ any.3 in
      let is : (visit_at visits any.0).item ≡ item = sym (item_of_way visits any.0 l) ∙ (ap (λ (w : Way). w.item) at ∙ eqb-true _ _ any.4) in
      unvisited (any.0, l, is))

  -- a visit that is added where its item has none
  pub ways_added : (old new : Search) (visit : Visit) → AddsVisit old new visit → ways_of waiting slots new.visits.items ≡ with_visit (ways_of waiting slots old.visits.items) (way_of waiting slots (ways_of waiting slots old.visits.items) visit)
  ways_added old new visit adds =
      let ways : List Way = ways_of waiting slots old.visits.items in
      let way : Way = way_of waiting slots ways visit in
      ⊎_elim
      (λ known. ap (ways_of waiting slots) known.1 ∙ sym (ap (λ (b : Bool). cond b ways (ways ++ way ∷ [])) (visited_true old.visits.items visit.item known.0)))
      (λ fresh. ap (ways_of waiting slots) fresh.1 ∙ (ways_push old.visits.items visit ∙ sym (ap (λ (b : Bool). cond b ways (ways ++ way ∷ [])) (visited_false old.visits.items visit.item fresh.0))))
      adds

-- ---- steps of the code's loops

module _ (candidates : List (List ℕ)) (slots : List RowSlot) (occupants : List (Option ℕ)) (item index row : ℕ) (standing : AreOccupants slots occupants) (three : length (get_or candidates item []) ≡ 3) (named : Names candidates item index row) where
  -- an item's choices from this index on
  choices_left : numbered index (drop (index - 1) (get_or candidates item [])) ≡ record { row = row; index = index } ∷ numbered (index + 1) (drop (index + 1 - 1) (get_or candidates item []))
  choices_left =
      let rest : List Slot = numbered (index + 1) (drop (index + 1 - 1) (get_or candidates item [])) in
      numbered_more (get_or candidates item []) index three named.0 (omega (arith, named.1))
      ∙ ap (λ (n : ℕ). record { row = n; index = index } ∷ rest) (row_named candidates item index row named)

  pub choice_free : occupant_at occupants row ≡ None → first_free (map slot_of slots) (numbered index (drop (index - 1) (get_or candidates item []))) ≡ Some (record { row = row; index = index })
  choice_free e =
      ap (first_free (map slot_of slots)) choices_left
      ∙ first_here (map slot_of slots) (record { row = row; index = index }) (numbered (index + 1) (drop (index + 1 - 1) (get_or candidates item []))) (occupant_is slots occupants row standing ∙ e)

  pub choice_taken : (other : ℕ) → occupant_at occupants row ≡ Some other → first_free (map slot_of slots) (numbered index (drop (index - 1) (get_or candidates item []))) ≡ first_free (map slot_of slots) (numbered (index + 1) (drop (index + 1 - 1) (get_or candidates item [])))
  choice_taken other e =
      ap (first_free (map slot_of slots)) choices_left
      ∙ first_later (map slot_of slots) (record { row = row; index = index }) (numbered (index + 1) (drop (index + 1 - 1) (get_or candidates item []))) other (occupant_is slots occupants row standing ∙ e)

  pub choice_led : (way : Way) (ways : List Way) (other : ℕ) → occupant_at occupants row ≡ Some other → fold (led_to (map slot_of slots) way) ways (numbered index (drop (index - 1) (get_or candidates item []))) ≡ fold (led_to (map slot_of slots) way) (with_visit ways (record { item = other; moves = (way.item, record { row = row; index = index }) ∷ way.moves })) (numbered (index + 1) (drop (index + 1 - 1) (get_or candidates item [])))
  choice_led way ways other e =
      let rest : List Slot = numbered (index + 1) (drop (index + 1 - 1) (get_or candidates item [])) in
      let choice : Slot = record { row = row; index = index } in
      ap (fold (led_to (map slot_of slots) way) ways) choices_left
      ∙ ap (λ (o : Option ℕ). fold (led_to (map slot_of slots) way) (option_map_or (λ (item : ℕ). with_visit ways (record { item = item; moves = (way.item, choice) ∷ way.moves })) o ways) rest) (occupant_is slots occupants row standing ∙ e)

-- the rows of the stash from this one on
module _ (slots : List RowSlot) (occupants : List (Option ℕ)) (row end : ℕ) (standing : AreOccupants slots occupants) where
  pub stash_free : row < end → occupant_at occupants row ≡ None → first_free (map slot_of slots) (stash_slots row (end - row)) ≡ Some (record { row = row; index = 0 })
  stash_free l e =
      ap (first_free (map slot_of slots)) (stash_more row end l)
      ∙ first_here (map slot_of slots) (record { row = row; index = 0 }) (stash_slots (row + 1) (end - (row + 1))) (occupant_is slots occupants row standing ∙ e)

  pub stash_taken : (other : ℕ) → row < end → occupant_at occupants row ≡ Some other → first_free (map slot_of slots) (stash_slots row (end - row)) ≡ first_free (map slot_of slots) (stash_slots (row + 1) (end - (row + 1)))
  stash_taken other l e =
      ap (first_free (map slot_of slots)) (stash_more row end l)
      ∙ first_later (map slot_of slots) (record { row = row; index = 0 }) (stash_slots (row + 1) (end - (row + 1))) other (occupant_is slots occupants row standing ∙ e)

  pub stash_led : (way : Way) (ways : List Way) (other : ℕ) → row < end → occupant_at occupants row ≡ Some other → fold (led_to (map slot_of slots) way) ways (stash_slots row (end - row)) ≡ fold (led_to (map slot_of slots) way) (with_visit ways (record { item = other; moves = (way.item, record { row = row; index = 0 }) ∷ way.moves })) (stash_slots (row + 1) (end - (row + 1)))
  stash_led way ways other l e =
      let rest : List Slot = stash_slots (row + 1) (end - (row + 1)) in
      let choice : Slot = record { row = row; index = 0 } in
      ap (fold (led_to (map slot_of slots) way) ways) (stash_more row end l)
      ∙ ap (λ (o : Option ℕ). fold (led_to (map slot_of slots) way) (option_map_or (λ (item : ℕ). with_visit ways (record { item = item; moves = (way.item, choice) ∷ way.moves })) o ways) rest) (occupant_is slots occupants row standing ∙ e)

-- what a test for no item says
pub none_when : (found : Option ℕ) (b : Bool) → is_some found ≡ not b → b ≡ true → found ≡ None
none_when None b e t = refl
none_when (Some x) b e t = absurd (true≢false (e ∙ ap not t))

pub some_when : (found : Option ℕ) (b : Bool) → is_some found ≡ not b → b ≡ false → (x : ℕ) × (found ≡ Some x)
some_when None b e t = absurd (true≢false (sym (e ∙ ap not t)))
some_when (Some x) b e t = (x, refl)

pub some_is : (found : Option ℕ) (x : ℕ) → found ≡ Some x → IsSome found
some_is found x e = ap is_some e

-- an item has three choices
pub no_choice : (candidates : List (List ℕ)) (slots : List RowSlot) (item index : ℕ) → length (get_or candidates item []) ≡ 3 → 4 ≤ index → first_free (map slot_of slots) (numbered index (drop (index - 1) (get_or candidates item []))) ≡ None
no_choice candidates slots item index three end = ap (first_free (map slot_of slots)) (numbered_all (get_or candidates item []) index three end)

-- ---- visits

module _ (waiting : ℕ) (slots : List RowSlot) where
  -- the way of an item in a row of the stash
  pub way_behind : (ways : List Way) (item row : ℕ) → (slot_at slots item).row ≡ row → row ≢ waiting → way_of waiting slots ways (record { item = item; parent = 0; index = 0 }) ≡ record { item = item; moves = (length slots - 1, record { row = row; index = 0 }) ∷ [] }
  way_behind ways item row e ne =
      ap (λ (r : ℕ). record { item = item; moves = waiting_moves (still_waits waiting (length slots - 1) r) r }) e
      ∙ ap (λ (b : Bool). record { item = item; moves = waiting_moves (cond b None (Some (length slots - 1))) row }) (ne_eqb row waiting ne)

  -- the way of the item that waits
  pub way_waiting : (ways : List Way) (item : ℕ) → (slot_at slots item).row ≡ waiting → item ≡ length slots - 1 → way_of waiting slots ways (record { item = item; parent = 0; index = 0 }) ≡ record { item = length slots - 1; moves = [] }
  way_waiting ways item e f =
      ap (λ (r : ℕ). record { item = item; moves = waiting_moves (still_waits waiting (length slots - 1) r) r }) e
      ∙ (ap (λ (b : Bool). record { item = item; moves = waiting_moves (cond b None (Some (length slots - 1))) waiting }) (eq-eqb waiting waiting refl)
      ∙ ap (λ (i : ℕ). record { item = i; moves = [] }) f)

  -- the way of an item in a bin
  pub way_through : (ways : List Way) (item at index row : ℕ) (way : Way) → index ≢ 0 → (slot_at slots item).row ≡ row → way_at ways at ≡ way → way_of waiting slots ways (record { item = item; parent = at; index = index }) ≡ record { item = item; moves = (way.item, record { row = row; index = index }) ∷ way.moves }
  way_through ways item at index row way ne e f =
      ap (λ (b : Bool). record { item = item; moves = cond b (waiting_moves (still_waits waiting (length slots - 1) (slot_at slots item).row) (slot_at slots item).row) (((way_at ways at).item, record { row = (slot_at slots item).row; index = index }) ∷ (way_at ways at).moves) }) (ne_eqb index 0 ne)
      ∙ (ap (λ (r : ℕ). record { item = item; moves = ((way_at ways at).item, record { row = r; index = index }) ∷ (way_at ways at).moves }) e
      ∙ ap (λ (w : Way). record { item = item; moves = (w.item, record { row = row; index = index }) ∷ w.moves }) f)

  -- one more row of the stash
  pub stash_step : (occupants : List (Option ℕ)) (old new : Search) (item row : ℕ) → AreOccupants slots occupants → AddsVisit old new (record { item = item; parent = 0; index = 0 }) → occupant_at occupants row ≡ Some item → row < waiting → fold (led_to (map slot_of slots) (waiting_way slots)) (ways_of waiting slots old.visits.items) (stash_slots row (waiting - row)) ≡ fold (led_to (map slot_of slots) (waiting_way slots)) (ways_of waiting slots new.visits.items) (stash_slots (row + 1) (waiting - (row + 1)))
  stash_step occupants old new item row standing adds stands l =
      let ways : List Way = ways_of waiting slots old.visits.items in
      let rest : List Slot = stash_slots (row + 1) (waiting - (row + 1)) in
      stash_led slots occupants row waiting standing (waiting_way slots) ways item l stands
      ∙ sym (ap (λ (ws : List Way). fold (led_to (map slot_of slots) (waiting_way slots)) ws rest)
      (ways_added waiting slots old new (record { item = item; parent = 0; index = 0 }) adds
      ∙ ap (with_visit ways) (way_behind ways item row (standing.holds row item stands).1 (λ e. absurd (omega arith)))))

  -- a search that begins with the item that waits
  pub ways_begin : (old new : Search) (item : ℕ) → old.visits.items ≡ [] → (slot_at slots item).row ≡ waiting → item ≡ length slots - 1 → AddsVisit old new (record { item = item; parent = 0; index = 0 }) → ways_of waiting slots new.visits.items ≡ waiting_way slots ∷ []
  ways_begin old new item none e f adds =
      let ways : List Way = ways_of waiting slots old.visits.items in
      ways_added waiting slots old new (record { item = item; parent = 0; index = 0 }) adds
      ∙ (ap (with_visit ways) (way_waiting ways item e f)
      ∙ ap (λ (ws : List Way). with_visit ws (waiting_way slots)) (ap (ways_of waiting slots) none ∙ ways_none waiting slots))

  -- one more candidate
  pub candidate_step : (candidates : List (List ℕ)) (occupants : List (Option ℕ)) (first : List Visit) (told : List Way) (old new : Search) (parent item at index row : ℕ) → AreOccupants slots occupants → length (get_or candidates parent []) ≡ 3 → Names candidates parent index row → (visit_at first at).item ≡ parent → at < length first → Extends first old.visits.items → AddsVisit old new (record { item = item; parent = at; index = index }) → occupant_at occupants row ≡ Some item
      → told ≡ fold (led_to (map slot_of slots) (way_at (ways_of waiting slots first) at)) (ways_of waiting slots old.visits.items) (numbered index (drop (index - 1) (get_or candidates parent [])))
      → told ≡ fold (led_to (map slot_of slots) (way_at (ways_of waiting slots first) at)) (ways_of waiting slots new.visits.items) (numbered (index + 1) (drop (index + 1 - 1) (get_or candidates parent [])))
  candidate_step candidates occupants first told old new parent item at index row standing three named is within grows adds stands so_far =
      let ways : List Way = ways_of waiting slots old.visits.items in
      let way : Way = way_at (ways_of waiting slots first) at in
      let rest : List Slot = numbered (index + 1) (drop (index + 1 - 1) (get_or candidates parent [])) in
      let low : 0 < index = named.0 in
      so_far
      ∙ (choice_led candidates slots occupants parent index row standing three named way ways item stands
      ∙ sym (ap (λ (ws : List Way). fold (led_to (map slot_of slots) way) ws rest)
      (ways_added waiting slots old new (record { item = item; parent = at; index = index }) adds
      ∙ ap (with_visit ways) (way_through ways item at index row way (λ e. absurd (omega arith)) (standing.holds row item stands).1 (ways_kept waiting slots first old.visits.items at grows within)))))

-- ---- the walk

-- what a walk gives at its next visit
pub walk_next : (fuel more : ℕ) (candidates : List (List ℕ)) (slots : List Slot) (at : ℕ) (ways : List Way) → fuel ≡ suc more → at < length ways → walk fuel candidates slots at ways ≡ option_or (option_map (λ (free : Slot). ((way_at ways at).item, free) ∷ (way_at ways at).moves) (first_free slots (choices_of candidates (way_at ways at).item))) (walk more candidates slots (at + 1) (fold (led_to slots (way_at ways at)) ways (choices_of candidates (way_at ways at).item)))
unfolding walk
walk_next fuel more candidates slots at ways e l =
    ap (λ (n : ℕ). walk n candidates slots at ways) e
    ∙ ap (option_and_then (λ (visit : Way). option_or (option_map (λ (free : Slot). (visit.item, free) ∷ visit.moves) (first_free slots (choices_of candidates visit.item))) (walk more candidates slots (at + 1) (fold (led_to slots visit) ways (choices_of candidates visit.item))))) (slice_get-get_or ways at no_way l)

-- a walk past all visits has found nothing
walk_past : (fuel : ℕ) (candidates : List (List ℕ)) (slots : List Slot) (at : ℕ) (ways : List Way) → length ways ≤ at → walk fuel candidates slots at ways ≡ None
unfolding walk
walk_past zero candidates slots at ways l = refl
walk_past (suc more) candidates slots at ways l =
    ap (option_and_then (λ (visit : Way). option_or (option_map (λ (free : Slot). (visit.item, free) ∷ visit.moves) (first_free slots (choices_of candidates visit.item))) (walk more candidates slots (at + 1) (fold (led_to slots visit) ways (choices_of candidates visit.item))))) (slice_get_past ways at l)

-- the same of what was known so far
pub walk_ends : (told : Option (List (ℕ × Slot))) (fuel : ℕ) (candidates : List (List ℕ)) (slots : List Slot) (at : ℕ) (ways : List Way) → told ≡ walk fuel candidates slots at ways → length ways ≤ at → told ≡ None
walk_ends told fuel candidates slots at ways so_far l = so_far ∙ walk_past fuel candidates slots at ways l

module _ (waiting : ℕ) (candidates : List (List ℕ)) (slots : List RowSlot) (visits : List Visit) (at : ℕ) (within : at < length visits) (few : length visits ≤ length slots) where
  at_visit : walk (length slots - at) candidates (map slot_of slots) at (ways_of waiting slots visits) ≡ option_or (option_map (λ (free : Slot). ((way_at (ways_of waiting slots visits) at).item, free) ∷ (way_at (ways_of waiting slots visits) at).moves) (first_free (map slot_of slots) (choices_of candidates (visit_at visits at).item))) (walk (length slots - (at + 1)) candidates (map slot_of slots) (at + 1) (fold (led_to (map slot_of slots) (way_at (ways_of waiting slots visits) at)) (ways_of waiting slots visits) (choices_of candidates (visit_at visits at).item)))
  at_visit =
      let ways : List Way = ways_of waiting slots visits in
      let fuel : length slots - at ≡ suc (length slots - (at + 1)) = omega arith in
      walk_next (length slots - at) (length slots - (at + 1)) candidates (map slot_of slots) at ways fuel (omega (arith, length-ways waiting slots visits))
      ∙ ap (λ (item : ℕ). option_or (option_map (λ (free : Slot). ((way_at ways at).item, free) ∷ (way_at ways at).moves) (first_free (map slot_of slots) (choices_of candidates item))) (walk (length slots - (at + 1)) candidates (map slot_of slots) (at + 1) (fold (led_to (map slot_of slots) (way_at ways at)) ways (choices_of candidates item)))) (item_of_way waiting slots visits at within)

  -- the walk goes on where no candidate of the visit's item is free
  pub walk_on : first_free (map slot_of slots) (choices_of candidates (visit_at visits at).item) ≡ None → walk (length slots - at) candidates (map slot_of slots) at (ways_of waiting slots visits) ≡ walk (length slots - (at + 1)) candidates (map slot_of slots) (at + 1) (fold (led_to (map slot_of slots) (way_at (ways_of waiting slots visits) at)) (ways_of waiting slots visits) (choices_of candidates (visit_at visits at).item))
  walk_on e =
      let ways : List Way = ways_of waiting slots visits in
      let more : Option (List (ℕ × Slot)) = walk (length slots - (at + 1)) candidates (map slot_of slots) (at + 1) (fold (led_to (map slot_of slots) (way_at ways at)) ways (choices_of candidates (visit_at visits at).item)) in
      at_visit ∙ ap (λ (o : Option Slot). option_or (option_map (λ (free : Slot). ((way_at ways at).item, free) ∷ (way_at ways at).moves) o) more) e

pub no_led : (candidates : List (List ℕ)) (slots : List Slot) (way : Way) (told ways : List Way) (item index : ℕ) → length (get_or candidates item []) ≡ 3 → 4 ≤ index → told ≡ fold (led_to slots way) ways (numbered index (drop (index - 1) (get_or candidates item []))) → ways ≡ told
no_led candidates slots way told ways item index three end so_far = sym (so_far ∙ ap (fold (led_to slots way) ways) (numbered_all (get_or candidates item []) index three end))

-- ---- moves

pub still_none : (waiting item row : ℕ) → row ≡ waiting → still_waits waiting item row ≡ None
still_none waiting item row e = ap (λ (b : Bool). cond b None (Some item)) (eq-eqb row waiting e)

pub still_some : (waiting item row : ℕ) → row ≢ waiting → still_waits waiting item row ≡ Some item
still_some waiting item row ne = ap (λ (b : Bool). cond b None (Some item)) (ne_eqb row waiting ne)

-- the slots after an item went to a candidate
pub seats_after : (slots new_slots : List RowSlot) (candidates : List (List ℕ)) (item index row : ℕ) → Names candidates item index row → new_slots ≡ set slots item (record { row = row; index = index }) → map slot_of new_slots ≡ set (map slot_of slots) item (choice_at candidates item index)
seats_after slots new_slots candidates item index row named e =
    ap (map slot_of) e
    ∙ (map-set slot_of slots item (record { row = row; index = index })
    ∙ ap (λ (n : ℕ). set (map slot_of slots) item (record { row = n; index = index })) (sym (row_named candidates item index row named)))

module _ (waiting : ℕ) (slots : List RowSlot) (visit : Visit) where
  -- the moves of a visit to an item in a bin begin with its parent's
  moves_through : (candidates : List (List ℕ)) (ways : List Way) (parent : ℕ) → visit.index ≢ 0 → (way_at ways visit.parent).item ≡ parent → Names candidates parent visit.index (slot_at slots visit.item).row → (way_of waiting slots ways visit).moves ≡ path_moves candidates ways visit.parent visit.index
  moves_through candidates ways parent ne e named =
      ap (λ (b : Bool). cond b (waiting_moves (still_waits waiting (length slots - 1) (slot_at slots visit.item).row) (slot_at slots visit.item).row) (((way_at ways visit.parent).item, record { row = (slot_at slots visit.item).row; index = visit.index }) ∷ (way_at ways visit.parent).moves)) (ne_eqb visit.index 0 ne)
      ∙ ap (λ (r : ℕ). ((way_at ways visit.parent).item, record { row = r; index = visit.index }) ∷ (way_at ways visit.parent).moves)
      (sym (row_named candidates parent visit.index (slot_at slots visit.item).row named) ∙ ap (λ (i : ℕ). get_or (get_or candidates i []) (visit.index - 1) 0) (sym e))

pub path_next : (waiting bins : ℕ) (slots : List RowSlot) (candidates : List (List ℕ)) (visits : List Visit) (numbers : List ℕ) (at index : ℕ) (visit : Visit) → AreTrees bins candidates slots visits numbers → at < length visits → visit ≡ visit_at visits at → visit.index ≢ 0
    → path_moves candidates (ways_of waiting slots visits) at index ≡ (visit.item, choice_at candidates visit.item index) ∷ path_moves candidates (ways_of waiting slots visits) visit.parent visit.index
path_next waiting bins slots candidates visits numbers at index visit forest within is ne =
    let ways : List Way = ways_of waiting slots visits in
    let led = λ (ne : (visit_at visits at).index ≢ 0). led_on bins candidates visits at (visit_at visits at).parent (visit_at visits at).index (slot_at slots (visit_at visits at).item).row (forest.led at within) ne in
    let way : way_at ways at ≡ way_of waiting slots ways visit = way_is waiting slots visits at within (λ ne. (led ne).0) ∙ ap (way_of waiting slots ways) (sym is) in
    let further = subst (λ (v : Visit). (v.index ≢ 0) → (v.parent < at) × Names candidates (visit_at visits v.parent).item v.index (slot_at slots v.item).row) (sym is) led ne in
    let parent = item_of_way waiting slots visits visit.parent (omega (arith, further.0)) in
    ap (λ (w : Way). (w.item, choice_at candidates w.item index) ∷ w.moves) way
    ∙ ap (λ (moves : List (ℕ × Slot)). (visit.item, choice_at candidates visit.item index) ∷ moves) (moves_through waiting slots visit candidates ways (visit_at visits visit.parent).item ne parent further.1)

pub path_end : (waiting : ℕ) (slots : List RowSlot) (candidates : List (List ℕ)) (visits : List Visit) (at index : ℕ) (visit : Visit) → at < length visits → visit ≡ visit_at visits at → visit.index ≡ 0
    → path_moves candidates (ways_of waiting slots visits) at index ≡ (visit.item, choice_at candidates visit.item index) ∷ waiting_moves (still_waits waiting (length slots - 1) (slot_at slots visit.item).row) (slot_at slots visit.item).row
path_end waiting slots candidates visits at index visit within is root =
    let ways : List Way = ways_of waiting slots visits in
    let way : way_at ways at ≡ way_of waiting slots ways visit = way_is waiting slots visits at within (λ ne. absurd (ne (ap (λ (v : Visit). v.index) (sym is) ∙ root))) ∙ ap (way_of waiting slots ways) (sym is) in
    ap (λ (w : Way). (w.item, choice_at candidates w.item index) ∷ w.moves) way
    ∙ ap (λ (b : Bool). (visit.item, choice_at candidates visit.item index) ∷ cond b (waiting_moves (still_waits waiting (length slots - 1) (slot_at slots visit.item).row) (slot_at slots visit.item).row) (((way_at ways visit.parent).item, record { row = (slot_at slots visit.item).row; index = visit.index }) ∷ (way_at ways visit.parent).moves)) (eq-eqb visit.index 0 root)

-- ---- one more item

module _ (stash bins : ℕ) (candidates : List (List ℕ)) (slots : List RowSlot) where
  alone : Option (List (ℕ × Slot))
  alone = walk (length slots) candidates (map slot_of slots) 0 (waiting_way slots ∷ [])

  aside : Option (List (ℕ × Slot))
  aside = option_map (λ (free : Slot). (length slots - 1, free) ∷ []) (first_free (map slot_of slots) (stash_slots bins stash))

  from_all : Option (List (ℕ × Slot))
  from_all = walk (length slots) candidates (map slot_of slots) 0 (first_ways stash bins (map slot_of slots) (waiting_way slots))

  room_is : with_room stash bins candidates (map slot_of slots) (waiting_way slots) ≡ option_map (moved (map slot_of slots)) (option_or alone (option_or aside from_all))
  unfolding room_for alone aside from_all
  room_is = ap (λ (n : ℕ). option_map (moved (map slot_of slots)) (option_or (walk n candidates (map slot_of slots) 0 (waiting_way slots ∷ [])) (option_or aside (walk n candidates (map slot_of slots) 0 (first_ways stash bins (map slot_of slots) (waiting_way slots)))))) (length-map slots slot_of)

  -- a path from the item that waits
  pub room_alone : (moves : List (ℕ × Slot)) → walk (length slots) candidates (map slot_of slots) 0 (waiting_way slots ∷ []) ≡ Some moves → with_room stash bins candidates (map slot_of slots) (waiting_way slots) ≡ Some (moved (map slot_of slots) moves)
  unfolding alone
  room_alone moves e = room_is ∙ ap (λ (o : Option (List (ℕ × Slot))). option_map (moved (map slot_of slots)) (option_or o (option_or aside from_all))) e

  -- or else the first free row of the stash
  pub room_aside : (free : Slot) → walk (length slots) candidates (map slot_of slots) 0 (waiting_way slots ∷ []) ≡ None → first_free (map slot_of slots) (stash_slots bins stash) ≡ Some free → with_room stash bins candidates (map slot_of slots) (waiting_way slots) ≡ Some (moved (map slot_of slots) ((length slots - 1, free) ∷ []))
  unfolding alone aside
  room_aside free e f =
      room_is
      ∙ (ap (λ (o : Option (List (ℕ × Slot))). option_map (moved (map slot_of slots)) (option_or o (option_or aside from_all))) e
      ∙ ap (λ (o : Option Slot). option_map (moved (map slot_of slots)) (option_or (option_map (λ (free : Slot). (length slots - 1, free) ∷ []) o) from_all)) f)

  -- or else a path from all items behind the bins
  pub room_from_all : walk (length slots) candidates (map slot_of slots) 0 (waiting_way slots ∷ []) ≡ None → first_free (map slot_of slots) (stash_slots bins stash) ≡ None → with_room stash bins candidates (map slot_of slots) (waiting_way slots) ≡ option_map (moved (map slot_of slots)) (walk (length slots) candidates (map slot_of slots) 0 (first_ways stash bins (map slot_of slots) (waiting_way slots)))
  unfolding alone aside from_all
  room_from_all e f =
      room_is
      ∙ (ap (λ (o : Option (List (ℕ × Slot))). option_map (moved (map slot_of slots)) (option_or o (option_or aside from_all))) e
      ∙ ap (λ (o : Option Slot). option_map (moved (map slot_of slots)) (option_or (option_map (λ (free : Slot). (length slots - 1, free) ∷ []) o) from_all)) f)

-- the row of an item that is added is that of no other row's choice
occupant_before : (slots : List Slot) (last : Slot) (row c : ℕ) → last.row ≢ row → position_from (λ (slot : Slot). slot.row == row) c (slots ++ last ∷ []) ≡ position_from (λ (slot : Slot). slot.row == row) c slots
occupant_before [] last row c ne = ap (λ (b : Bool). cond b (Some c) None) (ne_eqb last.row row ne)
occupant_before (s ∷ ss) last row c ne = ap (λ (o : Option ℕ). cond (s.row == row) (Some c) o) (occupant_before ss last row (c + 1) ne)

free_before : (slots : List Slot) (last : Slot) (rows : List ℕ) (index : ℕ) → ((k : ℕ) → k < length rows → last.row ≢ get_or rows k 0) → first_free (slots ++ last ∷ []) (numbered index rows) ≡ first_free slots (numbered index rows)
free_before slots last [] index ne = refl
free_before slots last (row ∷ rows) index ne =
    let choice : Slot = record { row = row; index = index } in
    ap (λ (o : Option ℕ). cond (is_none o) (Some choice) (first_free (slots ++ last ∷ []) (numbered (index + 1) rows))) (occupant_before slots last row 0 (ne 0 (omega arith)))
    ∙ ap (λ (o : Option Slot). cond (is_none (occupant slots row)) (Some choice) o) (free_before slots last rows (index + 1) (λ k l. ne (suc k) (omega arith)))

module _ (stash bins : ℕ) (candidates : List (List ℕ)) (slots : List RowSlot) where
  last_slot : RowSlot
  last_slot = record { row = bins + stash; index = 0 }

  -- the next item waits until moves seat it
  pub next_is : (new_slots : List RowSlot) → new_slots ≡ slots ++ record { row = bins + stash; index = 0 } ∷ [] → with_next stash bins candidates (map slot_of slots) ≡ with_room stash bins candidates (map slot_of new_slots) (waiting_way new_slots)
  unfolding with_next last_slot
  next_is new_slots e =
      let last : length slots ≡ length new_slots - 1 = omega (arith, ap length e, length_push slots last_slot) in
      let grown : map slot_of slots ++ record { row = bins + stash; index = 0 } ∷ [] ≡ map slot_of new_slots = sym (ap (map slot_of) e ∙ map_push slot_of slots last_slot) in
      ap (λ (ss : List Slot). with_room stash bins candidates ss (record { item = length (map slot_of slots); moves = [] })) grown
      ∙ ap (λ (n : ℕ). with_room stash bins candidates (map slot_of new_slots) (record { item = n; moves = [] })) (length-map slots slot_of ∙ last)

  -- the next item has its first free candidate
  pub next_in_bin : (slot : RowSlot) (new_slots : List RowSlot) → ((k : ℕ) → k < length (get_or candidates (length slots) []) → get_or (get_or candidates (length slots) []) k 0 < bins) → first_free (map slot_of slots) (choices_of candidates (length slots)) ≡ Some (slot_of slot) → new_slots ≡ slots ++ slot ∷ [] → with_next stash bins candidates (map slot_of slots) ≡ Some (map slot_of new_slots)
  unfolding last_slot
  next_in_bin slot new_slots low e f =
      let waits : List RowSlot = slots ++ last_slot ∷ [] in
      let item : length slots ≡ length waits - 1 = omega (arith, length_push slots last_slot) in
      let rows : List ℕ = get_or candidates (length slots) [] in
      let free : first_free (map slot_of waits) (choices_of candidates (length waits - 1)) ≡ Some (slot_of slot) =
      ap (λ (n : ℕ). first_free (map slot_of waits) (choices_of candidates n)) (sym item)
      ∙ (ap (λ (ss : List Slot). first_free ss (numbered 1 rows)) (map_push slot_of slots last_slot)
      ∙ (free_before (map slot_of slots) (slot_of last_slot) rows 1 (λ k l. λ same. let m = low k l in absurd (omega arith)) ∙ e)) in
      let fuel : length waits ≡ suc (length slots) = omega (arith, length_push slots last_slot) in
      let found : walk (length waits) candidates (map slot_of waits) 0 (waiting_way waits ∷ []) ≡ Some ((length waits - 1, slot_of slot) ∷ []) =
      walk_next (length waits) (length slots) candidates (map slot_of waits) 0 (waiting_way waits ∷ []) fuel (omega arith)
      ∙ ap (λ (o : Option Slot). option_or (option_map (λ (free : Slot). (length waits - 1, free) ∷ []) o) (walk (length slots) candidates (map slot_of waits) (0 + 1) (fold (led_to (map slot_of waits) (waiting_way waits)) (waiting_way waits ∷ []) (choices_of candidates (length waits - 1))))) free in
      let put : set waits (length slots) slot ≡ slots ++ slot ∷ [] = set-append_seam slots last_slot [] slot in
      next_is waits refl
      ∙ (room_alone stash bins candidates waits ((length waits - 1, slot_of slot) ∷ []) found
      ∙ ap (λ (ss : List Slot). Some ss)
      (ap (λ (n : ℕ). set (map slot_of waits) n (slot_of slot)) (sym item)
      ∙ (sym (map-set slot_of waits (length slots) slot) ∙ ap (map slot_of) (put ∙ sym f))))

-- ---- all items

-- the slots after the items of this list, each of which is the next one
pub seated_from : ℕ → ℕ → List (List ℕ) → Option (List Slot) → List (List ℕ) → Option (List Slot)
seated_from stash bins candidates slots items = fold (λ slots _. option_and_then (with_next stash bins candidates) slots) slots items

module _ (stash bins : ℕ) (candidates : List (List ℕ)) where
  pub picked_is : picked stash bins candidates ≡ seated_from stash bins candidates (Some []) candidates
  unfolding picked seated_from
  picked_is = refl

  -- one more item is seated
  pub seated_more : (i : ℕ) (slots : List Slot) (next : Option (List Slot)) → i < length candidates → with_next stash bins candidates slots ≡ next → seated_from stash bins candidates (Some slots) (drop i candidates) ≡ seated_from stash bins candidates next (drop (i + 1) candidates)
  unfolding seated_from
  seated_more i slots next l e =
      ap (seated_from stash bins candidates (Some slots)) (drop_more candidates i [] l)
      ∙ ap (λ (o : Option (List Slot)). seated_from stash bins candidates o (drop (i + 1) candidates)) e

  -- none is seated after one that can't be
  pub seated_none : (items : List (List ℕ)) → seated_from stash bins candidates None items ≡ None
  unfolding seated_from
  seated_none items = fold_stays (λ (slots : Option (List Slot)) (_ : List ℕ). option_and_then (with_next stash bins candidates) slots) None (λ x. refl) items

  pub seated_all : (i : ℕ) (slots : Option (List Slot)) → length candidates ≤ i → seated_from stash bins candidates slots (drop i candidates) ≡ slots
  unfolding seated_from
  seated_all i slots l = ap (seated_from stash bins candidates slots) (drop_all i candidates l)
