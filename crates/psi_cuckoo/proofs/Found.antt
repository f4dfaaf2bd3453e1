-- The first visited item that has a free candidate.
use Rattle.std.proofs.Common.{◌≡◌, ◌+◌, ◌-◌, ◌<◌, ◌≤◌, ◌==◌, ℕ, Bool, true, false, cond, MatchBool, List, [], ◌∷◌, ◌++◌, zero, suc, Some, None, length, map, get_or, set, refl, sym, ap, ◌∙◌, subst, arith, ⊎_elim, inl, inr}
use Rattle.std.specs.Prelude.{IsSome, fold, option_map}
use Rattle.std.specs.Option.{option_map_or, option_or}
use Rattle.std.specs.List.{list_any}
use Rattle.std.specs.declared.option.Option.{Option}
use Rattle.std.proofs.lemmas.Bool.{cases_eq, true≢false}
use Rattle.std.proofs.lemmas.List.{get_or_push, get_or_append_left, length_push, get_or-set_same, get_or-set_other}
use Rattle.psi_spec.specs.Placement.{Slot}
use Rattle.psi_spec.specs.Picking.{Visit as Way, choices_of, first_free, led_to, occupant, walk, with_visit}
use Rattle.psi_cuckoo.specs.Table.{AllTaken, AreOccupants, IsTable, IsTask, occupant_at, slot_of}
use Rattle.psi_cuckoo.specs.Search.{AddsVisit, IsAdded, IsFirstPath, IsForest, IsKept, NoneFree, no_visit, visit_at}
use Rattle.psi_cuckoo.specs.Picks.{Begins, choice_at, no_way, path_moves, way_at, ways_of}
use Rattle.psi_cuckoo.specs.declared.slot.Slot.{Slot as RowSlot}
use Rattle.psi_cuckoo.specs.declared.search.Path.{Path}
use Rattle.psi_cuckoo.specs.declared.search.Search.{Search}
use Rattle.psi_cuckoo.specs.declared.search.Visit.{Visit}
use Rattle.psi_cuckoo.specs.declared.table.Table.{Table}
use Rattle.psi_cuckoo.specs.declared.table.Task.{Task}
use Rattle.psi_cuckoo.proofs.Paths.{names_at}
use Rattle.psi_cuckoo.proofs.Picks.{choice_taken, item_of_way, length-ways, no_choice, walk_next}

-- ---- items without a free candidate

pub some_of : (found : Option ℕ) → IsSome found → (x : ℕ) × (found ≡ Some x)
some_of None h = absurd (true≢false (sym h))
some_of (Some x) h = (x, refl)

-- none of an item's choices is free where all are taken
pub none_of_taken : (candidates : List (List ℕ)) (slots : List RowSlot) (occupants : List (Option ℕ)) (item : ℕ) → AreOccupants slots occupants → length (get_or candidates item []) ≡ 3 → AllTaken candidates occupants item → first_free (map slot_of slots) (choices_of candidates item) ≡ None
none_of_taken candidates slots occupants item standing three taken =
    let row = λ (index : ℕ). get_or (get_or candidates item []) (index - 1) 0 in
    let one = names_at candidates item 1 three (omega arith) (omega arith) in
    let two = names_at candidates item 2 three (omega arith) (omega arith) in
    let last = names_at candidates item 3 three (omega arith) (omega arith) in
    let a = some_of (occupant_at occupants (row 1)) (taken 1 (row 1) one) in
    let b = some_of (occupant_at occupants (row 2)) (taken 2 (row 2) two) in
    let c = some_of (occupant_at occupants (row 3)) (taken 3 (row 3) last) in
    choice_taken candidates slots occupants item 1 (row 1) standing three one a.0 a.1
    ∙ (choice_taken candidates slots occupants item 2 (row 2) standing three two b.0 b.1
    ∙ (choice_taken candidates slots occupants item 3 (row 3) standing three last c.0 c.1
    ∙ no_choice candidates slots item 4 three (omega arith)))

-- a row that is taken stays so where an item is added
pub taken_more : (candidates : List (List ℕ)) (old new : List (Option ℕ)) (item row other : ℕ) → new ≡ set old row (Some other) → row < length old → AllTaken candidates old item → AllTaken candidates new item
taken_more candidates old new item row other e within taken index r named = subst (λ (os : List (Option ℕ)). IsSome (occupant_at os r)) (sym e) (⊎_elim
    (λ (same : r ≡ row). subst (λ (o : Option ℕ). IsSome o) (sym (ap (occupant_at (set old row (Some other))) same ∙ get_or-set_same old row (Some other) None within)) refl)
    (λ ne. subst (λ (o : Option ℕ). IsSome o) (sym (get_or-set_other old row r (Some other) None (λ e. ne e))) (taken index r named))
    (cases_eq r row))

-- what is known of a visit, by whether it is new
pub adds_when : (old new : Search) (visit : Visit) (b : Bool) → MatchBool b (IsAdded old new visit) (IsKept old new visit) → AddsVisit old new visit
adds_when old new visit true h = inr h
adds_when old new visit false h = inl h

pub none_free_none : (task : Task) (table : Table) (search : Search) → search.visits.items ≡ [] → NoneFree task table search
none_free_none task table search none = subst (λ (vs : List Visit). (k : ℕ) → k < length vs → AllTaken task.candidates.now table.occupants.items (visit_at vs k).item) (sym none) (λ k l. absurd (omega arith))

module _ (task : Task) (table : Table) (old new : Search) (visit : Visit) where
  pub none_free_kept : IsKept old new visit → NoneFree task table old → NoneFree task table new
  none_free_kept kept before = subst (λ (vs : List Visit). (k : ℕ) → k < length vs → AllTaken task.candidates.now table.occupants.items (visit_at vs k).item) (sym kept.1) before

  pub none_free_added : IsAdded old new visit → NoneFree task table old → AllTaken task.candidates.now table.occupants.items visit.item → NoneFree task table new
  none_free_added added before here =
      let visits : List Visit = old.visits.items in
      subst (λ (vs : List Visit). (k : ℕ) → k < length vs → AllTaken task.candidates.now table.occupants.items (visit_at vs k).item) (sym added.1)
      (λ k l. ⊎_elim
      (λ (e : k ≡ length visits). subst (λ (v : Visit). AllTaken task.candidates.now table.occupants.items v.item) (sym (get_or_push visits visit no_visit k (sym e))) here)
      (λ ne. let m : k < length visits = omega (arith, length_push visits visit) in
      subst (λ (v : Visit). AllTaken task.candidates.now table.occupants.items v.item) (sym (get_or_append_left visits (visit ∷ []) no_visit k m)) (before k m))
      (cases_eq k (length visits)))

  pub none_free_visit : AddsVisit old new visit → NoneFree task table old → AllTaken task.candidates.now table.occupants.items visit.item → NoneFree task table new
  none_free_visit adds before here = ⊎_elim (λ kept. none_free_kept kept before) (λ added. none_free_added added before here) adds

-- ---- ways that begin alike

begins_same : (ways : List Way) → Begins ways ways
begins_same ways = record { longer = omega arith; same = λ k l. refl }

begins_twice : (a b c : List Way) → Begins a b → Begins b c → Begins a c
begins_twice a b c p q = record { longer = omega (arith, p.longer, q.longer); same = λ k l. q.same k (omega (arith, p.longer)) ∙ p.same k l }

with_visit_begins : (ways : List Way) (visit : Way) → Begins ways (with_visit ways visit)
with_visit_begins ways visit = by_test (list_any (λ (earlier : Way). earlier.item == visit.item) ways)
  where
    by_test : (b : Bool) → Begins ways (cond b ways (ways ++ visit ∷ []))
    by_test true = begins_same ways
    by_test false = record { longer = omega (arith, length_push ways visit); same = λ k l. get_or_append_left ways (visit ∷ []) no_way k l }

module _ (slots : List Slot) (way : Way) where
  led_begins : (ways : List Way) (choice : Slot) → Begins ways (led_to slots way ways choice)
  led_begins ways choice = by_found (occupant slots choice.row)
    where
      by_found : (found : Option ℕ) → Begins ways (option_map_or (λ (item : ℕ). with_visit ways (record { item = item; moves = (way.item, choice) ∷ way.moves })) found ways)
      by_found None = begins_same ways
      by_found (Some item) = with_visit_begins ways (record { item = item; moves = (way.item, choice) ∷ way.moves })

  -- the earlier ways stay
  pub fold_begins : (choices : List Slot) (ways : List Way) → Begins ways (fold (led_to slots way) ways choices)
  fold_begins [] ways = begins_same ways
  fold_begins (choice ∷ choices) ways = begins_twice ways (led_to slots way ways choice) (fold (led_to slots way) (led_to slots way ways choice) choices) (led_begins ways choice) (fold_begins choices (led_to slots way ways choice))

-- the same of what was known so far
pub told_begins : (slots : List Slot) (way : Way) (told ways : List Way) (choices : List Slot) → told ≡ fold (led_to slots way) ways choices → Begins ways told
told_begins slots way told ways choices e = subst (Begins ways) (sym e) (fold_begins slots way choices ways)

-- ---- where a walk ends

-- a walk passes over visits without a free candidate, and ends with the first that has one
walk_to : (n fuel at last : ℕ) (candidates : List (List ℕ)) (slots : List Slot) (ways : List Way) (free : Slot) → at + n ≡ last → n < fuel → last < length ways → ((k : ℕ) → at ≤ k → k < last → first_free slots (choices_of candidates (way_at ways k).item) ≡ None) → first_free slots (choices_of candidates (way_at ways last).item) ≡ Some free → walk fuel candidates slots at ways ≡ Some (((way_at ways last).item, free) ∷ (way_at ways last).moves)
walk_to zero fuel at last candidates slots ways free e f l none here =
    let same : at ≡ last = omega arith in
    let more : ℕ = fuel - 1 in
    let fuelled : fuel ≡ suc more = omega arith in
    let rest : Option (List (ℕ × Slot)) = walk more candidates slots (last + 1) (fold (led_to slots (way_at ways last)) ways (choices_of candidates (way_at ways last).item)) in
    ap (λ (k : ℕ). walk fuel candidates slots k ways) same
    ∙ (walk_next fuel more candidates slots last ways fuelled l
    ∙ ap (λ (o : Option Slot). option_or (option_map (λ (free : Slot). ((way_at ways last).item, free) ∷ (way_at ways last).moves) o) rest) here)
walk_to (suc n) fuel at last candidates slots ways free e f l none here =
    let more : ℕ = fuel - 1 in
    let fuelled : fuel ≡ suc more = omega arith in
    let within : at < length ways = omega arith in
    let all : List Way = fold (led_to slots (way_at ways at)) ways (choices_of candidates (way_at ways at).item) in
    let kept : Begins ways all = fold_begins slots (way_at ways at) (choices_of candidates (way_at ways at).item) ways in
    let end : way_at all last ≡ way_at ways last = kept.same last l in
    walk_next fuel more candidates slots at ways fuelled within
    ∙ (ap (λ (o : Option Slot). option_or (option_map (λ (free : Slot). ((way_at ways at).item, free) ∷ (way_at ways at).moves) o) (walk more candidates slots (at + 1) all)) (none at (omega arith) (omega arith))
    ∙ (walk_to n more (at + 1) last candidates slots all free (omega arith) (omega arith) (omega (arith, kept.longer))
    (λ k low high. ap (λ (w : Way). first_free slots (choices_of candidates w.item)) (kept.same k (omega arith)) ∙ none k (omega arith) high)
    (ap (λ (w : Way). first_free slots (choices_of candidates w.item)) end ∙ here)
    ∙ ap (λ (w : Way). Some ((w.item, free) ∷ w.moves)) end))

-- a walk whose visits begin with those of a search ends where its first path does
pub walk_first_path : (task : Task) (table : Table) (search : Search) (path : Path) (fuel at : ℕ) (ways : List Way) → IsTask task → IsTable task table → IsForest task table search → IsFirstPath task table search path → Begins (ways_of (task.bins + task.stash) table.slots.items search.visits.items) ways → at ≤ path.last → path.last < at + fuel
    → walk fuel task.candidates.now (map slot_of table.slots.items) at ways ≡ Some (path_moves task.candidates.now (ways_of (task.bins + task.stash) table.slots.items search.visits.items) path.last path.index)
walk_first_path task table search path fuel at ways is seated forest found begins low high =
    let candidates = task.candidates.now in
    let slots : List RowSlot = table.slots.items in
    let seats : List Slot = map slot_of slots in
    let visits : List Visit = search.visits.items in
    let waiting : ℕ = task.bins + task.stash in
    let mine : List Way = ways_of waiting slots visits in
    let last : ℕ = path.last in
    let within : last < length visits = found.within in
    let same = λ (k : ℕ) (l : k < length visits). begins.same k (omega (arith, length-ways waiting slots visits)) in
    let item = λ (k : ℕ) (l : k < length visits). ap (λ (w : Way). w.item) (same k l) ∙ item_of_way waiting slots visits k l in
    let three = λ (k : ℕ) (l : k < length visits). is.three (visit_at visits k).item (omega (arith, forest.each k l, forest.few)) in
    let free : Slot = choice_at candidates (visit_at visits last).item path.index in
    walk_to (last - at) fuel at last candidates seats ways free (omega arith) (omega arith) (omega (arith, begins.longer, length-ways waiting slots visits))
    (λ k low high. let l : k < length visits = omega arith in
    ap (λ (i : ℕ). first_free seats (choices_of candidates i)) (item k l) ∙ none_of_taken candidates slots table.occupants.items (visit_at visits k).item seated.standing (three k l) (found.before k high))
    (ap (λ (i : ℕ). first_free seats (choices_of candidates i)) (item last within) ∙ found.first)
    ∙ (ap (λ (w : Way). Some ((w.item, free) ∷ w.moves)) (same last within)
    ∙ ap (λ (i : ℕ). Some (((way_at mine last).item, choice_at candidates i path.index) ∷ (way_at mine last).moves)) (sym (item_of_way waiting slots visits last within)))
