-- What a finished search reached is a crowded list.
use Rattle.std.proofs.Common.{◌≡◌, ◌+◌, ◌-◌, ◌<◌, ◌≤◌, ◌||◌, ℕ, Bool, true, false, cond, List, [], ◌∷◌, ◌++◌, Some, length, map, get_or, refl, sym, ap, ◌∙◌, subst, arith, ⊎_elim, eq-eqb}
use Rattle.std.specs.Prelude.{slice_get, nat_eq, Contains}
use Rattle.std.specs.List.{IsDistinct, flat_map, range_with_len}
use Rattle.std.specs.Set.{unique_keys, is_member, distinct_count}
use Rattle.std.specs.Cmp.{unsigned_Decides}
use Rattle.std.specs.declared.option.Option.{Option}
use Rattle.std.proofs.lemmas.Bool.{cases_eq, eqb-true, false_from_ne_true, or_left, or_right}
use Rattle.std.proofs.lemmas.Cmp.{nat_eq_equiv}
use Rattle.std.proofs.lemmas.Option.{same_Some, slice_get-get_or, slice_get_within, get_or_from_slice_get}
use Rattle.std.proofs.lemmas.List.{length-map, get_or-map, get_or_push, get_or_append_left, length_push}
use Rattle.std.proofs.lemmas.List.Elements.{Contains-append_left, Contains-append_right, Contains-append_cases, Contains-push, Contains-push_cases, Contains-get_or}
use Rattle.std.proofs.lemmas.List.FromFn.{length-range_with_len, get_or-range_with_len}
use Rattle.std.proofs.lemmas.Map.Keys.{IsDistinct-from_apart, below_from_sorted, sorted_from_strictly_increasing}
use Rattle.std.proofs.lemmas.Map.Made.{is_member-Decides, length-from_keys, distinct_count-from_IsDistinct}
use Rattle.psi_spec.specs.CrowdedLists.{IsCrowded, named_bins, touched_by}
use Rattle.psi_spec.proofs.Crowding.{Contains-flat_map}
use Rattle.psi_spec.proofs.Lists.{Contains-from_map, Contains-map, same_test}
use Rattle.psi_cuckoo.specs.Table.{AreSeated, IsTask, NameBins, Names, slot_at, occupant_at}
use Rattle.psi_cuckoo.specs.declared.table.Task.{Task}
use Rattle.psi_cuckoo.specs.declared.table.Table.{Table}
use Rattle.psi_cuckoo.specs.declared.search.Search.{Search}
use Rattle.psi_cuckoo.specs.Search.{IsEnded, AreTrees, IsClosed, IsLed, IsReached, AreRising, IsVisited, visit_at}
use Rattle.psi_cuckoo.specs.declared.slot.Slot.{Slot}
use Rattle.psi_cuckoo.specs.declared.search.Visit.{Visit}

-- ---- rising lists

pub rise_none : (visits : List Visit) → AreRising visits 0 []
rise_none visits = record {
  rising = λ k l. absurd (omega arith);
  sound = λ item h. absurd (let l : h.0 < 0 = h.1 in omega arith);
  whole = λ item l h. absurd (omega arith);
}

pub rise_past : (visits : List Visit) (end : ℕ) (items : List ℕ) → (IsVisited visits end → ⊥) → AreRising visits end items → AreRising visits (end + 1) items
rise_past visits end items unvisited r = record {
  rising = r.rising;
  sound = λ item h. let s = r.sound item h in (omega (arith, s.0), s.1);
  whole = λ item l h. ⊎_elim (λ e. absurd (unvisited (subst (IsVisited visits) e h))) (λ ne. r.whole item (omega arith) h) (cases_eq item end);
}

pub rise_more : (visits : List Visit) (end : ℕ) (items : List ℕ) → IsVisited visits end → AreRising visits end items → AreRising visits (end + 1) (items ++ end ∷ [])
rise_more visits end items visited r = record {
  rising = λ k l. ⊎_elim
      (λ e. let last : get_or (items ++ end ∷ []) (k + 1) 0 ≡ end = get_or_push items end 0 (k + 1) (sym e) in
      let m : k < length items = omega arith in
      let before : get_or (items ++ end ∷ []) k 0 ≡ get_or items k 0 = get_or_append_left items (end ∷ []) 0 k m in
      let low = (r.sound (get_or items k 0) (Contains-get_or items k 0 m)).0 in
      rw (last, before) low)
      (λ ne. let m : k + 1 < length items = omega (arith, length_push items end) in
      let n : k < length items = omega arith in
      let this : get_or (items ++ end ∷ []) k 0 ≡ get_or items k 0 = get_or_append_left items (end ∷ []) 0 k n in
      let next : get_or (items ++ end ∷ []) (k + 1) 0 ≡ get_or items (k + 1) 0 = get_or_append_left items (end ∷ []) 0 (k + 1) m in
      rw (this, next) (r.rising k m))
      (cases_eq (k + 1) (length items));
  sound = λ item h. ⊎_elim
      (λ h. let s = r.sound item h in (omega (arith, s.0), s.1))
      (λ e. (omega arith, subst (IsVisited visits) e visited))
      (Contains-push_cases items end item h);
  whole = λ item l h. ⊎_elim
      (λ e. subst (Contains (items ++ end ∷ [])) (sym e) (Contains-push items end))
      (λ ne. Contains-append_left items (end ∷ []) item (r.whole item (omega arith) h))
      (cases_eq item end);
}

-- ---- lists and counts

-- what an element gives is among what all of them give
Contains-flat_map_of : (f : ℕ → List ℕ) (xs : List ℕ) (x y : ℕ) → Contains xs x → Contains (f x) y
    → Contains (flat_map f xs) y
Contains-flat_map_of f xs x y h here =
    Contains-flat_map f xs h.0 x y h.1 (subst (λ (n : ℕ). Contains (f n) y) (sym h.2) here)

Contains-flat_map_from : (f : ℕ → List ℕ) (xs : List ℕ) (y : ℕ) → Contains (flat_map f xs) y → (x : ℕ) × Contains xs x × Contains (f x) y
Contains-flat_map_from f [] y h = absurd (let l : h.0 < 0 = h.1 in omega arith)
Contains-flat_map_from f (x ∷ xs) y h = ⊎_elim
    (λ here. (x, (0, omega arith, refl), here))
    (λ later. let r = Contains-flat_map_from f xs y later in (r.0, Contains-append_right (x ∷ []) xs r.0 r.1, r.2))
    (Contains-append_cases (f x) (flat_map f xs) y h)

Contains-range : (start n q : ℕ) → start ≤ q → q < start + n → Contains (range_with_len start n) q
Contains-range start n q low high = (q - start, omega (arith, length-range_with_len start n), get_or-range_with_len start n (q - start) q (omega arith) ∙ omega arith)

range_from : (start n q : ℕ) → Contains (range_with_len start n) q → (start ≤ q) × (q < start + n)
range_from start n q h =
    let l : h.0 < n = omega (arith, length-range_with_len start n, h.1) in
    let is : start + h.0 ≡ q = sym (get_or-range_with_len start n h.0 q l) ∙ h.2 in
    (omega arith, omega arith)

range_apart : (start n : ℕ) → IsDistinct nat_eq (range_with_len start n)
range_apart start n = IsDistinct-from_apart nat_eq (range_with_len start n) (λ i j d l m.
    let jn : j < n = omega (arith, length-range_with_len start n) in
    let a = get_or-range_with_len start n i d (omega arith) in
    let b = get_or-range_with_len start n j d jn in
    false_from_ne_true _ (λ t. let e : start + i ≡ start + j = sym a ∙ (eqb-true _ _ t ∙ b) in absurd (omega arith)))

same_members : (xs ys : List ℕ) → ((q : ℕ) → Contains xs q → Contains ys q) → ((q : ℕ) → Contains ys q → Contains xs q) → (q : ℕ) → is_member nat_eq xs q ≡ is_member nat_eq ys q
same_members xs ys to back q =
    let a = is_member-Decides unsigned_Decides xs q in
    let b = is_member-Decides unsigned_Decides ys q in
    same_test (is_member nat_eq xs q) (is_member nat_eq ys q) (λ t. b.1 (to q (a.0 t))) (λ t. a.1 (back q (b.0 t)))

is_member-append : (xs ys : List ℕ) (q : ℕ) → is_member nat_eq ys q ≡ false → is_member nat_eq (xs ++ ys) q ≡ is_member nat_eq xs q
is_member-append [] ys q h = h
is_member-append (x ∷ xs) ys q h = ap (λ (b : Bool). nat_eq q x || b) (is_member-append xs ys q h)

count_step : (m : Bool) (us vs : List ℕ) (x n : ℕ) → length us ≡ length vs + n → length (cond m us (x ∷ us)) ≡ length (cond m vs (x ∷ vs)) + n
count_step true us vs x n h = h
count_step false us vs x n h = omega (arith, h)

-- keys that are not among the others are counted beside them
distinct_count-append : (xs ys : List ℕ) → IsDistinct nat_eq ys → ((q : ℕ) → is_member nat_eq xs q ≡ true → is_member nat_eq ys q ≡ false) → distinct_count nat_eq (xs ++ ys) ≡ distinct_count nat_eq xs + length ys
distinct_count-append [] ys apart others = distinct_count-from_IsDistinct nat_eq_equiv ys apart ∙ omega arith
distinct_count-append (x ∷ xs) ys apart others =
    let here : is_member nat_eq (xs ++ ys) x ≡ is_member nat_eq xs x = is_member-append xs ys x (others x (or_left _ _ (eq-eqb x x refl))) in
    let rest = distinct_count-append xs ys apart (λ q h. others q (or_right _ _ h)) in
    let us : List ℕ = unique_keys nat_eq (xs ++ ys) in
    let vs : List ℕ = unique_keys nat_eq xs in
    subst (λ (m : Bool). length (cond m us (x ∷ us)) ≡ length (cond (is_member nat_eq xs x) vs (x ∷ vs)) + length ys) (sym here) (count_step (is_member nat_eq xs x) us vs x (length ys) rest)

-- ---- a finished search

-- what a search knows at its end
pub record IsStuck (extra bins : ℕ) (candidates : List (List ℕ)) (slots : List Slot) (occupants : List (Option ℕ)) (visits : List Visit) (numbers : List ℕ) (items : List ℕ) : Type 0 where
  pub table : AreSeated extra bins candidates slots occupants
  pub forest : AreTrees bins candidates slots visits numbers
  pub closed : IsClosed extra bins candidates occupants visits
  pub rise : AreRising visits (length slots) items
  pub named : NameBins bins candidates
  pub three : (item : ℕ) → item < length slots → length (get_or candidates item []) ≡ 3
  pub all : length slots ≤ length candidates

pub stuck_from_ended : (task : Task) (table : Table) (search : Search) (end : ℕ) (items : List ℕ) → IsTask task → IsEnded task table search → end ≡ length table.slots.items → AreRising search.visits.items end items → length table.slots.items ≤ length task.candidates.now → IsStuck (task.stash + 1) task.bins task.candidates.now table.slots.items table.occupants.items search.visits.items search.numbers.items items
stuck_from_ended task table search end items is ended count rise all = record {
  table = ended.seated;
  forest = ended.forest;
  closed = ended.closed;
  rise = subst (λ (n : ℕ). AreRising search.visits.items n items) count rise;
  named = is.named;
  three = λ i l. is.three i (omega arith);
  all = all;
}

module _ (extra bins : ℕ) (candidates : List (List ℕ)) (slots : List Slot) (occupants : List (Option ℕ)) (visits : List Visit) (numbers : List ℕ) (items : List ℕ) where
  row_of : ℕ → ℕ
  row_of i = (slot_at slots i).row

  -- the rows of the items
  rows : List ℕ
  rows = map row_of items

  -- the rows that are named, and those behind the bins
  wanted : List ℕ
  wanted = named_bins candidates items ++ range_with_len bins extra

  module _ (s : IsStuck extra bins candidates slots occupants visits numbers items) where
    reached_in : (q : ℕ) → IsReached occupants visits q → Contains rows q
    unfolding rows row_of
    reached_in q h =
        let at = s.table.standing.holds q h.0 h.1 in
        subst (Contains rows) at.1 (Contains-map row_of items h.0 (s.rise.whole h.0 at.0 h.2))

    names_from : (item n q : ℕ) → item < length slots → n < length (get_or candidates item []) → get_or (get_or candidates item []) n q ≡ q → Names candidates item (n + 1) q
    names_from item n q placed l is =
        let back : n + 1 - 1 ≡ n = omega arith in
        (omega arith, omega (arith, s.three item placed), ap (slice_get (get_or candidates item [])) back ∙ (slice_get-get_or (get_or candidates item []) n q l ∙ ap (λ (m : ℕ). Some m) is))

    named_in : (q : ℕ) → Contains (named_bins candidates items) q → Contains rows q
    named_in q h =
        let from = Contains-flat_map_from (λ i. get_or candidates i []) items q h in
        let seen = s.rise.sound from.0 from.1 in
        let names = names_from from.0 from.2.0 q seen.0 from.2.1 from.2.2 in
        reached_in q (s.closed.named seen.1.0 seen.1.1 (from.2.0 + 1) q (subst (λ (i : ℕ). Names candidates i (from.2.0 + 1) q) (sym seen.1.2) names))

    wanted_in : (q : ℕ) → Contains wanted q → Contains rows q
    unfolding wanted
    wanted_in q h = ⊎_elim
        (named_in q)
        (λ h. let r = range_from bins extra q h in reached_in q (s.closed.stashed q r.0 r.1))
        (Contains-append_cases (named_bins candidates items) (range_with_len bins extra) q h)

    led_in : (item : ℕ) → Contains items item → Contains wanted (row_of item)
    unfolding wanted row_of
    led_in item h =
        let seen = s.rise.sound item h in
        let k : ℕ = seen.1.0 in
        let led = subst (λ (i : ℕ). IsLed bins candidates visits k (visit_at visits k).parent (visit_at visits k).index (slot_at slots i).row) seen.1.2 (s.forest.led k seen.1.1) in
        ⊎_elim
        (λ behind. Contains-append_right (named_bins candidates items) (range_with_len bins extra) (row_of item) (Contains-range bins extra (row_of item) behind.1 (omega (arith, s.table.rows, s.table.inside item seen.0))))
        (λ way. let p : ℕ = (visit_at visits k).parent in
        let l : p < length visits = omega (arith, way.0, seen.1.1) in
        let parent : ℕ = (visit_at visits p).item in
        let n : ℕ = (visit_at visits k).index - 1 in
        let among = s.rise.whole parent (s.forest.each p l) (p, l, refl) in
        Contains-append_left (named_bins candidates items) (range_with_len bins extra) (row_of item)
        (Contains-flat_map_of (λ i. get_or candidates i []) items parent (row_of item) among
        (n, slice_get_within (get_or candidates parent []) n (row_of item) way.1.2, get_or_from_slice_get (get_or candidates parent []) n (row_of item) (row_of item) way.1.2)))
        led

    in_wanted : (q : ℕ) → Contains rows q → Contains wanted q
    unfolding rows
    in_wanted q h = let from = Contains-from_map row_of items q h in subst (Contains wanted) from.2 (led_in from.0 from.1)

    rows_apart : IsDistinct nat_eq rows
    unfolding rows row_of
    rows_apart = IsDistinct-from_apart nat_eq rows (λ i j d l m.
        let jn : j < length items = omega (arith, length-map items row_of) in
        let up = below_from_sorted items i j 0 (sorted_from_strictly_increasing items s.rise.rising) l jn in
        let a = get_or-map row_of items i 0 d (omega arith) in
        let b = get_or-map row_of items j 0 d jn in
        let p = s.rise.sound (get_or items i 0) (Contains-get_or items i 0 (omega arith)) in
        let q = s.rise.sound (get_or items j 0) (Contains-get_or items j 0 jn) in
        false_from_ne_true _ (λ t.
        let e : row_of (get_or items i 0) ≡ row_of (get_or items j 0) = sym a ∙ (eqb-true _ _ t ∙ b) in
        let same : get_or items i 0 ≡ get_or items j 0 = same_Some _ _ (sym (s.table.standing.held (get_or items i 0) p.0) ∙ (ap (occupant_at occupants) e ∙ s.table.standing.held (get_or items j 0) q.0)) in
        absurd (omega arith)))

    named_below : (q : ℕ) → Contains (named_bins candidates items) q → q < bins
    named_below q h =
        let from = Contains-flat_map_from (λ i. get_or candidates i []) items q h in
        s.named from.0 (from.2.0 + 1) q (names_from from.0 from.2.0 q (s.rise.sound from.0 from.1).0 from.2.1 from.2.2)

    -- the search reached as many items as there are rows behind the bins and bins that they name
    pub stuck_count : length items ≡ touched_by candidates items + extra
    unfolding rows wanted
    stuck_count =
        let spare : List ℕ = range_with_len bins extra in
        let all = length-from_keys nat_eq_equiv rows wanted rows_apart (same_members rows wanted in_wanted wanted_in) in
        let parts = distinct_count-append (named_bins candidates items) spare (range_apart bins extra) (λ q h.
        let low = named_below q ((is_member-Decides unsigned_Decides (named_bins candidates items) q).0 h) in
        false_from_ne_true _ (λ t. let r = range_from bins extra q ((is_member-Decides unsigned_Decides spare q).0 t) in absurd (omega (arith, r.0)))) in
        sym (length-map items row_of) ∙ (all ∙ (parts ∙ ap (λ (n : ℕ). touched_by candidates items + n) (length-range_with_len bins extra)))

    pub stuck_crowded : (stash : ℕ) → extra ≡ stash + 1 → IsCrowded stash candidates items
    stuck_crowded stash e = record {
      rising = s.rise.rising;
      within = λ k d l. omega (arith, (s.rise.sound (get_or items k d) (Contains-get_or items k d l)).0, s.all);
      many = omega (arith, stuck_count);
    }
