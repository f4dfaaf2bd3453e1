-- What a walk keeps: the moves of each visit are a chain to the row of its item.
use Rattle.std.proofs.Common.{◌≡◌, ◌+◌, ◌-◌, ◌<◌, ◌≤◌, ◌==◌, ◌⊎◌, ℕ, zero, suc, Bool, true, false, cond, List, [], ◌∷◌, ◌++◌, None, Some, length, get_or, inl, inr, refl, sym, ap, ◌∙◌, subst, arith, ⊎_elim, eq-eqb}
use Rattle.std.specs.Prelude.{find, fold, is_none, option_map, slice_get}
use Rattle.std.specs.List.{AllByRecursion, list_any, position_from}
use Rattle.std.specs.Option.{option_map_or, option_or}
use Rattle.std.specs.declared.option.Option.{Option}
use Rattle.std.proofs.lemmas.Bool.{eqb-true, or_left, or_right, true≢false}
use Rattle.std.proofs.lemmas.List.Folds.{list_any-append}
use Rattle.std.proofs.lemmas.Option.{none-some, option_and_then_some, same_Some}
use Rattle.psi_spec.specs.Placement.{MayHave, Slot, stash_slots}
use Rattle.psi_spec.specs.Picking.{Visit, choices_of, first_free, led_to, numbered, occupant, room_for, walk, with_visit}
use Rattle.psi_spec.proofs.Moves.{IsChain, IsVacant, StaysBehind, row_of_item}

-- ---- answers that are Some

or_some : {A : Type 0} (a b : Option A) (y : A) → option_or a b ≡ Some y → (a ≡ Some y) ⊎ (b ≡ Some y)
or_some None b y e = inr e
or_some (Some x) b y e = inl e

pub map_some : {A B : Type 0} (f : A → B) (o : Option A) (y : B) → option_map f o ≡ Some y
    → (x : A) × (o ≡ Some x) × (f x ≡ y)
map_some f None y e = absurd (none-some y e)
map_some f (Some x) y e = (x, refl, same_Some (f x) y e)

-- the first that passes is one of those, and passes
find_some : {A : Type 0} (P : A → Type 0) (test : A → Bool) (xs : List A) (y : A) → AllByRecursion P xs
    → find test xs ≡ Some y → P y × (test y ≡ true)
find_some P test [] y all e = absurd (none-some y e)
find_some P test (x ∷ xs) y all e = by_test (find_some P test xs y all.1) (test x) refl e
  where
    by_test : (find test xs ≡ Some y → P y × (test y ≡ true)) → (b : Bool) → test x ≡ b
        → cond b (Some x) (find test xs) ≡ Some y → P y × (test y ≡ true)
    by_test later true t e = let same : x ≡ y = same_Some x y e in (subst P same all.0, ap test (sym same) ∙ t)
    by_test later false t e = later e

-- ---- the item in a row

occupies : (slots : List Slot) (row c j : ℕ) → position_from (λ (slot : Slot). slot.row == row) c slots ≡ Some j
    → (k : ℕ) × (c + k ≡ j) × (k < length slots) × (row_of_item slots k ≡ row)
occupies [] row c j e = absurd (none-some j e)
occupies (s ∷ ss) row c j e = by_test (occupies ss row (c + 1) j) (s.row == row) refl e
  where
    by_test : (position_from (λ (slot : Slot). slot.row == row) (c + 1) ss ≡ Some j
        → (k : ℕ) × (c + 1 + k ≡ j) × (k < length ss) × (row_of_item ss k ≡ row))
        → (b : Bool) → (s.row == row) ≡ b
        → cond b (Some c) (position_from (λ (slot : Slot). slot.row == row) (c + 1) ss) ≡ Some j
        → (k : ℕ) × (c + k ≡ j) × (k < length (s ∷ ss)) × (row_of_item (s ∷ ss) k ≡ row)
    by_test later true t e = (0, omega (arith, same_Some c j e), omega arith, eqb-true s.row row t)
    by_test later false t e =
        let found = later e in
        (suc found.0, omega (arith, found.1), omega (arith, found.2), found.3)

-- the occupant of a row stands there
pub occupant_stands : (slots : List Slot) (row item : ℕ) → occupant slots row ≡ Some item
    → (item < length slots) × (row_of_item slots item ≡ row)
occupant_stands slots row item e =
    let found = occupies slots row 0 item e in
    let same : found.0 ≡ item = omega (arith, found.1) in
    subst (λ (i : ℕ). (i < length slots) × (row_of_item slots i ≡ row)) same (found.2, found.3)

stands_nowhere : (slots : List Slot) (row c : ℕ) → position_from (λ (slot : Slot). slot.row == row) c slots ≡ None
    → IsVacant slots row
stands_nowhere [] row c e i l at = absurd (omega arith)
stands_nowhere (s ∷ ss) row c e i l at = by_test (stands_nowhere ss row (c + 1)) (s.row == row) refl e i l at
  where
    by_test : (position_from (λ (slot : Slot). slot.row == row) (c + 1) ss ≡ None → IsVacant ss row)
        → (b : Bool) → (s.row == row) ≡ b
        → cond b (Some c) (position_from (λ (slot : Slot). slot.row == row) (c + 1) ss) ≡ None → (i : ℕ)
        → i < length (s ∷ ss) → row_of_item (s ∷ ss) i ≡ row → ⊥
    by_test later true t e i l at = none-some c (sym e)
    by_test later false t e zero l at = true≢false (sym (eq-eqb s.row row at) ∙ t)
    by_test later false t e (suc i) l at = later e i (omega arith) at

-- a row that no item occupies is vacant
pub none_vacant : (slots : List Slot) (row : ℕ) → is_none (occupant slots row) ≡ true → IsVacant slots row
none_vacant slots row e = by_found (occupant slots row) refl e
  where
    by_found : (found : Option ℕ) → occupant slots row ≡ found → is_none found ≡ true → IsVacant slots row
    by_found None is t = stands_nowhere slots row 0 is
    by_found (Some item) is t = absurd (true≢false (sym t))

-- ---- choices

module _ (stash bins : ℕ) where
  numbered_may : (rows rest : List ℕ) (index : ℕ) → ((k : ℕ) → slice_get rows (index + k) ≡ slice_get rest k)
      → AllByRecursion (MayHave stash bins rows) (numbered (index + 1) rest)
  numbered_may rows [] index same = tt
  numbered_may rows (row ∷ rest) index same =
      let at : index + 0 ≡ index + 1 - 1 = omega arith in (
        inr (omega arith, ap (slice_get rows) (sym at) ∙ same 0),
        numbered_may rows rest (index + 1)
            (λ k.
            let next : index + suc k ≡ index + 1 + k = omega arith in
            ap (slice_get rows) (sym next) ∙ same (suc k)),
      )

  -- an item may have each of its choices
  choices_may : (candidates : List (List ℕ)) (item : ℕ)
      → AllByRecursion (MayHave stash bins (get_or candidates item [])) (choices_of candidates item)
  choices_may candidates item =
      numbered_may (get_or candidates item []) (get_or candidates item []) 0
      (λ k. let e : 0 + k ≡ k = omega arith in ap (slice_get (get_or candidates item [])) e)

  -- and each row of the stash
  stash_may : (rows : List ℕ) (row n : ℕ) → bins ≤ row → row + n ≤ bins + stash
      → AllByRecursion (MayHave stash bins rows) (stash_slots row n)
  stash_may rows row zero low high = tt
  stash_may rows row (suc n) low high =
      (inl (refl, low, omega arith), stash_may rows (row + 1) n (omega arith) (omega arith))

-- ---- visits

-- the item was visited
abbrev IsMet : List Visit → ℕ → Type 0
IsMet visits item = list_any (λ earlier. earlier.item == item) visits ≡ true

abbrev AllMet : List Visit → List (ℕ × Slot) → Type 0
AllMet visits [] = Unit {0}
AllMet visits (move ∷ moves) = IsMet visits move.0 × AllMet visits moves

met_more : (visits : List Visit) (visit : Visit) (item : ℕ) → IsMet visits item → IsMet (visits ++ visit ∷ []) item
met_more visits visit item met = list_any-append (λ (earlier : Visit). earlier.item == item) visits (visit ∷ [])
    ∙ or_left _ _ met

met_new : (visits : List Visit) (visit : Visit) → IsMet (visits ++ visit ∷ []) visit.item
met_new visits visit =
    list_any-append (λ (earlier : Visit). earlier.item == visit.item) visits (visit ∷ [])
    ∙ or_right _ _ (or_left _ _ (eq-eqb visit.item visit.item refl))

all_met_more : (visits : List Visit) (visit : Visit) (moves : List (ℕ × Slot)) → AllMet visits moves
    → AllMet (visits ++ visit ∷ []) moves
all_met_more visits visit [] met = tt
all_met_more visits visit (move ∷ moves) met =
    (met_more visits visit move.0 met.0, all_met_more visits visit moves met.1)

-- an item that was not visited is none that moves
unmet_stays : (visits : List Visit) (item : ℕ) (moves : List (ℕ × Slot)) → (IsMet visits item → ⊥) → AllMet visits moves
    → StaysBehind item moves
unmet_stays visits item [] unmet met = tt
unmet_stays visits item (move ∷ moves) unmet met =
    ((λ e. unmet (subst (IsMet visits) (sym e) met.0)), unmet_stays visits item moves unmet met.1)

one_of_pushed : (visits : List Visit) (last : Visit) (k : ℕ) (visit : Visit)
    → slice_get (visits ++ last ∷ []) k ≡ Some visit → (slice_get visits k ≡ Some visit) ⊎ (last ≡ visit)
one_of_pushed [] last zero visit e = inr (same_Some last visit e)
one_of_pushed [] last (suc k) visit e = absurd (none-some visit e)
one_of_pushed (v ∷ vs) last zero visit e = inl e
one_of_pushed (v ∷ vs) last (suc k) visit e = one_of_pushed vs last k visit e

module _ (stash bins : ℕ) (candidates : List (List ℕ)) (slots : List Slot) where
  -- the moves of a visit are a chain to the row of its item, and each of these items was visited
  pub record IsReached (visits : List Visit) (visit : Visit) : Type 0 where
    pub within : visit.item < length slots
    pub behind : StaysBehind visit.item visit.moves
    pub chain : IsChain stash bins candidates slots (row_of_item slots visit.item) visit.moves
    pub met : IsMet visits visit.item
    pub all_met : AllMet visits visit.moves

  abbrev pub AreReached : List Visit → Type 0
  AreReached visits = (k : ℕ) (visit : Visit) → slice_get visits k ≡ Some visit → IsReached visits visit

  -- moves that seat the waiting item
  abbrev pub AreSeating : List (ℕ × Slot) → Type 0
  AreSeating moves = (row : ℕ) × IsVacant slots row × IsChain stash bins candidates slots row moves

  reached_more : (visits : List Visit) (last visit : Visit) → IsReached visits visit
      → IsReached (visits ++ last ∷ []) visit
  reached_more visits last visit r = record {
    within = r.within;
    behind = r.behind;
    chain = r.chain;
    met = met_more visits last visit.item r.met;
    all_met = all_met_more visits last visit.moves r.all_met;
  }

  are_reached_push : (visits : List Visit) (last : Visit) → AreReached visits → IsReached (visits ++ last ∷ []) last
      → AreReached (visits ++ last ∷ [])
  are_reached_push visits last all here k visit e = ⊎_elim
      (λ before. reached_more visits last visit (all k visit before))
      (λ same. subst (IsReached (visits ++ last ∷ [])) same here)
      (one_of_pushed visits last k visit e)

  -- the visits that one leads to are reached, and it stays so
  abbrev AreReachedWith : Visit → List Visit → Type 0
  AreReachedWith visit visits = AreReached visits × IsReached visits visit

  led_reached : (visit : Visit) (visits : List Visit) (choice : Slot)
      → MayHave stash bins (get_or candidates visit.item []) choice → AreReachedWith visit visits
      → AreReachedWith visit (led_to slots visit visits choice)
  led_reached visit visits choice may r = by_found (occupant slots choice.row) refl
    where
      by_test : (item : ℕ) → occupant slots choice.row ≡ Some item → (b : Bool)
          → list_any (λ (earlier : Visit). earlier.item == item) visits ≡ b
          → AreReachedWith visit
          (cond b visits (visits ++ record { item = item; moves = (visit.item, choice) ∷ visit.moves } ∷ []))
      by_test item is true t = r
      by_test item is false t =
          let last : Visit = record { item = item; moves = (visit.item, choice) ∷ visit.moves } in
          let visits' : List Visit = visits ++ last ∷ [] in
          let at = occupant_stands slots choice.row item is in
          let unmet : IsMet visits item → ⊥ = λ met. true≢false (sym met ∙ t) in
          let met : AllMet visits ((visit.item, choice) ∷ visit.moves) = (r.1.met, r.1.all_met) in
          let here : IsReached visits' last = record {
            within = at.0;
            behind = unmet_stays visits item ((visit.item, choice) ∷ visit.moves) unmet met;
            chain = (sym at.1, r.1.within, may, r.1.behind, r.1.chain);
            met = met_new visits last;
            all_met = all_met_more visits last ((visit.item, choice) ∷ visit.moves) met;
          } in
          (are_reached_push visits last r.0 here, reached_more visits last visit r.1)

      by_found : (found : Option ℕ) → occupant slots choice.row ≡ found
          → AreReachedWith visit
          (option_map_or
          (λ (item : ℕ). with_visit visits (record { item = item; moves = (visit.item, choice) ∷ visit.moves }))
          found visits)
      by_found None is = r
      by_found (Some item) is = by_test item is (list_any (λ (earlier : Visit). earlier.item == item) visits) refl

  fold_reached : (visit : Visit) (choices : List Slot) (visits : List Visit)
      → AllByRecursion (MayHave stash bins (get_or candidates visit.item [])) choices → AreReachedWith visit visits
      → AreReachedWith visit (fold (led_to slots visit) visits choices)
  fold_reached visit [] visits may r = r
  fold_reached visit (choice ∷ choices) visits may r =
      fold_reached visit choices (led_to slots visit visits choice) may.1 (led_reached visit visits choice may.0 r)

  -- the item of a visit goes to a free row that it may have, and then its moves follow
  ends : (visits : List Visit) (visit : Visit) (choices : List Slot) (free : Slot) → IsReached visits visit
      → AllByRecursion (MayHave stash bins (get_or candidates visit.item [])) choices
      → first_free slots choices ≡ Some free → AreSeating ((visit.item, free) ∷ visit.moves)
  ends visits visit choices free r may e =
      let found = find_some (MayHave stash bins (get_or candidates visit.item []))
      (λ (choice : Slot). is_none (occupant slots choice.row)) choices free may e in
      (free.row, none_vacant slots free.row found.1, (refl, r.within, found.0, r.behind, r.chain))

  walk_seats : (fuel at : ℕ) (visits : List Visit) (moves : List (ℕ × Slot)) → AreReached visits
      → walk fuel candidates slots at visits ≡ Some moves → AreSeating moves
  unfolding walk
  walk_seats zero at visits moves r e = absurd (none-some moves e)
  walk_seats (suc more) at visits moves r e = option_and_then_some _ (slice_get visits at) moves e (λ visit is f.
      let here = r at visit is in
      ⊎_elim
      (λ ended. let free = map_some (λ (free : Slot). (visit.item, free) ∷ visit.moves)
      (first_free slots (choices_of candidates visit.item)) moves ended in
      subst AreSeating free.2 (ends visits visit (choices_of candidates visit.item) free.0 here
      (choices_may stash bins candidates visit.item) free.1))
      (λ later. walk_seats more (at + 1) (fold (led_to slots visit) visits (choices_of candidates visit.item)) moves
      (fold_reached visit (choices_of candidates visit.item) visits (choices_may stash bins candidates visit.item)
      (r, here)).0 later)
      (or_some _ _ moves f))

  -- moves that make room for an item that waits behind the stash
  pub room_seats : (item : ℕ) (moves : List (ℕ × Slot)) → item < length slots → row_of_item slots item ≡ bins + stash
      → room_for stash bins candidates slots (record { item = item; moves = [] }) ≡ Some moves → AreSeating moves
  unfolding room_for
  room_seats item moves l waits e =
      let waiting : Visit = record { item = item; moves = [] } in
      let here : IsReached (waiting ∷ []) waiting =
      record { within = l; behind = tt; chain = waits; met = met_new [] waiting; all_met = tt } in
      let alone : AreReached (waiting ∷ []) =
      λ k visit is. subst (IsReached (waiting ∷ [])) (only waiting k visit is) here in
      let may = stash_may stash bins (get_or candidates item []) bins stash (omega arith) (omega arith) in
      ⊎_elim
      (λ found. walk_seats (length slots) 0 (waiting ∷ []) moves alone found)
      (λ other. ⊎_elim
      (λ aside. let free = map_some (λ (free : Slot). (item, free) ∷ [])
      (first_free slots (stash_slots bins stash)) moves aside in
      subst AreSeating free.2 (ends (waiting ∷ []) waiting (stash_slots bins stash) free.0 here may free.1))
      (λ found. walk_seats (length slots) 0 (fold (led_to slots waiting) (waiting ∷ []) (stash_slots bins stash)) moves
      (fold_reached waiting (stash_slots bins stash) (waiting ∷ []) may (alone, here)).0 found)
      (or_some _ _ moves other))
      (or_some _ _ moves e)
    where
      only : (waiting : Visit) (k : ℕ) (visit : Visit) → slice_get (waiting ∷ []) k ≡ Some visit → waiting ≡ visit
      only waiting zero visit is = same_Some waiting visit is
      only waiting (suc k) visit is = absurd (none-some visit is)
