-- Items in their slots: the word of each item's row, and the placement of items in the stash.
use Rattle.std.proofs.Common.{◌≡◌, ◌≢◌, ◌+◌, ◌-◌, ◌*◌, ◌<◌, ◌≤◌, inl, inr, ℕ, suc, zero, Bool, true, false, cond, List, [], ◌∷◌, ◌++◌, length, map, take, drop, codes, All, get_or, Contains, Some, nat_eq, slice_get, refl, sym, ap, ◌∙◌, subst, arith, eq-eqb}
use Rattle.std.specs.List.{AllZip, AllByRecursion, IsDistinct}
use Rattle.std.proofs.lemmas.Bool.{ne_eqb, eqb-true, false≢true}
use Rattle.std.proofs.lemmas.List.Elements.{All-from_recursion, Contains-get_or}
use Rattle.std.proofs.lemmas.Nat.{mod_below}
use Rattle.std.proofs.lemmas.Option.{slice_get_within}
use Rattle.std.specs.Int.{w64, from_be_bytes}
use Rattle.sha2.specs.Sha256.{sha256}
use Rattle.std.proofs.lemmas.Map.Keys.{IsDistinct-head, IsDistinct-tail}
use Rattle.psi_spec.specs.Bits.{zero_word}
use Rattle.psi_spec.specs.Formulas.{bin, code, item_digest}
use Rattle.psi_spec.specs.Placement.{Slot, MayHave, IsPlacement, IsPlacementOf, candidates_of, stash_slots}
use Rattle.psi_spec.specs.Meeting.{Placed, placed_of, row_word}
use Rattle.psi_spec.proofs.Lists.{Contains-here, Contains-later}
use Rattle.psi_spec.proofs.Sizes.{length-zero_word, length-code}

-- ---- items and their slots

pub items_of-placed_of : (items : List (List ℕ)) (slots : List Slot) → length items ≡ length slots → map (λ p. p.item) (placed_of items slots) ≡ items
items_of-placed_of [] slots l = refl
items_of-placed_of (x ∷ items) [] l = absurd (omega arith)
items_of-placed_of (x ∷ items) (slot ∷ slots) l = ap (λ (rest : List (List ℕ)). x ∷ rest) (items_of-placed_of items slots (omega arith))

pub slots_of-placed_of : (items : List (List ℕ)) (slots : List Slot) → length items ≡ length slots → map (λ p. p.slot) (placed_of items slots) ≡ slots
slots_of-placed_of [] [] l = refl
slots_of-placed_of [] (slot ∷ slots) l = absurd (omega arith)
slots_of-placed_of (x ∷ items) [] l = absurd (omega arith)
slots_of-placed_of (x ∷ items) (slot ∷ slots) l = ap (λ (rest : List Slot). slot ∷ rest) (slots_of-placed_of items slots (omega arith))

pub length-placed_of : (items : List (List ℕ)) (slots : List Slot) → length items ≡ length slots → length (placed_of items slots) ≡ length items
length-placed_of [] slots l = refl
length-placed_of (x ∷ items) [] l = absurd (omega arith)
length-placed_of (x ∷ items) (slot ∷ slots) l = ap suc (length-placed_of items slots (omega arith))

pub get_or-placed_of : (items : List (List ℕ)) (slots : List Slot) (i : ℕ) (x : List ℕ) (slot : Slot) (d : Placed) → i < length items → i < length slots → get_or (placed_of items slots) i d ≡ record { item = get_or items i x; slot = get_or slots i slot }
get_or-placed_of [] slots i x slot d l m = absurd (omega arith)
get_or-placed_of (y ∷ items) [] i x slot d l m = absurd (omega arith)
get_or-placed_of (y ∷ items) (s ∷ slots) zero x slot d l m = refl
get_or-placed_of (y ∷ items) (s ∷ slots) (suc i) x slot d l m = get_or-placed_of items slots i x slot d (omega arith) (omega arith)

pub take-placed_of : (n : ℕ) (items : List (List ℕ)) (slots : List Slot) → take n (placed_of items slots) ≡ placed_of (take n items) (take n slots)
take-placed_of zero items slots = refl
take-placed_of (suc n) [] slots = refl
take-placed_of (suc n) (x ∷ items) [] = refl
take-placed_of (suc n) (x ∷ items) (slot ∷ slots) = ap (λ (rest : List Placed). record { item = x; slot = slot } ∷ rest) (take-placed_of n items slots)

-- ---- the words of rows

pub length-row_word : (key : List ℕ) (placed : List Placed) (row : ℕ) → length (row_word key placed row) ≡ 64
length-row_word key [] row = length-zero_word
length-row_word key (p ∷ placed) row = by_case (nat_eq p.slot.row row) (length-row_word key placed row)
  where
    by_case : (b : Bool) → length (row_word key placed row) ≡ 64 → length (cond b (code key p.slot.index (item_digest p.item)) (row_word key placed row)) ≡ 64
    by_case true later = length-code key p.slot.index (item_digest p.item)
    by_case false later = later

-- the word of a row at which no item is placed
pub row_word_of_none : (key : List ℕ) (placed : List Placed) (row : ℕ) → ((p : Placed) → Contains placed p → p.slot.row ≢ row) → row_word key placed row ≡ zero_word
row_word_of_none key [] row none = refl
row_word_of_none key (p ∷ placed) row none =
    let differs : nat_eq p.slot.row row ≡ false = ne_eqb p.slot.row row (none p (Contains-here p placed)) in
    rw differs (row_word_of_none key placed row (λ q h. none q (Contains-later p placed q h)))

-- no two placed items have one row
abbrev pub AreApart : List Placed → Type 0
AreApart placed = IsDistinct nat_eq (map (λ slot. slot.row) (map (λ p. p.slot) placed))

differs_from_later : (row : ℕ) (placed : List Placed) (p : Placed) → AllByRecursion (λ y. nat_eq row y ≡ false) (map (λ slot. slot.row) (map (λ p. p.slot) placed)) → Contains placed p → nat_eq row p.slot.row ≡ false
differs_from_later row [] p all (k, l, e) = absurd (omega arith)
differs_from_later row (q ∷ placed) p all (zero, l, e) = subst (λ (z : Placed). nat_eq row z.slot.row ≡ false) e all.0
differs_from_later row (q ∷ placed) p all (suc k, l, e) = differs_from_later row placed p all.1 (k, omega arith, e)

-- the word of a placed item's row is its code
pub row_word_of_placed : (key : List ℕ) (placed : List Placed) (p : Placed) → AreApart placed → Contains placed p → row_word key placed p.slot.row ≡ code key p.slot.index (item_digest p.item)
row_word_of_placed key [] p apart (k, l, e) = absurd (omega arith)
row_word_of_placed key (q ∷ placed) p apart (zero, l, e) =
    subst (λ (z : Placed). row_word key (q ∷ placed) z.slot.row ≡ code key z.slot.index (item_digest z.item)) e
    (let same : nat_eq q.slot.row q.slot.row ≡ true = eq-eqb q.slot.row q.slot.row refl in rw same refl)
row_word_of_placed key (q ∷ placed) p apart (suc k, l, e) =
    let later : Contains placed p = (k, omega arith, e) in
    let rows : List ℕ = map (λ slot. slot.row) (map (λ (p : Placed). p.slot) placed) in
    let differs : nat_eq q.slot.row p.slot.row ≡ false = differs_from_later q.slot.row placed p (IsDistinct-head nat_eq q.slot.row rows apart) later in
    rw differs (row_word_of_placed key placed p (IsDistinct-tail nat_eq q.slot.row rows apart) later)

row_word_step : (b e : Bool) (c d a a' : List ℕ) → a ≡ cond b c a' → (b ≡ true → e ≡ false) → cond e d a ≡ cond b c (cond e d a')
row_word_step true true c d a a' h apart = absurd (false≢true (sym (apart refl)))
row_word_step true false c d a a' h apart = h
row_word_step false true c d a a' h apart = refl
row_word_step false false c d a a' h apart = h

-- one more placed item, as at a step of a loop
pub row_word-more : (key : List ℕ) (placed : List Placed) (i : ℕ) (d : Placed) (row : ℕ) → AreApart placed → i < length placed
    → row_word key (take (i + 1) placed) row ≡ cond (nat_eq (get_or placed i d).slot.row row) (code key (get_or placed i d).slot.index (item_digest (get_or placed i d).item)) (row_word key (take i placed) row)
row_word-more key [] i d row apart l = absurd (omega arith)
row_word-more key (p ∷ placed) zero d row apart l = refl
row_word-more key (p ∷ placed) (suc i) d row apart l =
    let q : Placed = get_or placed i d in
    let rows : List ℕ = map (λ slot. slot.row) (map (λ (p : Placed). p.slot) placed) in
    let count : suc i + 1 ≡ suc (i + 1) = omega arith in
    let within : i < length placed = omega arith in
    let differs : nat_eq p.slot.row q.slot.row ≡ false = differs_from_later p.slot.row placed q (IsDistinct-head nat_eq p.slot.row rows apart) (Contains-get_or placed i d within) in
    ap (λ (n : ℕ). row_word key (take n (p ∷ placed)) row) count
    ∙ row_word_step (nat_eq q.slot.row row) (nat_eq p.slot.row row) (code key q.slot.index (item_digest q.item)) (code key p.slot.index (item_digest p.item)) (row_word key (take (i + 1) placed) row) (row_word key (take i placed) row)
    (row_word-more key placed i d row (IsDistinct-tail nat_eq p.slot.row rows apart) within)
    (λ same. ap (nat_eq p.slot.row) (sym (eqb-true q.slot.row row same)) ∙ differs)

-- ---- what an item's slot is

bin_from_candidate : (key : List ℕ) (bins : ℕ) (digest : List ℕ) (j index row : ℕ) → suc j ≡ index → slice_get (bin key bins 1 digest ∷ bin key bins 2 digest ∷ bin key bins 3 digest ∷ []) j ≡ Some row → bin key bins index digest ≡ row
bin_from_candidate key bins digest zero index row e h = ap (λ (i : ℕ). bin key bins i digest) (sym e) ∙ cc
bin_from_candidate key bins digest (suc zero) index row e h = ap (λ (i : ℕ). bin key bins i digest) (sym e) ∙ cc
bin_from_candidate key bins digest (suc (suc zero)) index row e h = ap (λ (i : ℕ). bin key bins i digest) (sym e) ∙ cc
bin_from_candidate key bins digest (suc (suc (suc j))) index row e h = cc

-- a slot that is not of the stash is the item's own bin
pub bin_of_slot : (stash : ℕ) (key : List ℕ) (bins : ℕ) (item : List ℕ) (slot : Slot) → MayHave stash bins (candidates_of key bins item) slot → 0 < slot.index → bin key bins slot.index (item_digest item) ≡ slot.row
bin_of_slot stash key bins item slot (inl h) l = absurd (omega arith)
bin_of_slot stash key bins item slot (inr h) l = bin_from_candidate key bins (item_digest item) (slot.index - 1) slot.index slot.row (omega arith) h.1

-- a placed item may have its slot
pub may_have_of_placed : (stash : ℕ) (key : List ℕ) (bins : ℕ) (placed : List Placed) (p : Placed) → AllZip (MayHave stash bins) (map (candidates_of key bins) (map (λ p. p.item) placed)) (map (λ p. p.slot) placed) → Contains placed p → MayHave stash bins (candidates_of key bins p.item) p.slot
may_have_of_placed stash key bins [] p each (k, l, e) = absurd (omega arith)
may_have_of_placed stash key bins (q ∷ placed) p each (zero, l, e) = subst (λ (z : Placed). MayHave stash bins (candidates_of key bins z.item) z.slot) e each.0
may_have_of_placed stash key bins (q ∷ placed) p each (suc k, l, e) = may_have_of_placed stash key bins placed p each.1 (k, omega arith, e)

pub bin-lt : (key : List ℕ) (bins index : ℕ) (digest : List ℕ) → 0 < bins → bin key bins index digest < bins
unfolding bin
bin-lt key bins index digest l = mod_below (from_be_bytes w64 (take 8 (drop (8 * (index - 1)) (sha256 (codes "psi-bins" ++ key ++ digest))))) bins l

-- the row and the index of a slot that an item may have are within bounds
pub slot_within : (stash : ℕ) (key : List ℕ) (bins : ℕ) (item : List ℕ) (slot : Slot) → 0 < bins → MayHave stash bins (candidates_of key bins item) slot → (slot.row < bins + stash) × (slot.index ≤ 3)
slot_within stash key bins item slot l (inl h) = (h.2, omega arith)
slot_within stash key bins item slot l (inr h) =
    let own : bin key bins slot.index (item_digest item) ≡ slot.row = bin_of_slot stash key bins item slot (inr h) h.0 in
    (omega (arith, bin-lt key bins slot.index (item_digest item) l), omega (arith, slice_get_within (candidates_of key bins item) (slot.index - 1) slot.row h.1))

each_within : (stash : ℕ) (key : List ℕ) (bins : ℕ) (items : List (List ℕ)) (slots : List Slot) → 0 < bins → AllZip (MayHave stash bins) (map (candidates_of key bins) items) slots → AllByRecursion (λ slot. (slot.row < bins + stash) × (slot.index ≤ 3)) slots
each_within stash key bins [] [] l each = tt
each_within stash key bins [] (slot ∷ slots) l each = absurd each
each_within stash key bins (x ∷ items) [] l each = absurd each
each_within stash key bins (x ∷ items) (slot ∷ slots) l each = (slot_within stash key bins x slot l each.0, each_within stash key bins items slots l each.1)

pub placement_within : (stash : ℕ) (key : List ℕ) (bins : ℕ) (items : List (List ℕ)) (slots : List Slot) → 0 < bins → IsPlacementOf stash key bins items slots → All (λ slot. (slot.row < bins + stash) × (slot.index ≤ 3)) slots
placement_within stash key bins items slots l placement = All-from_recursion (λ slot. (slot.row < bins + stash) × (slot.index ≤ 3)) slots (each_within stash key bins items slots l placement.each)

-- ---- the stash

pub length-stash_slots : (row n : ℕ) → length (stash_slots row n) ≡ n
length-stash_slots row zero = refl
length-stash_slots row (suc n) = ap suc (length-stash_slots (row + 1) n)

pub get_or-stash_slots : (row n i : ℕ) (d : Slot) → i < n → get_or (stash_slots row n) i d ≡ record { row = row + i; index = 0 }
get_or-stash_slots row zero i d l = absurd (omega arith)
get_or-stash_slots row (suc n) zero d l = let e : row ≡ row + 0 = omega arith in ap (λ (r : ℕ). record { row = r; index = 0 }) e
get_or-stash_slots row (suc n) (suc i) d l =
    let e : row + 1 + i ≡ row + suc i = omega arith in
    get_or-stash_slots (row + 1) n i d (omega arith) ∙ ap (λ (r : ℕ). record { row = r; index = 0 }) e

-- one more slot, as at a step of a loop
pub stash_slots-more : (row n : ℕ) → stash_slots row (n + 1) ≡ stash_slots row n ++ record { row = row + n; index = 0 } ∷ []
stash_slots-more row zero = let e : row ≡ row + 0 = omega arith in ap (λ (r : ℕ). record { row = r; index = 0 } ∷ []) e
stash_slots-more row (suc n) =
    let count : suc n + 1 ≡ suc (n + 1) = omega arith in
    let e : row + 1 + n ≡ row + suc n = omega arith in
    ap (stash_slots row) count
    ∙ (ap (λ (rest : List Slot). record { row = row; index = 0 } ∷ rest) (stash_slots-more (row + 1) n)
    ∙ ap (λ (r : ℕ). record { row = row; index = 0 } ∷ stash_slots (row + 1) n ++ record { row = r; index = 0 } ∷ []) e)

rows_from : (low row n : ℕ) → low < row → AllByRecursion (λ y. nat_eq low y ≡ false) (map (λ slot. slot.row) (stash_slots row n))
rows_from low row zero l = tt
rows_from low row (suc n) l = (ne_eqb low row (λ e. omega arith), rows_from low (row + 1) n (omega arith))

pub stash_slots_apart : (row n : ℕ) → IsDistinct nat_eq (map (λ slot. slot.row) (stash_slots row n))
unfolding IsDistinct
stash_slots_apart row zero = tt
stash_slots_apart row (suc n) = (rows_from row (row + 1) n (omega arith), stash_slots_apart (row + 1) n)

pub stash_slots_each : (stash bins row : ℕ) (candidates : List (List ℕ)) → bins ≤ row → row + length candidates ≤ bins + stash → AllZip (MayHave stash bins) candidates (stash_slots row (length candidates))
stash_slots_each stash bins row [] low high = tt
stash_slots_each stash bins row (c ∷ candidates) low high = (inl (refl, low, omega arith), stash_slots_each stash bins (row + 1) candidates (omega arith) (omega arith))

-- items that the stash can hold are placed there
pub stash_slots_placement : (stash bins : ℕ) (candidates : List (List ℕ)) → length candidates ≤ stash → IsPlacement stash bins candidates (stash_slots bins (length candidates))
stash_slots_placement stash bins candidates l = record {
  each = stash_slots_each stash bins bins candidates (omega arith) (omega arith);
  apart = stash_slots_apart bins (length candidates);
}
