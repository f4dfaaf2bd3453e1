-- A crowded list leaves no placement: its items would have more rows than there are.
use Rattle.std.proofs.Common.{◌≡◌, ◌+◌, ◌-◌, ◌<◌, ◌≤◌, ◌||◌, ℕ, Bool, true, false, cond, List, [], zero, ◌∷◌, ◌++◌, length, map, get_or, Some, suc, refl, sym, ap, ◌∙◌, subst, arith, ⊎_elim, eq-eqb}
use Rattle.std.proofs.lemmas.Bool.{cases_eq, eqb-true, or_left, or_right, true≢false, false_from_ne_true}
use Rattle.std.specs.Prelude.{nat_eq, slice_get, Contains}
use Rattle.std.specs.List.{AllZip, IsDistinct, flat_map, range_with_len}
use Rattle.std.specs.Set.{unique_keys, is_member}
use Rattle.std.specs.Cmp.{unsigned_Decides}
use Rattle.std.proofs.lemmas.Cmp.{nat_eq_equiv}
use Rattle.std.proofs.lemmas.List.{length-map, get_or-map, length-append}
use Rattle.std.proofs.lemmas.List.FromFn.{length-range_with_len, get_or-range_with_len}
use Rattle.std.proofs.lemmas.List.Elements.{Contains-append_left, Contains-append_right}
use Rattle.std.proofs.lemmas.Option.{slice_get_within, get_or_from_slice_get}
use Rattle.std.proofs.lemmas.Map.Made.{length-le_from_is_member, is_member-Decides}
use Rattle.std.proofs.lemmas.Map.Keys.{IsDistinct-from_apart, apart_from_distinct, below_from_sorted, sorted_from_strictly_increasing}
use Rattle.psi_spec.specs.Placement.{MayHave, IsPlacement, Slot}
use Rattle.psi_spec.specs.CrowdedLists.{IsCrowded, named_bins}

-- the rows of these slots
abbrev rows_of : List Slot → List ℕ
rows_of slots = map (λ slot. slot.row) slots

second : (a b : Bool) → a ≡ false → (a || b) ≡ true → b ≡ true
second true b p h = absurd (true≢false p)
second false b p h = h

unique_step : (xs : List ℕ) (x q : ℕ) (b : Bool) → is_member nat_eq xs x ≡ b → (is_member nat_eq xs q ≡ true → is_member nat_eq (unique_keys nat_eq xs) q ≡ true) → (nat_eq q x || is_member nat_eq xs q) ≡ true → is_member nat_eq (cond b (unique_keys nat_eq xs) (x ∷ unique_keys nat_eq xs)) q ≡ true
unique_step xs x q true e ih h = ⊎_elim (λ p. ih (let P : ℕ → Type 0 = λ n. is_member nat_eq xs n ≡ true in subst P (sym p) e)) (λ ne. ih (second _ _ (false_from_ne_true _ (λ t. ne (eqb-true q x t))) h)) (cases_eq q x)
unique_step xs x q false e ih h = ⊎_elim (λ p. or_left _ _ (eq-eqb q x p)) (λ ne. or_right _ _ (ih (second _ _ (false_from_ne_true _ (λ t. ne (eqb-true q x t))) h))) (cases_eq q x)

-- what is in a list is in its list of unique keys
pub is_member-unique_keys : (xs : List ℕ) (q : ℕ) → is_member nat_eq xs q ≡ true → is_member nat_eq (unique_keys nat_eq xs) q ≡ true
is_member-unique_keys [] q h = h
is_member-unique_keys (x ∷ xs) q h = unique_step xs x q (is_member nat_eq xs x) refl (is_member-unique_keys xs q) h

-- the rows of these items
pub item_rows : List Slot → List ℕ → List ℕ
item_rows slots items = map (λ i. get_or (rows_of slots) i 0) items

length-item_rows : (slots : List Slot) (items : List ℕ) → length (item_rows slots items) ≡ length items
unfolding item_rows
length-item_rows slots items = length-map items (λ i. get_or (rows_of slots) i 0)

pub length_zip : {A B : Type 0} (R : A → B → Type 0) (xs : List A) (ys : List B) → AllZip R xs ys → length xs ≡ length ys
length_zip R [] [] h = refl
length_zip R [] (y ∷ ys) h = absurd h
length_zip R (x ∷ xs) [] h = absurd h
length_zip R (x ∷ xs) (y ∷ ys) h = ap suc (length_zip R xs ys h.1)

pub item_rows_apart : (slots : List Slot) (items : List ℕ) → IsDistinct nat_eq (rows_of slots) → ((k : ℕ) → k + 1 < length items → get_or items k 0 < get_or items (k + 1) 0) → ((k : ℕ) → k < length items → get_or items k 0 < length slots) → IsDistinct nat_eq (item_rows slots items)
unfolding item_rows
item_rows_apart slots items apart rising within =
    IsDistinct-from_apart nat_eq (item_rows slots items) (λ i j d l m.
    let n : j < length items = subst (λ (n : ℕ). j < n) (length-item_rows slots items) m in
    let up : get_or items i 0 < get_or items j 0 = below_from_sorted items i j 0 (sorted_from_strictly_increasing items rising) l n in
    let r = apart_from_distinct nat_eq (rows_of slots) (get_or items i 0) (get_or items j 0) 0 apart up (subst (λ (n : ℕ). get_or items j 0 < n) (sym (length-map slots (λ slot. slot.row))) (within j n)) in
    let li : i < length items = omega arith in
    let ei : get_or (item_rows slots items) i d ≡ get_or (rows_of slots) (get_or items i 0) 0 = get_or-map (λ i. get_or (rows_of slots) i 0) items i 0 d li in
    let ej : get_or (item_rows slots items) j d ≡ get_or (rows_of slots) (get_or items j 0) 0 = get_or-map (λ i. get_or (rows_of slots) i 0) items j 0 d n in
    rw (ei, ej) r)

pub Contains-flat_map : (f : ℕ → List ℕ) (xs : List ℕ) (k d b : ℕ) → k < length xs → Contains (f (get_or xs k d)) b → Contains (flat_map f xs) b
Contains-flat_map f [] k d b l h = absurd (omega arith)
Contains-flat_map f (x ∷ xs) zero d b l h = Contains-append_left (f x) (flat_map f xs) b h
Contains-flat_map f (x ∷ xs) (suc k) d b l h = Contains-append_right (f x) (flat_map f xs) b (Contains-flat_map f xs k d b (omega arith) h)

-- where an item's candidates name a bin, it is among what the items name
named_at : (candidates : List (List ℕ)) (items : List ℕ) (k n b : ℕ) → k < length items → slice_get (get_or candidates (get_or items k 0) []) n ≡ Some b → Contains (named_bins candidates items) b
named_at candidates items k n b l h =
    Contains-flat_map (λ i. get_or candidates i []) items k 0 b l (n, slice_get_within (get_or candidates (get_or items k 0) []) n b h, get_or_from_slice_get (get_or candidates (get_or items k 0) []) n b b h)

pub nowhere : Slot
nowhere = record { row = 0; index = 0 }

pub may_have_at : (stash bins : ℕ) (candidates : List (List ℕ)) (slots : List Slot) (i : ℕ) → AllZip (MayHave stash bins) candidates slots → i < length candidates → MayHave stash bins (get_or candidates i []) (get_or slots i nowhere)
may_have_at stash bins [] slots i each l = absurd (omega arith)
may_have_at stash bins (x ∷ xs) [] i each l = absurd each
may_have_at stash bins (x ∷ xs) (s ∷ ss) zero each l = each.0
may_have_at stash bins (x ∷ xs) (s ∷ ss) (suc i) each l = may_have_at stash bins xs ss i each.1 (omega arith)

Contains-unique_keys : (xs : List ℕ) (q : ℕ) → Contains xs q → Contains (unique_keys nat_eq xs) q
Contains-unique_keys xs q h = (is_member-Decides unsigned_Decides (unique_keys nat_eq xs) q).0 (is_member-unique_keys xs q ((is_member-Decides unsigned_Decides xs q).1 h))

in_stash : (stash bins r : ℕ) → bins ≤ r → r < bins + stash → Contains (range_with_len bins stash) r
in_stash stash bins r low high = (r - bins, omega (arith, length-range_with_len bins stash), get_or-range_with_len bins stash (r - bins) r (omega arith) ∙ omega arith)

row_is : (slots : List Slot) (items : List ℕ) (k d : ℕ) → k < length items → get_or items k 0 < length slots → get_or (item_rows slots items) k d ≡ (get_or slots (get_or items k 0) nowhere).row
unfolding item_rows
row_is slots items k d l m =
    get_or-map (λ i. get_or (rows_of slots) i 0) items k 0 d l ∙ get_or-map (λ (s : Slot). s.row) slots (get_or items k 0) nowhere 0 m

row_at : (stash bins : ℕ) (candidates : List (List ℕ)) (slots : List Slot) (items : List ℕ) → AllZip (MayHave stash bins) candidates slots → ((k : ℕ) → k < length items → get_or items k 0 < length candidates) → (k d : ℕ) → k < length items → Contains (unique_keys nat_eq (named_bins candidates items) ++ range_with_len bins stash) (get_or (item_rows slots items) k d)
row_at stash bins candidates slots items each within k d l =
    let i : ℕ = get_or items k 0 in
    let row : ℕ = (get_or slots i nowhere).row in
    let xs = unique_keys nat_eq (named_bins candidates items) in
    let same : get_or (item_rows slots items) k d ≡ row = row_is slots items k d l (subst (λ (n : ℕ). i < n) (length_zip _ candidates slots each) (within k l)) in
    let found : Contains (xs ++ range_with_len bins stash) row =
    ⊎_elim
    (λ h. Contains-append_right xs (range_with_len bins stash) row (in_stash stash bins row h.1 h.2))
    (λ h. Contains-append_left xs (range_with_len bins stash) row (Contains-unique_keys (named_bins candidates items) row (named_at candidates items k _ row l h.1)))
    (may_have_at stash bins candidates slots i each (within k l)) in
    subst (Contains (xs ++ range_with_len bins stash)) (sym same) found

pub row_in : (stash bins : ℕ) (candidates : List (List ℕ)) (slots : List Slot) (items : List ℕ) → AllZip (MayHave stash bins) candidates slots → ((k : ℕ) → k < length items → get_or items k 0 < length candidates) → (q : ℕ) → is_member nat_eq (item_rows slots items) q ≡ true → is_member nat_eq (unique_keys nat_eq (named_bins candidates items) ++ range_with_len bins stash) q ≡ true
row_in stash bins candidates slots items each within q h =
    let found : Contains (item_rows slots items) q = (is_member-Decides unsigned_Decides (item_rows slots items) q).0 h in
    (is_member-Decides unsigned_Decides (unique_keys nat_eq (named_bins candidates items) ++ range_with_len bins stash) q).1
    (subst (Contains (unique_keys nat_eq (named_bins candidates items) ++ range_with_len bins stash)) found.2
    (row_at stash bins candidates slots items each within found.0 q (subst (λ (n : ℕ). found.0 < n) (length-item_rows slots items) found.1)))

pub no_placement : (stash bins : ℕ) (candidates : List (List ℕ)) (items : List ℕ) (slots : List Slot) → IsCrowded stash candidates items → IsPlacement stash bins candidates slots → ⊥
no_placement stash bins candidates items slots crowded placement =
    let within : (k : ℕ) → k < length items → get_or items k 0 < length candidates = λ k l. crowded.within k 0 l in
    let long : length candidates ≡ length slots = length_zip _ candidates slots placement.each in
    let apart = item_rows_apart slots items placement.apart crowded.rising (λ k l. subst (λ (n : ℕ). get_or items k 0 < n) long (within k l)) in
    let few = length-le_from_is_member nat_eq_equiv (item_rows slots items) (unique_keys nat_eq (named_bins candidates items) ++ range_with_len bins stash) apart (row_in stash bins candidates slots items placement.each within) in
    omega (arith, few, crowded.many, length-item_rows slots items, length-append (unique_keys nat_eq (named_bins candidates items)) (range_with_len bins stash), length-range_with_len bins stash)
