-- The items that a set's keys hold.
use Rattle.std.proofs.Common.{◌≡◌, ℕ, ◌+◌, ◌<◌, List, [], ◌∷◌, ◌++◌, map, Bool, ◌&&◌, nat_eq, true, false, not, cond, Some, None, nat_lt, length, refl, ap, ap₂, sym, subst, ◌↔◌, ◌∙◌, Vec, Global, get_or, slice_get, position, Contains, arith}
use Rattle.std.specs.List.{prefix_len, list_any, IsDistinct}
use Rattle.std.specs.Str.{bytes_eq}
use Rattle.std.proofs.lemmas.List.{length-map, map-append, length_push, get_or-map}
use Rattle.std.proofs.lemmas.List.Elements.{All-get_or, All-push, All-nil}
use Rattle.std.proofs.lemmas.Map.Keys.{IsDistinct-push}
use Rattle.std.proofs.lemmas.Map.Views.{list_any-from_Contains, Contains-from_any}
use Rattle.std.proofs.lemmas.Cmp.{nat_list_eq_equiv}
use Rattle.std.proofs.lemmas.Slice.Eq.{bytes_eq-Decides}
use Rattle.std.proofs.lemmas.Option.{slice_get_within, get_or_from_slice_get}
use Rattle.std.proofs.lemmas.Bool.{le-ltb, ne_eqb, eq-eqb}
use Rattle.psi_spec.specs.Items.{is_long, is_too_many, fault_of_item}
use Rattle.psi_spec.specs.Limits.{limit_items, line_limit}
use Rattle.psi_spec.proofs.Lists.{list_any-map}
use Rattle.psi_items.specs.Members.{IsItem, AreItems}
use Rattle.psi_items.specs.Reading.{with_item}

-- the bytes of each key
abbrev pub items_in : List (Vec ℕ Global) → List (List ℕ)
items_in keys = map (λ (v : Vec ℕ Global). v.items) keys

prefix_len-map : {A B : Type 0} (f : A → B) (p : B → Bool) (xs : List A) → prefix_len (λ x. p (f x)) xs ≡ prefix_len p (map f xs)
prefix_len-map f p [] = refl
prefix_len-map f p (x ∷ xs) = ap (λ n. cond (p (f x)) (1 + n) 0) (prefix_len-map f p xs)

-- the first place that passes, in the list of what f gives
pub position-map : {A B : Type 0} (f : A → B) (p : B → Bool) (xs : List A) → position (λ x. p (f x)) xs ≡ position p (map f xs)
position-map f p xs = ap₂ (λ (n m : ℕ). cond (nat_lt n m) (Some n) None) (prefix_len-map f (λ y. not (p y)) xs) (sym (length-map xs f))

-- no items
pub AreItems-nil : AreItems []
unfolding IsDistinct
AreItems-nil = record { few = omega arith; distinct = tt; each = All-nil IsItem }

-- one item more
pub AreItems-push : (items : List (List ℕ)) (item : List ℕ) → AreItems items → IsItem item → list_any (bytes_eq item) items ≡ false → (length items ≡ limit_items → ⊥) → AreItems (items ++ item ∷ [])
AreItems-push items item held fine absent room = record {
  few = let n : length (items ++ item ∷ []) ≡ length items + 1 = length_push items item in let few = held.few in omega arith;
  distinct = IsDistinct-push nat_list_eq_equiv items item held.distinct absent;
  each = All-push IsItem items item held.each fine;
}

-- the item at a place of the keys
pub IsItem-at : (keys : List (Vec ℕ Global)) (i : ℕ) (v : Vec ℕ Global) → AreItems (items_in keys) → Some v ≡ slice_get keys i → IsItem v.items
IsItem-at keys i v held at =
    let within : i < length keys = slice_get_within keys i v (sym at) in
    let within_items : i < length (items_in keys) = rw length-map within in
    let here : get_or (items_in keys) i v.items ≡ v.items =
    get_or-map (λ (w : Vec ℕ Global). w.items) keys i v v.items within ∙ ap (λ (w : Vec ℕ Global). w.items) (get_or_from_slice_get keys i v v (sym at)) in
    subst IsItem here (All-get_or IsItem (items_in keys) i v.items within_items held.each)

-- the test of the items tells whether one is among them
pub Contains-from_test : (items : List (List ℕ)) (item : List ℕ) (found : Bool) → found ≡ list_any (bytes_eq item) items → (found ≡ true) ↔ Contains items item
Contains-from_test items item found test = (
  λ yes. Contains-from_any (λ x y. (bytes_eq-Decides x y).0) item items (sym test ∙ yes),
  λ there. test ∙ list_any-from_Contains nat_list_eq_equiv item items there,
)

-- a test of the items by a test of the keys
pub list_any-keys : (keys : List (Vec ℕ Global)) (items : List (List ℕ)) (item : List ℕ) → items_in keys ≡ items → list_any (λ (v : Vec ℕ Global). bytes_eq item v.items) keys ≡ list_any (bytes_eq item) items
list_any-keys keys items item view = sym (list_any-map (bytes_eq item) (λ (v : Vec ℕ Global). v.items) keys) ∙ ap (list_any (bytes_eq item)) view

-- a place among the items by a place among the keys
pub position-keys : (keys : List (Vec ℕ Global)) (items : List (List ℕ)) (item : List ℕ) → items_in keys ≡ items → position (λ (v : Vec ℕ Global). bytes_eq item v.items) keys ≡ position (bytes_eq item) items
position-keys keys items item view = position-map (λ (v : Vec ℕ Global). v.items) (bytes_eq item) keys ∙ ap (position (bytes_eq item)) view

-- the fault of an item of 1 to 256 bytes: only that it may be one too many
fault_of_item-fine : (items : List (List ℕ)) (item : List ℕ) → IsItem item
    → fault_of_item items item ≡ cond (not (list_any (bytes_eq item) items) && nat_eq (length items) limit_items) (Some is_too_many) None
fault_of_item-fine items item fine =
    let short : nat_lt line_limit (length item) ≡ false = le-ltb line_limit (length item) fine.short in
    let some : nat_eq (length item) 0 ≡ false = ne_eqb (length item) 0 (λ none. absurd (omega (arith, fine.some, none))) in
    ap₂ (λ (long empty : Bool). cond long (Some (is_long (length item))) (cond (not empty && (not (list_any (bytes_eq item) items) && nat_eq (length items) limit_items)) (Some is_too_many) None)) short some

-- adding an item that is there
pub added-repeat : (items : List (List ℕ)) (item : List ℕ) → IsItem item → list_any (bytes_eq item) items ≡ true
    → (fault_of_item items item ≡ None) × (items ≡ with_item items item)
added-repeat items item fine there = (
  fault_of_item-fine items item fine ∙ ap (λ (b : Bool). cond (not b && nat_eq (length items) limit_items) (Some is_too_many) None) there,
  sym (ap (λ (b : Bool). cond b items (items ++ item ∷ [])) there),
)

-- adding an item that is not there, where there is room for it
pub added-new : (items : List (List ℕ)) (item : List ℕ) → IsItem item → list_any (bytes_eq item) items ≡ false → (length items ≡ limit_items → ⊥)
    → (fault_of_item items item ≡ None) × (items ++ item ∷ [] ≡ with_item items item)
added-new items item fine absent room = (
  fault_of_item-fine items item fine ∙ ap₂ (λ (among full : Bool). cond (not among && full) (Some is_too_many) None) absent (ne_eqb (length items) limit_items room),
  sym (ap (λ (b : Bool). cond b items (items ++ item ∷ [])) absent),
)

-- adding an item that is not there, where there is none
pub refused-full : (items : List (List ℕ)) (item : List ℕ) → IsItem item → list_any (bytes_eq item) items ≡ false → length items ≡ limit_items
    → fault_of_item items item ≡ Some is_too_many
refused-full items item fine absent full =
    fault_of_item-fine items item fine ∙ ap₂ (λ (among many : Bool). cond (not among && many) (Some is_too_many) None) absent (eq-eqb (length items) limit_items full)

-- the items of the keys after an insertion of a new one
pub items_in-inserted : (keys : List (Vec ℕ Global)) (v : Vec ℕ Global) (item : List ℕ) → v.items ≡ item → list_any (bytes_eq item) (items_in keys) ≡ false
    → items_in (cond (list_any (λ (w : Vec ℕ Global). bytes_eq v.items w.items) keys) keys (keys ++ v ∷ [])) ≡ items_in keys ++ item ∷ []
items_in-inserted keys v item same absent =
    let bytes : Vec ℕ Global → List ℕ = λ w. w.items in
    let new : list_any (λ (w : Vec ℕ Global). bytes_eq v.items w.items) keys ≡ false =
    sym (list_any-map (bytes_eq v.items) bytes keys) ∙ ap (λ x. list_any (bytes_eq x) (items_in keys)) same ∙ absent in
    ap (λ (b : Bool). items_in (cond b keys (keys ++ v ∷ []))) new ∙ map-append bytes keys (v ∷ []) ∙ ap (λ x. items_in keys ++ x ∷ []) same

-- as many items as keys
pub length-view : (keys : List (Vec ℕ Global)) (items : List (List ℕ)) → items_in keys ≡ items → length items ≡ length keys
length-view keys items view = ap length (sym view) ∙ length-map keys (λ (v : Vec ℕ Global). v.items)
