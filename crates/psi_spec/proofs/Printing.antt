-- What is shown, in terms of a flag for each of the receiver's items.
use Rattle.std.proofs.Common.{◌≡◌, ◌+◌, ◌<◌, ℕ, suc, zero, Bool, true, false, cond, List, [], ◌∷◌, ◌++◌, length, map, filter, take, get_or, refl, sym, ap, ◌∙◌, arith}
use Rattle.std.specs.List.{list_any}
use Rattle.std.proofs.lemmas.List.Concat.{flat_map-append}
use Rattle.std.proofs.lemmas.List.{append-nil}
use Rattle.psi_spec.specs.Placement.{Slot}
use Rattle.psi_spec.specs.Meeting.{Placed, Setup, placed_of, meets, is_shown, shown}
use Rattle.psi_spec.specs.Texts.{lines_text}
use Rattle.psi_spec.proofs.Placing.{items_of-placed_of}

-- the elements whose flag is true
abbrev pub flagged : {A : Type 0} → List Bool → List A → List A
flagged [] xs = []
flagged (flag ∷ flags) [] = []
flagged (flag ∷ flags) (x ∷ xs) = cond flag (x ∷ flagged flags xs) (flagged flags xs)

-- a flag for each slot: whether its item meets some item of the sender
abbrev pub flags_of : Setup → List (List ℕ) → List Slot → List Bool
flags_of s ys slots = map (λ slot. list_any (meets s slot) ys) slots

filter_by_flags : {A : Type 0} (test : A → Bool) (xs : List A) → filter test xs ≡ flagged (map test xs) xs
filter_by_flags test [] = refl
filter_by_flags {A = A} test (x ∷ xs) = by_case (test x) (filter_by_flags test xs)
  where
    by_case : (b : Bool) → filter test xs ≡ flagged (map test xs) xs → cond b (x ∷ filter test xs) (filter test xs) ≡ cond b (x ∷ flagged (map test xs) xs) (flagged (map test xs) xs)
    by_case true later = ap (λ (rest : List A). x ∷ rest) later
    by_case false later = later

map-flagged : {A B : Type 0} (f : A → B) (flags : List Bool) (xs : List A) → map f (flagged flags xs) ≡ flagged flags (map f xs)
map-flagged f [] xs = refl
map-flagged f (flag ∷ flags) [] = refl
map-flagged {B = B} f (true ∷ flags) (x ∷ xs) = ap (λ (rest : List B). f x ∷ rest) (map-flagged f flags xs)
map-flagged f (false ∷ flags) (x ∷ xs) = map-flagged f flags xs

flags_of_placed : (s : Setup) (ys items : List (List ℕ)) (slots : List Slot) → length items ≡ length slots → map (is_shown s ys) (placed_of items slots) ≡ flags_of s ys slots
flags_of_placed s ys [] [] l = refl
flags_of_placed s ys [] (slot ∷ slots) l = absurd (omega arith)
flags_of_placed s ys (x ∷ items) [] l = absurd (omega arith)
flags_of_placed s ys (x ∷ items) (slot ∷ slots) l = ap (λ (rest : List Bool). list_any (meets s slot) ys ∷ rest) (flags_of_placed s ys items slots (omega arith))

-- what is shown are the items whose slot has a true flag
pub shown_by_flags : (s : Setup) (ys items : List (List ℕ)) (slots : List Slot) → length items ≡ length slots → s.placed ≡ placed_of items slots → shown s ys ≡ flagged (flags_of s ys slots) items
unfolding shown
shown_by_flags s ys items slots l e =
    ap (λ (placed : List Placed). map (λ (p : Placed). p.item) (filter (is_shown s ys) placed)) e
    ∙ (ap (map (λ (p : Placed). p.item)) (filter_by_flags (is_shown s ys) (placed_of items slots))
    ∙ (map-flagged (λ (p : Placed). p.item) (map (is_shown s ys) (placed_of items slots)) (placed_of items slots)
    ∙ (ap (λ (flags : List Bool). flagged flags (map (λ (p : Placed). p.item) (placed_of items slots))) (flags_of_placed s ys items slots l)
    ∙ ap (flagged (flags_of s ys slots)) (items_of-placed_of items slots l))))

-- one more element and its flag, as at a step of a loop
pub flagged-more : {A : Type 0} (flags : List Bool) (xs : List A) (i : ℕ) (flag : Bool) (d : A) → i < length flags → i < length xs → flagged (take (i + 1) flags) (take (i + 1) xs) ≡ flagged (take i flags) (take i xs) ++ cond (get_or flags i flag) (get_or xs i d ∷ []) []
flagged-more [] xs i flag d l m = absurd (omega arith)
flagged-more (b ∷ flags) [] i flag d l m = absurd (omega arith)
flagged-more (b ∷ flags) (x ∷ xs) zero flag d l m = refl
flagged-more {A = A} (b ∷ flags) (x ∷ xs) (suc i) flag d l m =
    let count : suc i + 1 ≡ suc (i + 1) = omega arith in
    ap (λ (n : ℕ). flagged (take n (b ∷ flags)) (take n (x ∷ xs))) count ∙ by_case b (flagged-more flags xs i flag d (omega arith) (omega arith))
  where
    last : List A
    last = cond (get_or flags i flag) (get_or xs i d ∷ []) []

    by_case : (b : Bool) → flagged (take (i + 1) flags) (take (i + 1) xs) ≡ flagged (take i flags) (take i xs) ++ last
        → cond b (x ∷ flagged (take (i + 1) flags) (take (i + 1) xs)) (flagged (take (i + 1) flags) (take (i + 1) xs)) ≡ cond b (x ∷ flagged (take i flags) (take i xs)) (flagged (take i flags) (take i xs)) ++ last
    by_case true later = ap (λ (rest : List A). x ∷ rest) later
    by_case false later = later

-- the text of one more item
pub lines_text-push : (items : List (List ℕ)) (item : List ℕ) → lines_text (items ++ item ∷ []) ≡ lines_text items ++ (item ++ 10 ∷ [])
lines_text-push items item =
    flat_map-append (λ item. item ++ 10 ∷ []) items (item ∷ []) ∙ ap (λ (rest : List ℕ). lines_text items ++ rest) (append-nil (item ++ 10 ∷ []))

-- the text of the flagged items, one item on
pub lines_text-flagged_more : (flags : List Bool) (items : List (List ℕ)) (i : ℕ) (flag : Bool) (d : List ℕ) → i < length flags → i < length items
    → lines_text (flagged (take (i + 1) flags) (take (i + 1) items)) ≡ lines_text (flagged (take i flags) (take i items)) ++ cond (get_or flags i flag) (get_or items i d ++ 10 ∷ []) []
lines_text-flagged_more flags items i flag d l m =
    ap lines_text (flagged-more flags items i flag d l m) ∙ by_case (get_or flags i flag)
  where
    before : List (List ℕ)
    before = flagged (take i flags) (take i items)

    by_case : (b : Bool) → lines_text (before ++ cond b (get_or items i d ∷ []) []) ≡ lines_text before ++ cond b (get_or items i d ++ 10 ∷ []) []
    by_case true = lines_text-push before (get_or items i d)
    by_case false = ap lines_text (append-nil before) ∙ sym (append-nil (lines_text before))
