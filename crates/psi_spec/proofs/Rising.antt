-- Sorting: a rising list with the elements of another is that list sorted, whatever its order was.
use Rattle.std.proofs.Common.{◌≡◌, ◌+◌, ◌<◌, ◌≤◌, ℕ, suc, zero, Bool, true, false, cond, List, [], ◌∷◌, ◌++◌, length, get_or, sum_by, nat_cmp, is_lt, Ordering, Less, Equal, Greater, IsPermutation, IsSorted, refl, sym, ap, ◌∙◌, subst, arith}
use Rattle.std.specs.List.{AllByRecursion}
use Rattle.std.specs.Str.{bytes_eq}
use Rattle.std.specs.Cmp.{IsStrictWeakOrder}
use Rattle.std.specs.Cmp.Lexicographic.{slice_cmp}
use Rattle.std.specs.Ordering.{ordering_reverse}
use Rattle.std.proofs.lemmas.Cmp.{nat_list_cmp_total}
use Rattle.std.proofs.lemmas.List.Sorted.{length_permutation, IsPermutation-refl, IsPermutation-trans, IsPermutation-cons, IsPermutation-swap, sum_by-IsPermutation, sorted_far, ranks_by}
use Rattle.std.proofs.lemmas.List.Sums.{sum_by-cons}
use Rattle.std.proofs.lemmas.Map.Lookups.{exact_bytes}
use Rattle.std.proofs.lemmas.Slice.Eq.{bytes_eq-Decides}
use Rattle.psi_spec.specs.Frames.{is_below}
use Rattle.psi_spec.specs.Rising.{with_one, rising}

-- the order of byte strings
weak : IsStrictWeakOrder is_below
weak = ranks_by nat_list_cmp_total (λ (x : List ℕ). x)

-- ---- rising lists

-- no element is below the first, and the rest rises
abbrev pub Rises : List (List ℕ) → Type 0
Rises [] = Unit {0}
Rises (x ∷ xs) = AllByRecursion (λ y. is_below y x ≡ false) xs × Rises xs

none_below : (x y : List ℕ) (ys : List (List ℕ)) → is_below y x ≡ false → AllByRecursion (λ z. is_below z y ≡ false) ys
    → AllByRecursion (λ z. is_below z x ≡ false) ys
none_below x y [] low all = tt
none_below x y (z ∷ ys) low all = (weak.chain z y x all.0 low, none_below x y ys low all.1)

none_below-with_one : (low x : List ℕ) (ys : List (List ℕ)) → is_below x low ≡ false
    → AllByRecursion (λ z. is_below z low ≡ false) ys → AllByRecursion (λ z. is_below z low ≡ false) (with_one x ys)
none_below-with_one low x [] h all = (h, tt)
none_below-with_one low x (y ∷ ys) h all = by_case (is_below y x) (none_below-with_one low x ys h all.1)
  where
    by_case : (b : Bool) → AllByRecursion (λ z. is_below z low ≡ false) (with_one x ys)
        → AllByRecursion (λ z. is_below z low ≡ false) (cond b (y ∷ with_one x ys) (x ∷ y ∷ ys))
    by_case true later = (all.0, later)
    by_case false later = (h, all)

Rises-with_one : (x : List ℕ) (ys : List (List ℕ)) → Rises ys → Rises (with_one x ys)
Rises-with_one x [] up = (tt, tt)
Rises-with_one x (y ∷ ys) up = by_case (is_below y x) refl (Rises-with_one x ys up.1)
  where
    by_case : (b : Bool) → is_below y x ≡ b → Rises (with_one x ys) → Rises (cond b (y ∷ with_one x ys) (x ∷ y ∷ ys))
    by_case true e later = (none_below-with_one y x ys (weak.one_way y x e) up.0, later)
    by_case false e later = ((e, none_below x y ys e up.0), up)

pub Rises-rising : (xs : List (List ℕ)) → Rises (rising xs)
unfolding rising
Rises-rising [] = tt
Rises-rising (x ∷ xs) = Rises-with_one x (rising xs) (Rises-rising xs)

-- what a sort of std ensures
above_from : (x : List ℕ) (xs : List (List ℕ)) → ((k : ℕ) → k < length xs → is_below (get_or xs k []) x ≡ false)
    → AllByRecursion (λ y. is_below y x ≡ false) xs
above_from x [] h = tt
above_from x (y ∷ ys) h = (h 0 (omega arith), above_from x ys (λ k l. h (suc k) (omega arith)))

rises_from : (xs : List (List ℕ))
    → ((i j : ℕ) → i ≤ j → j < length xs → is_below (get_or xs j []) (get_or xs i []) ≡ false) → Rises xs
rises_from [] h = tt
rises_from (x ∷ xs) h = (
  above_from x xs (λ k l. h 0 (suc k) (omega arith) (omega arith)),
  rises_from xs (λ i j le l. h (suc i) (suc j) (omega arith) (omega arith)),
)

pub Rises-from_sort : (xs : List (List ℕ)) → IsSorted (slice_cmp nat_cmp) xs → Rises xs
Rises-from_sort xs up = rises_from xs (λ i j le l. sorted_far is_below weak xs up i j [] le l)

-- ---- permutations

with_one_moves : (x : List ℕ) (ys : List (List ℕ)) → IsPermutation (x ∷ ys) (with_one x ys)
with_one_moves x [] = IsPermutation-refl (x ∷ [])
with_one_moves x (y ∷ ys) = by_case (is_below y x) (with_one_moves x ys)
  where
    by_case : (b : Bool) → IsPermutation (x ∷ ys) (with_one x ys)
        → IsPermutation (x ∷ y ∷ ys) (cond b (y ∷ with_one x ys) (x ∷ y ∷ ys))
    by_case true later =
        IsPermutation-trans (x ∷ y ∷ ys) (y ∷ x ∷ ys) (y ∷ with_one x ys)
        (IsPermutation-swap (x ∷ y ∷ ys) (y ∷ x ∷ ys) 0 1 (omega arith) (omega arith) refl)
        (IsPermutation-cons y (x ∷ ys) (with_one x ys) later)
    by_case false later = IsPermutation-refl (x ∷ y ∷ ys)

-- sorting only moves elements
pub rising_moves : (xs : List (List ℕ)) → IsPermutation xs (rising xs)
unfolding rising
rising_moves [] = IsPermutation-refl []
rising_moves (x ∷ xs) =
    IsPermutation-trans (x ∷ xs) (x ∷ rising xs) (with_one x (rising xs))
    (IsPermutation-cons x xs (rising xs) (rising_moves xs)) (with_one_moves x (rising xs))

-- how often q is an element
abbrev copies : List ℕ → List (List ℕ) → ℕ
copies q [] = 0
copies q (x ∷ xs) = cond (bytes_eq q x) 1 0 + copies q xs

copies_by_sum : (q : List ℕ) (xs : List (List ℕ)) → sum_by (λ x. cond (bytes_eq q x) 1 0) xs ≡ copies q xs
copies_by_sum q [] = refl
copies_by_sum q (x ∷ xs) =
    sum_by-cons (λ x. cond (bytes_eq q x) 1 0) x xs ∙ ap (λ (n : ℕ). cond (bytes_eq q x) 1 0 + n) (copies_by_sum q xs)

copies_moved : (q : List ℕ) (xs ys : List (List ℕ)) → IsPermutation xs ys → copies q ys ≡ copies q xs
copies_moved q xs ys moved =
    sym (copies_by_sum q ys) ∙ (sum_by-IsPermutation (λ x. cond (bytes_eq q x) 1 0) xs ys moved ∙ copies_by_sum q xs)

-- ---- two rising lists that have each element equally often are one

neither : (r s : Ordering) → r ≡ ordering_reverse s → is_lt r ≡ false → is_lt s ≡ false → r ≡ Equal
neither Less s e a b = cc
neither Equal s e a b = refl
neither Greater Less e a b = cc
neither Greater Equal e a b = e
neither Greater Greater e a b = cc

one_of_two : (x y : List ℕ) → is_below x y ≡ false → is_below y x ≡ false → x ≡ y
one_of_two x y a b =
    exact_bytes x y (neither (slice_cmp nat_cmp x y) (slice_cmp nat_cmp y x) (nat_list_cmp_total.antisymm x y) a b)

at_member : (P : List ℕ → Type 0) (q : List ℕ) (xs : List (List ℕ)) → AllByRecursion P xs → 0 < copies q xs → P q
at_member P q [] all l = absurd (omega arith)
at_member P q (x ∷ xs) all l = by_case (bytes_eq q x) refl l (at_member P q xs all.1)
  where
    by_case : (b : Bool) → bytes_eq q x ≡ b → 0 < cond b 1 0 + copies q xs → (0 < copies q xs → P q) → P q
    by_case true e m later = subst P (sym ((bytes_eq-Decides q x).0 e)) all.0
    by_case false e m later = later (omega arith)

has_itself : (x : List ℕ) (xs : List (List ℕ)) → 0 < copies x (x ∷ xs)
has_itself x xs = let e : bytes_eq x x ≡ true = (bytes_eq-Decides x x).1 refl in rw e (omega arith)

-- what stands first in two rising lists that have the same elements
first_is_first : (x y : List ℕ) (xs ys : List (List ℕ)) → Rises (x ∷ xs) → Rises (y ∷ ys)
    → ((q : List ℕ) → copies q (x ∷ xs) ≡ copies q (y ∷ ys)) → x ≡ y
first_is_first x y xs ys up up' h = by_case (bytes_eq y x) (bytes_eq x y) refl refl
  where
    by_case : (b c : Bool) → bytes_eq y x ≡ b → bytes_eq x y ≡ c → x ≡ y
    by_case true c e k = sym ((bytes_eq-Decides y x).0 e)
    by_case false true e k = (bytes_eq-Decides x y).0 k
    by_case false false e k =
        let yes : 0 < copies y xs = omega (arith, h y, has_itself y ys, ap {B = ℕ} (λ (b : Bool). cond b 1 0) e) in
        let back : 0 < copies x ys = omega (arith, h x, has_itself x xs, ap {B = ℕ} (λ (b : Bool). cond b 1 0) k) in
        one_of_two x y (at_member (λ z. is_below z y ≡ false) x ys up'.0 back)
        (at_member (λ z. is_below z x ≡ false) y xs up.0 yes)

rising_once : (xs ys : List (List ℕ)) → Rises xs → Rises ys → ((q : List ℕ) → copies q xs ≡ copies q ys) → xs ≡ ys
rising_once [] [] up up' h = refl
rising_once [] (y ∷ ys) up up' h = absurd (omega (arith, h y, has_itself y ys))
rising_once (x ∷ xs) [] up up' h = absurd (omega (arith, h x, has_itself x xs))
rising_once (x ∷ xs) (y ∷ ys) up up' h =
    let head : x ≡ y = first_is_first x y xs ys up up' h in
    let rest : xs ≡ ys =
    rising_once xs ys up.1 up'.1
    (λ q. omega (arith, h q, ap {B = ℕ} (λ (z : List ℕ). cond (bytes_eq q z) 1 0) head)) in
    cc

-- what a sort leaves is the list in rising order
pub rising_from_sort : (xs ys : List (List ℕ)) → IsPermutation xs ys → IsSorted (slice_cmp nat_cmp) ys → ys ≡ rising xs
rising_from_sort xs ys moved up =
    rising_once ys (rising xs) (Rises-from_sort ys up) (Rises-rising xs)
    (λ q. copies_moved q xs ys moved ∙ sym (copies_moved q xs (rising xs) (rising_moves xs)))

-- the order that a list had does not count
pub rising_moved : (xs ys : List (List ℕ)) → IsPermutation xs ys → rising xs ≡ rising ys
rising_moved xs ys moved =
    rising_once (rising xs) (rising ys) (Rises-rising xs) (Rises-rising ys)
    (λ q. copies_moved q xs (rising xs) (rising_moves xs)
    ∙ (sym (copies_moved q xs ys moved) ∙ sym (copies_moved q ys (rising ys) (rising_moves ys))))

-- ---- what is kept

adjacent : (xs : List (List ℕ)) → Rises xs → (k : ℕ) (d : List ℕ) → k + 1 < length xs
    → is_below (get_or xs (k + 1) d) (get_or xs k d) ≡ false
adjacent [] up k d l = absurd (omega arith)
adjacent (x ∷ []) up k d l = absurd (omega arith)
adjacent (x ∷ y ∷ xs) up zero d l = up.0.0
adjacent (x ∷ y ∷ xs) up (suc k) d l =
    let next : suc k + 1 ≡ suc (k + 1) = omega arith in
    ap (λ (n : ℕ). is_below (get_or (x ∷ y ∷ xs) n d) (get_or (y ∷ xs) k d)) next
    ∙ adjacent (y ∷ xs) up.1 k d (omega arith)

-- sorted lists rise as std's sorts say it
pub IsSorted-rising : (xs : List (List ℕ)) → IsSorted (slice_cmp nat_cmp) (rising xs)
IsSorted-rising xs k d low l = adjacent (rising xs) (Rises-rising xs) k d l

module _ (P : List ℕ → Type 0) where
  each-with_one : (x : List ℕ) (xs : List (List ℕ)) → P x → AllByRecursion P xs → AllByRecursion P (with_one x xs)
  each-with_one x [] h all = (h, tt)
  each-with_one x (y ∷ xs) h all = by_case (is_below y x) (each-with_one x xs h all.1)
    where
      by_case : (b : Bool) → AllByRecursion P (with_one x xs)
          → AllByRecursion P (cond b (y ∷ with_one x xs) (x ∷ y ∷ xs))
      by_case true later = (all.0, later)
      by_case false later = (h, all)

  pub each-rising : (xs : List (List ℕ)) → AllByRecursion P xs → AllByRecursion P (rising xs)
  unfolding rising
  each-rising [] all = tt
  each-rising (x ∷ xs) all = each-with_one x (rising xs) all.0 (each-rising xs all.1)

pub length-rising : (xs : List (List ℕ)) → length (rising xs) ≡ length xs
length-rising xs = length_permutation xs (rising xs) (rising_moves xs)

-- ---- lists that grow

-- without its first a rising list rises
pub IsSorted-tail : (x : List ℕ) (xs : List (List ℕ)) → IsSorted (slice_cmp nat_cmp) (x ∷ xs)
    → IsSorted (slice_cmp nat_cmp) xs
IsSorted-tail x xs up k e low within =
    let next : suc k + 1 ≡ suc (k + 1) = omega arith in
    ap (λ (n : ℕ). is_below (get_or (x ∷ xs) n e) (get_or xs k e)) (sym next) ∙ up (suc k) e (omega arith) (omega arith)

-- what rises from the last of a rising list on may stand behind it
pub IsSorted-append : (xs more : List (List ℕ)) (last : ℕ) (d : List ℕ) → length xs ≡ last + 1
    → IsSorted (slice_cmp nat_cmp) xs → IsSorted (slice_cmp nat_cmp) (get_or xs last d ∷ more)
    → IsSorted (slice_cmp nat_cmp) (xs ++ more)
IsSorted-append [] more last d l up later k e low within = absurd (omega arith)
IsSorted-append (x ∷ []) more zero d l up later k e low within = later k e low within
IsSorted-append (x ∷ []) more (suc last) d l up later k e low within = absurd (omega arith)
IsSorted-append (x ∷ y ∷ xs) more zero d l up later k e low within = absurd (omega arith)
IsSorted-append (x ∷ y ∷ xs) more (suc last) d l up later zero e low within = up 0 e (omega arith) (omega arith)
IsSorted-append (x ∷ y ∷ xs) more (suc last) d l up later (suc k) e low within =
    let next : suc k + 1 ≡ suc (k + 1) = omega arith in
    let rest : List (List ℕ) = (y ∷ xs) ++ more in
    ap (λ (n : ℕ). is_below (get_or (x ∷ rest) n e) (get_or rest k e)) next
    ∙ IsSorted-append (y ∷ xs) more last d (omega arith) (IsSorted-tail x (y ∷ xs) up) later k e (omega arith)
    (omega arith)
