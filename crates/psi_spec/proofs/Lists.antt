-- Elements of mapped and filtered lists, the first one that passes a test, and operators and relations on two lists.
use Rattle.std.proofs.Common.{◌≡◌, ◌<◌, ℕ, suc, zero, Bool, true, false, cond, ◌||◌, List, [], ◌∷◌, ◌++◌, length, map, filter, find, get_or, Contains, Some, refl, sym, ap, ◌∙◌, subst, arith}
use Rattle.std.specs.List.{AllZip, list_any}
use Rattle.std.specs.Simd.Lanes.{zip2}
use Rattle.std.proofs.lemmas.Bool.{false≢true}

pub Contains-here : {A : Type 0} (x : A) (xs : List A) → Contains (x ∷ xs) x
Contains-here x xs = (zero, omega arith, refl)

pub Contains-later : {A : Type 0} (y : A) (xs : List A) (x : A) → Contains xs x → Contains (y ∷ xs) x
Contains-later y xs x h = (suc h.0, omega arith, h.2)

module _ {A : Type 0} where
  -- an element of a mapped list is the value at an element
  pub Contains-from_map : {B : Type 0} (f : A → B) (xs : List A) (y : B) → Contains (map f xs) y → (x : A) × Contains xs x × (f x ≡ y)
  Contains-from_map f [] y (k, l, e) = absurd (omega arith)
  Contains-from_map f (x ∷ xs) y (zero, l, e) = (x, Contains-here x xs, e)
  Contains-from_map f (x ∷ xs) y (suc k, l, e) =
      let found = Contains-from_map f xs y (k, omega arith, e) in
      (found.0, Contains-later x xs found.0 found.1, found.2)

  pub Contains-map : {B : Type 0} (f : A → B) (xs : List A) (x : A) → Contains xs x → Contains (map f xs) (f x)
  Contains-map f [] x (k, l, e) = absurd (omega arith)
  Contains-map f (y ∷ xs) x (zero, l, e) = (zero, omega arith, ap f e)
  Contains-map f (y ∷ xs) x (suc k, l, e) = Contains-later (f y) (map f xs) (f x) (Contains-map f xs x (k, omega arith, e))

  Contains-filter_step : (b : Bool) (y x : A) (xs : List A) → Contains xs x → Contains (cond b (y ∷ xs) xs) x
  Contains-filter_step true y x xs h = Contains-later y xs x h
  Contains-filter_step false y x xs h = h

  pub Contains-filter : (test : A → Bool) (xs : List A) (x : A) → Contains xs x → test x ≡ true → Contains (filter test xs) x
  Contains-filter test [] x (k, l, e) passes = absurd (omega arith)
  Contains-filter test (y ∷ xs) x (zero, l, e) passes =
      let here : test y ≡ true = ap test e ∙ passes in
      rw here (zero, omega arith, e)
  Contains-filter test (y ∷ xs) x (suc k, l, e) passes = Contains-filter_step (test y) y x (filter test xs) (Contains-filter test xs x (k, omega arith, e) passes)

  Contains-from_cons : (y : A) (xs : List A) (x : A) (P : A → Type 0) → P y → (Contains xs x → P x) → Contains (y ∷ xs) x → P x
  Contains-from_cons y xs x P here later (zero, l, e) = subst P e here
  Contains-from_cons y xs x P here later (suc k, l, e) = later (k, omega arith, e)

  from_filter_step : (test : A → Bool) (y x : A) (xs rest : List A) (b : Bool) → test y ≡ b → (Contains rest x → Contains xs x × (test x ≡ true)) → Contains (cond b (y ∷ rest) rest) x → Contains (y ∷ xs) x × (test x ≡ true)
  from_filter_step test y x xs rest true passes below h =
      Contains-from_cons y rest x (λ (z : A). Contains (y ∷ xs) z × (test z ≡ true)) (Contains-here y xs, passes) (λ c. (Contains-later y xs x (below c).0, (below c).1)) h
  from_filter_step test y x xs rest false fails below h = (Contains-later y xs x (below h).0, (below h).1)

  -- an element of a filtered list is an element of the list, and passes
  pub Contains-from_filter : (test : A → Bool) (xs : List A) (x : A) → Contains (filter test xs) x → Contains xs x × (test x ≡ true)
  Contains-from_filter test [] x (k, l, e) = absurd (omega arith)
  Contains-from_filter test (y ∷ xs) x h = from_filter_step test y x xs (filter test xs) (test y) refl (Contains-from_filter test xs x) h

  pub list_any-from_passing : (test : A → Bool) (xs : List A) (x : A) → Contains xs x → test x ≡ true → list_any test xs ≡ true
  list_any-from_passing test [] x (k, l, e) passes = absurd (omega arith)
  list_any-from_passing test (y ∷ xs) x (zero, l, e) passes = let here : test y ≡ true = ap test e ∙ passes in rw here refl
  list_any-from_passing test (y ∷ xs) x (suc k, l, e) passes = or_true (test y) (list_any test xs) (list_any-from_passing test xs x (k, omega arith, e) passes)
    where
      or_true : (b c : Bool) → c ≡ true → (b || c) ≡ true
      or_true true c e = refl
      or_true false c e = e

  find_step : (test : A → Bool) (y : A) (xs : List A) (b : Bool) → test y ≡ b → (list_any test xs ≡ true → (x : A) × (find test xs ≡ Some x) × Contains xs x × (test x ≡ true)) → (b || list_any test xs) ≡ true
      → (x : A) × (cond b (Some y) (find test xs) ≡ Some x) × Contains (y ∷ xs) x × (test x ≡ true)
  find_step test y xs true e later h = (y, refl, Contains-here y xs, e)
  find_step test y xs false e later h = let found = later h in (found.0, found.1, Contains-later y xs found.0 found.2, found.3)

  -- a test that some element passes has a first element that passes
  pub find-from_list_any : (test : A → Bool) (xs : List A) → list_any test xs ≡ true → (x : A) × (find test xs ≡ Some x) × Contains xs x × (test x ≡ true)
  find-from_list_any test [] h = absurd (false≢true h)
  find-from_list_any test (y ∷ xs) h = find_step test y xs (test y) refl (find-from_list_any test xs) h

-- two tests of which each follows from the other are the same
pub same_test : (a b : Bool) → (a ≡ true → b ≡ true) → (b ≡ true → a ≡ true) → a ≡ b
same_test true b to from = sym (to refl)
same_test false true to from = from refl
same_test false false to from = refl

-- whether an element of a list passes a test
pub list_any-map : {A B : Type 0} (test : B → Bool) (f : A → B) (xs : List A)
    → list_any test (map f xs) ≡ list_any (λ x. test (f x)) xs
list_any-map test f [] = refl
list_any-map test f (x ∷ xs) = ap (λ (b : Bool). test (f x) || b) (list_any-map test f xs)

pub list_any_agree : {A : Type 0} (p q : A → Bool) (xs : List A) → ((x : A) → p x ≡ q x)
    → list_any p xs ≡ list_any q xs
list_any_agree p q [] same = refl
list_any_agree p q (x ∷ xs) same =
    let t = same x in let ts : list_any p xs ≡ list_any q xs = list_any_agree p q xs same in cc

-- an operator on two lists, part by part
pub zip2-append : {A B C : Type 0} (f : A → B → C) (xs us : List A) (ys vs : List B) → length xs ≡ length ys
    → zip2 f (xs ++ us) (ys ++ vs) ≡ zip2 f xs ys ++ zip2 f us vs
zip2-append f [] us [] vs same = refl
zip2-append f [] us (y ∷ ys) vs same = absurd (omega arith)
zip2-append f (x ∷ xs) us [] vs same = absurd (omega arith)
zip2-append f (x ∷ xs) us (y ∷ ys) vs same = ap (λ zs. f x y ∷ zs) (zip2-append f xs us ys vs (omega arith))

-- two tests that agree on the elements keep the same ones
pub filter_agree : {A : Type 0} (p q : A → Bool) (xs : List A) → ((x : A) → Contains xs x → p x ≡ q x)
    → filter p xs ≡ filter q xs
filter_agree p q [] same = refl
filter_agree {A = A} p q (x ∷ xs) same =
    let here = same x (Contains-here x xs) in
    let rest : filter p xs ≡ filter q xs = filter_agree p q xs (λ y h. same y (Contains-later x xs y h)) in
    ap (λ (b : Bool). cond b (x ∷ filter p xs) (filter p xs)) here
    ∙ ap (λ (ys : List A). cond (q x) (x ∷ ys) ys) rest

-- what holds at each place holds along two lists
pub AllZip-from_places : {A B : Type 0} (R : A → B → Type 0) (xs : List A) (ys : List B) (d : A) (e : B)
    → length xs ≡ length ys → ((k : ℕ) → k < length xs → R (get_or xs k d) (get_or ys k e)) → AllZip R xs ys
AllZip-from_places R [] [] d e long h = tt
AllZip-from_places R [] (y ∷ ys) d e long h = absurd (omega arith)
AllZip-from_places R (x ∷ xs) [] d e long h = absurd (omega arith)
AllZip-from_places R (x ∷ xs) (y ∷ ys) d e long h =
    (h 0 (omega arith), AllZip-from_places R xs ys d e (omega arith) (λ k l. h (suc k) (omega arith)))
