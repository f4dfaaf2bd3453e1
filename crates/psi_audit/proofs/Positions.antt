-- The first place at which a test passes.
use Rattle.std.proofs.Common.{◌≡◌, ◌+◌, ◌∙◌, ℕ, Bool, true, false, not, cond, ◌||◌, List, [], ◌∷◌, ◌++◌, length, Option, Some, None, is_some, position, refl, sym, ap, arith}
use Rattle.std.specs.List.{list_any, position_from}
use Rattle.std.proofs.lemmas.Iterator.Adapters.{position_from-zero}
use Rattle.psi_audit.specs.Searching.{with_met}

module _ {A : Type 0} (test : A → Bool) where
  -- there is one where some element passes
  some_from : (at : ℕ) (xs : List A) → is_some (position_from test at xs) ≡ list_any test xs
  some_from at [] = refl
  some_from at (x ∷ xs) = by_case (test x) (some_from (at + 1) xs)
    where
      by_case : (b : Bool) → is_some (position_from test (at + 1) xs) ≡ list_any test xs → is_some (cond b (Some at) (position_from test (at + 1) xs)) ≡ (b || list_any test xs)
      by_case true later = refl
      by_case false later = later

  pub is_some-position : (xs : List A) → is_some (position test xs) ≡ list_any test xs
  is_some-position xs = ap is_some (position_from-zero test xs) ∙ some_from 0 xs

  -- one element more
  push_from : (at : ℕ) (xs : List A) (y : A) → position_from test at (xs ++ y ∷ []) ≡ with_met (test y) (at + length xs) (position_from test at xs)
  push_from at [] y =
      let same : at ≡ at + 0 = omega arith in
      by_case (test y) (ap (λ (n : ℕ). Some n) same)
    where
      by_case : (b : Bool) → Some at ≡ Some (at + 0) → cond b (Some at) None ≡ with_met b (at + 0) None
      by_case true e = e
      by_case false e = refl
  push_from at (x ∷ xs) y =
      let same : at + 1 + length xs ≡ at + length (x ∷ xs) = omega arith in
      by_case (test x) (push_from (at + 1) xs y ∙ ap (λ (n : ℕ). with_met (test y) n (position_from test (at + 1) xs)) same)
    where
      by_case : (b : Bool) → position_from test (at + 1) (xs ++ y ∷ []) ≡ with_met (test y) (at + length (x ∷ xs)) (position_from test (at + 1) xs)
          → cond b (Some at) (position_from test (at + 1) (xs ++ y ∷ [])) ≡ with_met (test y) (at + length (x ∷ xs)) (cond b (Some at) (position_from test (at + 1) xs))
      by_case true later = refl
      by_case false later = later

  pub position-push : (xs : List A) (y : A) → position test (xs ++ y ∷ []) ≡ with_met (test y) (length xs) (position test xs)
  position-push xs y =
      let same : 0 + length xs ≡ length xs = omega arith in
      position_from-zero test (xs ++ y ∷ []) ∙ (push_from 0 xs y
      ∙ (ap (λ (n : ℕ). with_met (test y) n (position_from test 0 xs)) same ∙ ap (with_met (test y) (length xs)) (sym (position_from-zero test xs))))

  none_from : (at : ℕ) (xs : List A) → list_any test xs ≡ false → position_from test at xs ≡ None
  none_from at [] h = refl
  none_from at (x ∷ xs) h = by_case (test x) (none_from (at + 1) xs) h
    where
      by_case : (b : Bool) → (list_any test xs ≡ false → position_from test (at + 1) xs ≡ None) → (b || list_any test xs) ≡ false → cond b (Some at) (position_from test (at + 1) xs) ≡ None
      by_case true later e = cc
      by_case false later e = later e

  pub position-none : (xs : List A) → list_any test xs ≡ false → position test xs ≡ None
  position-none xs h = position_from-zero test xs ∙ none_from 0 xs h

  pub not_any : (xs : List A) (found : Option ℕ) (none : Bool) → found ≡ position test xs → is_some found ≡ not none → none ≡ not (list_any test xs)
  not_any xs found none at is = by_case none (list_any test xs) (sym is ∙ (ap is_some at ∙ is_some-position xs))
    where
      by_case : (a b : Bool) → not a ≡ b → a ≡ not b
      by_case true b e = ap not e
      by_case false b e = ap not e
