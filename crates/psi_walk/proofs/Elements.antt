-- The element at a place of a list, as loops read it, and what is written of an item.
use Rattle.std.proofs.Common.{◌≡◌, ◌+◌, ◌<◌, ℕ, zero, suc, Bool, cond, List, [], ◌∷◌, ◌++◌, length, take, Some, ap, ◌∙◌, arith}
use Rattle.std.specs.List.{slice_get}

-- the element that stands at a place
pub record StandsAt {A : Type 0} (xs : List A) (i : ℕ) (x : A) : Type 0 where
  pub within : i < length xs
  pub more : take (i + 1) xs ≡ take i xs ++ x ∷ []

pub stands_at : {A : Type 0} (xs : List A) (i : ℕ) (x : A) → Some x ≡ slice_get xs i → StandsAt xs i x
stands_at [] i x e = cc e
stands_at {A = A} (y ∷ ys) zero x e =
    let same : y ≡ x = cc e in
    record { within = omega arith; more = ap (λ (z : A). z ∷ []) same }
stands_at {A = A} (y ∷ ys) (suc i) x e =
    let later = stands_at ys i x e in
    let count : suc i + 1 ≡ suc (i + 1) = omega arith in
    record {
      within = let l = later.within in omega arith;
      more = ap (λ (n : ℕ). take n (y ∷ ys)) count ∙ ap (λ (rest : List A). y ∷ rest) later.more;
    }

-- what is written of one item
abbrev pub line_if : Bool → List ℕ → List ℕ
line_if met item = cond met (item ++ 10 ∷ []) []
