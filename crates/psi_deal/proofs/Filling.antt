-- Matrices that are filled column by column.
use Rattle.std.proofs.Common.{◌≡◌, ◌+◌, ◌<◌, ◌≤◌, ◌∙◌, ℕ, zero, suc, List, [], ◌∷◌, ◌++◌, length, map, take, get_or, set, sym, ap, subst, arith}
use Rattle.std.proofs.lemmas.List.{take_more, take_more_set, take_all, map-append}
use Rattle.psi_spec.specs.Matrices.{IsClean}

module _ {A : Type 0} where
  -- one more column is that of the next element
  pub one_more_column : (f : A → List ℕ) (xs : List A) (columns : List (List ℕ)) (c : ℕ) (x : A) (column : List ℕ) → c < length columns → c < length xs → take c columns ≡ map f (take c xs) → x ≡ get_or xs c x → column ≡ f x
      → take (c + 1) (set columns c column) ≡ map f (take (c + 1) xs)
  one_more_column f xs columns c x column l m made e made_of =
      take_more_set columns c column l
      ∙ (ap (λ (front : List (List ℕ)). front ++ column ∷ []) made
      ∙ (ap (λ (y : List ℕ). map f (take c xs) ++ y ∷ []) (made_of ∙ ap f e)
      ∙ (sym (map-append f (take c xs) (get_or xs c x ∷ [])) ∙ ap (map f) (sym (take_more xs c x m)))))

  -- all columns are made
  pub all_columns : (f : A → List ℕ) (xs : List A) (columns : List (List ℕ)) (n : ℕ) → length columns ≤ n → length xs ≤ n → take n columns ≡ map f (take n xs) → columns ≡ map f xs
  all_columns f xs columns n l m made = sym (take_all n columns l) ∙ (made ∙ ap (map f) (take_all n xs m))

  pub clean_map : (f : A → List ℕ) (rows : ℕ) → ((x : A) → IsClean rows (f x)) → (xs : List A) (c : ℕ) → c < length xs → IsClean rows (get_or (map f xs) c [])
  clean_map f rows clean [] c l = absurd (omega arith)
  clean_map f rows clean (x ∷ xs) zero l = clean x
  clean_map f rows clean (x ∷ xs) (suc c) l = clean_map f rows clean xs c (omega arith)

  -- a matrix that is filled with clean columns is clean
  pub clean_filled : (f : A → List ℕ) (xs : List A) (columns : List (List ℕ)) (n rows : ℕ) → ((x : A) → IsClean rows (f x)) → length columns ≤ n → length xs ≤ n → length xs ≡ 512 → take n columns ≡ map f (take n xs) → (c : ℕ) → c < 512 → IsClean rows (get_or columns c [])
  clean_filled f xs columns n rows clean l m count made c within =
      subst (λ (all : List (List ℕ)). IsClean rows (get_or all c [])) (sym (all_columns f xs columns n l m made)) (clean_map f rows clean xs c (omega arith))
