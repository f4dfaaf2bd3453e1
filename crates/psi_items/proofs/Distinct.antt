-- Lists without repeats, one element more at a time.
use Rattle.std.proofs.Common.{◌≡◌, ◌∙◌, sym, ap, ap₂, refl, ℕ, List, [], ◌∷◌, ◌++◌, Bool, true, false, not, cond, ◌||◌, ◌&&◌}
use Rattle.std.specs.List.{filter, list_any}
use Rattle.std.specs.Str.{bytes_eq}
use Rattle.std.proofs.lemmas.List.{append-nil}
use Rattle.std.proofs.lemmas.List.Elements.{filter-append}
use Rattle.std.proofs.lemmas.Map.Views.{any-filter_same}
use Rattle.std.proofs.lemmas.Cmp.{nat_list_eq_equiv}
use Rattle.std.proofs.lemmas.Slice.Eq.{bytes_eq-Decides}
use Rattle.psi_spec.specs.Items.{distinct}
use Rattle.psi_items.specs.Reading.{with_item}

-- the elements that differ from x
abbrev others : List ℕ → List (List ℕ) → List (List ℕ)
others x items = filter (λ z. not (bytes_eq x z)) items

-- whether x is among the elements that differ from another
any-others : (x y : List ℕ) (items : List (List ℕ)) → list_any (bytes_eq y) (others x items) ≡ (not (bytes_eq x y) && list_any (bytes_eq y) items)
any-others x y items =
    any-filter_same (bytes_eq y) (λ z. not (bytes_eq x z)) (not (bytes_eq x y)) (λ z e. ap (λ w. not (bytes_eq x w)) (sym ((bytes_eq-Decides y z).0 e))) items

others-choice : (x y : List ℕ) (items : List (List ℕ)) (there : Bool)
    → others x (cond there items (items ++ y ∷ [])) ≡ cond there (others x items) (others x items ++ cond (not (bytes_eq x y)) (y ∷ []) [])
others-choice x y items true = refl
others-choice x y items false = filter-append (λ z. not (bytes_eq x z)) items (y ∷ [])

choices : (x y : List ℕ) (kept : List (List ℕ)) (same there : Bool)
    → x ∷ cond there kept (kept ++ cond (not same) (y ∷ []) []) ≡ cond (same || (not same && there)) (x ∷ kept) (x ∷ kept ++ y ∷ [])
choices x y kept true true = refl
choices x y kept true false = ap (λ items. x ∷ items) (append-nil kept)
choices x y kept false true = refl
choices x y kept false false = refl

-- an element is added before those that equal another are left out, or after
kept-with_item : (x y : List ℕ) (items : List (List ℕ)) → x ∷ others x (with_item items y) ≡ with_item (x ∷ others x items) y
kept-with_item x y items =
    ap (λ kept. x ∷ kept) (others-choice x y items (list_any (bytes_eq y) items))
    ∙ choices x y (others x items) (bytes_eq x y) (list_any (bytes_eq y) items)
    ∙ ap₂ (λ (same among : Bool). cond (same || among) (x ∷ others x items) (x ∷ others x items ++ y ∷ [])) (nat_list_eq_equiv.symm x y) (sym (any-others x y items))

-- the distinct elements of a list with one more at its end
pub distinct-push : (xs : List (List ℕ)) (y : List ℕ) → distinct (xs ++ y ∷ []) ≡ with_item (distinct xs) y
distinct-push [] y = refl
distinct-push (x ∷ xs) y = ap (λ items. x ∷ others x items) (distinct-push xs y) ∙ kept-with_item x y (distinct xs)
