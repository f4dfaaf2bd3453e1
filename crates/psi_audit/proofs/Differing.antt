-- The first difference of recorded bytes from those of a session, as far as both go.
use Rattle.std.proofs.Common.{◌≡◌, ◌+◌, ◌-◌, ◌<◌, ◌≤◌, ◌∙◌, ℕ, zero, suc, Bool, true, false, cond, List, [], ◌∷◌, ◌++◌, length, min, drop, get_or, nat_eq, Option, Some, None, is_some, length-append, refl, sym, ap, ap₂, arith, drop-cons}
use Rattle.std.proofs.lemmas.Bool.{false≢true}
use Rattle.std.proofs.lemmas.List.{length-drop}
use Rattle.std.proofs.lemmas.Option.{none-some}
use Rattle.psi_audit.specs.Comparing.{Compared, IsCompared, shared_from}
use Rattle.psi_audit.specs.declared.comparing.Difference.{Difference}

-- ---- one byte more

pub shared-nil : (at : ℕ) (xs : List ℕ) → shared_from at xs [] ≡ None
shared-nil at [] = refl
shared-nil at (x ∷ xs) = refl

abbrev pub at_place : ℕ → ℕ → ℕ → Difference
at_place place x y = record { place = place; found = x; wanted = y }

-- the search at a place
pub shared_step : (at i : ℕ) (xs ys : List ℕ) → at < length xs → i < length ys
    → shared_from at (drop at xs) (drop i ys)
    ≡ cond (nat_eq (get_or xs at 0) (get_or ys i 0)) (shared_from (at + 1) (drop (at + 1) xs) (drop (i + 1) ys)) (Some (at_place at (get_or xs at 0) (get_or ys i 0)))
shared_step at i xs ys l m =
    let next : suc at ≡ at + 1 = omega arith in
    let after : suc i ≡ i + 1 = omega arith in
    ap₂ (shared_from at) (drop-cons xs at 0 l ∙ ap (λ (k : ℕ). get_or xs at 0 ∷ drop k xs) next) (drop-cons ys i 0 m ∙ ap (λ (k : ℕ). get_or ys i 0 ∷ drop k ys) after)

-- where one of both ends there is none
shared_none : (at : ℕ) (xs ys : List ℕ) → min (length ys) (length xs) ≡ 0 → shared_from at xs ys ≡ None
shared_none at [] ys h = refl
shared_none at (x ∷ xs) [] h = refl
shared_none at (x ∷ xs) (y ∷ ys) h = absurd (omega arith)

pub shared_end : (at i start : ℕ) (xs ys : List ℕ) → start ≤ length xs → at ≡ start + i → i ≡ min (length ys) (length xs - start) → shared_from at (drop at xs) (drop i ys) ≡ None
shared_end at i start xs ys within e is = shared_none at (drop at xs) (drop i ys) (omega (arith, length-drop i ys, length-drop at xs))

-- ---- more bytes

-- a difference stays the first, whatever follows
pub shared_kept : (at : ℕ) (xs ys zs : List ℕ) (d : Difference) → shared_from at xs ys ≡ Some d → shared_from at xs (ys ++ zs) ≡ Some d
shared_kept at [] ys zs d h = absurd (none-some d h)
shared_kept at (x ∷ xs) [] zs d h = absurd (none-some d h)
shared_kept at (x ∷ xs) (y ∷ ys) zs d h = by_case (nat_eq x y) (shared_kept (at + 1) xs ys zs d) h
  where
    by_case : (b : Bool) → (shared_from (at + 1) xs ys ≡ Some d → shared_from (at + 1) xs (ys ++ zs) ≡ Some d)
        → cond b (shared_from (at + 1) xs ys) (Some (at_place at x y)) ≡ Some d → cond b (shared_from (at + 1) xs (ys ++ zs)) (Some (at_place at x y)) ≡ Some d
    by_case true later e = later e
    by_case false later e = e

-- where there is none so far, the search goes on behind the n bytes that were compared
pub shared_more : (at : ℕ) (xs ys zs : List ℕ) (n : ℕ) → n ≡ min (length ys) (length xs) → shared_from at xs ys ≡ None → shared_from at xs (ys ++ zs) ≡ shared_from (at + n) (drop n xs) zs
shared_more at [] ys zs n is h = sym (shared_none (at + n) (drop n []) zs (omega (arith, length-drop {A = ℕ} n [])))
shared_more at (x ∷ xs) [] zs n is h =
    let none : n ≡ 0 = omega arith in
    let same : at + 0 ≡ at = omega arith in
    sym (ap (λ (k : ℕ). shared_from (at + k) (drop k (x ∷ xs)) zs) none ∙ ap (λ (k : ℕ). shared_from k (x ∷ xs) zs) same)
shared_more at (x ∷ xs) (y ∷ ys) zs zero is h = absurd (omega arith)
shared_more at (x ∷ xs) (y ∷ ys) zs (suc n) is h = by_case (nat_eq x y) (shared_more (at + 1) xs ys zs n (omega arith)) h
  where
    by_case : (b : Bool) → (shared_from (at + 1) xs ys ≡ None → shared_from (at + 1) xs (ys ++ zs) ≡ shared_from (at + 1 + n) (drop n xs) zs)
        → cond b (shared_from (at + 1) xs ys) (Some (at_place at x y)) ≡ None
        → cond b (shared_from (at + 1) xs (ys ++ zs)) (Some (at_place at x y)) ≡ shared_from (at + suc n) (drop n xs) zs
    by_case true later e = let same : at + 1 + n ≡ at + suc n = omega arith in later e ∙ ap (λ (k : ℕ). shared_from k (drop n xs) zs) same
    by_case false later e = absurd (none-some _ (sym e))

-- ---- a comparison goes on

pub none_of : (d : Option Difference) → is_some d ≡ false → d ≡ None
none_of None h = refl
none_of (Some x) h = absurd (false≢true (sym h))

pub some_of : (d : Option Difference) → is_some d ≡ true → (x : Difference) × (d ≡ Some x)
some_of None h = absurd (false≢true h)
some_of (Some x) h = (x, refl)

pub not_yet : (c : Compared) (recorded before bytes : List ℕ) (d : Option Difference) (compared : ℕ) → is_some c.difference ≡ false → IsCompared recorded before c
    → d ≡ shared_from c.compared (drop c.compared c.recorded) bytes → compared ≡ c.compared + min (length bytes) (length c.recorded - c.compared)
    → IsCompared recorded (before ++ bytes) (record { recorded = c.recorded; compared = compared; difference = d })
not_yet c recorded before bytes d compared unset h is more =
    let none = none_of c.difference unset in
    let at : c.compared ≡ min (length before) (length recorded) = h.compared none in
    let long : length c.recorded ≡ length recorded = ap length h.bytes_are in
    let same : 0 + c.compared ≡ c.compared = omega arith in
    record {
      bytes_are = h.bytes_are;
      compared = λ _. omega (arith, length-append before bytes);
      difference =
          is ∙ (ap (λ (xs : List ℕ). shared_from c.compared (drop c.compared xs) bytes) h.bytes_are
          ∙ sym (shared_more 0 recorded before bytes c.compared at (sym h.difference ∙ none) ∙ ap (λ (n : ℕ). shared_from n (drop c.compared recorded) bytes) same));
    }

pub already : (c : Compared) (recorded before bytes : List ℕ) → is_some c.difference ≡ true → IsCompared recorded before c → IsCompared recorded (before ++ bytes) c
already c recorded before bytes set h =
    let some = some_of c.difference set in
    record {
      bytes_are = h.bytes_are;
      compared = λ none. absurd (none-some some.0 (sym none ∙ some.1));
      difference = some.1 ∙ sym (shared_kept 0 recorded before bytes some.0 (sym h.difference ∙ some.1));
    }
