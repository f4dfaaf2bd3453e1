-- Lists that are written in place, one element after another.
use Rattle.std.proofs.Common.{◌≡◌, ◌≢◌, ◌<◌, ◌≤◌, ◌+◌, ℕ, List, [], length, slice_index_or, slice_set, sym, subst, arith, ⊎_elim, get_or-set_same, get_or-set_other}
use Rattle.std.proofs.lemmas.Bool.{cases_lt}

-- what holds at each place so far holds at one more, where two elements are written
pub two_written : (P : ℕ → List ℕ → List ℕ → Type 0) (xs ys : List (List ℕ)) (i : ℕ) (x y : List ℕ) → i < length xs → i < length ys → P i x y
    → ((k : ℕ) → k < i → P k (slice_index_or xs k []) (slice_index_or ys k []))
    → (k : ℕ) → k < i + 1 → P k (slice_index_or (slice_set xs i x) k []) (slice_index_or (slice_set ys i y) k [])
two_written P xs ys i x y room_x room_y written held k below =
    ⊎_elim
    (λ (before : k < i).
    let other : k ≢ i = omega arith in
    subst (λ (l : List ℕ). P k l (slice_index_or (slice_set ys i y) k [])) (sym (get_or-set_other xs i k x [] other))
    (subst (P k (slice_index_or xs k [])) (sym (get_or-set_other ys i k y [] other)) (held k before)))
    (λ (after : i ≤ k).
    let here : i ≡ k = omega arith in
    subst (λ (n : ℕ). P n (slice_index_or (slice_set xs i x) n []) (slice_index_or (slice_set ys i y) n [])) here
    (subst (λ (l : List ℕ). P i l (slice_index_or (slice_set ys i y) i [])) (sym (get_or-set_same xs i x [] room_x))
    (subst (P i x) (sym (get_or-set_same ys i y [] room_y)) written)))
    (cases_lt k i)

-- the same where one element is written
pub one_written : (P : ℕ → List ℕ → Type 0) (xs : List (List ℕ)) (i : ℕ) (x : List ℕ) → i < length xs → P i x
    → ((k : ℕ) → k < i → P k (slice_index_or xs k [])) → (k : ℕ) → k < i + 1 → P k (slice_index_or (slice_set xs i x) k [])
one_written P xs i x room written held = two_written (λ k l _. P k l) xs xs i x x room room written held
