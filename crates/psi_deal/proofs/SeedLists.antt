-- Seeds that are taken from bytes, chosen, and put into bytes, one by one.
use Rattle.std.proofs.Common.{◌≡◌, ◌+◌, ◌*◌, ◌<◌, ◌≤◌, ◌∙◌, ℕ, List, [], ◌∷◌, ◌++◌, length, take, drop, get_or, refl, sym, ap, arith, append-nil, append_assoc}
use Rattle.std.specs.List.{flat_map}
use Rattle.std.proofs.lemmas.List.{take_more, take_all, map-append, length-map, length-take-le}
use Rattle.psi_spec.specs.Deals.{SeedPair, seed_pairs, chosen_from, chosen_seed}
use Rattle.psi_spec.specs.Bits.{bit_of}
use Rattle.psi_spec.specs.DealFiles.{seeds_of, pairs_bytes, seeds_bytes}
use Rattle.psi_spec.proofs.Dealing.{pair_from, seed_pairs-more, chosen_from-push}
use Rattle.psi_spec.proofs.DealFiles.{seeds_of-more}
use Rattle.psi_deal.specs.declared.seeds.SeedPair.{SeedPair as Pair}
use Rattle.psi_deal.specs.Pairs.{pair_of, pairs_of}

pub no_pairs : (bytes : List ℕ) → [] ≡ seed_pairs 0 bytes
unfolding seed_pairs
no_pairs bytes = refl

pub no_seeds : (bytes : List ℕ) → [] ≡ seeds_of 0 bytes
unfolding seeds_of
no_seeds bytes = refl

pub one_more_pair : (bytes : List ℕ) (c : ℕ) (pairs new : List Pair) (pair : Pair) → pairs_of pairs ≡ seed_pairs c bytes → new ≡ pairs ++ pair ∷ [] → pair_of pair ≡ pair_from bytes (64 * c) → pairs_of new ≡ seed_pairs (c + 1) bytes
one_more_pair bytes c pairs new pair made pushed e =
    ap pairs_of pushed
    ∙ (map-append pair_of pairs (pair ∷ [])
    ∙ (ap (λ (front : List SeedPair). front ++ pair_of pair ∷ []) made
    ∙ (ap (λ (p : SeedPair). seed_pairs c bytes ++ p ∷ []) e ∙ sym (seed_pairs-more c bytes))))

pub one_more_seed : (bytes : List ℕ) (c : ℕ) (seeds new : List (List ℕ)) (seed : List ℕ) → seeds ≡ seeds_of c bytes → new ≡ seeds ++ seed ∷ [] → seed ≡ take 32 (drop (32 * c) bytes) → new ≡ seeds_of (c + 1) bytes
one_more_seed bytes c seeds new seed made pushed e =
    pushed
    ∙ (ap (λ (front : List (List ℕ)). front ++ seed ∷ []) made
    ∙ (ap (λ (s : List ℕ). seeds_of c bytes ++ s ∷ []) e ∙ sym (seeds_of-more c bytes)))

-- one more pair of those that were gone through
pub more_pairs : (pairs : List Pair) (i : ℕ) (pair : Pair) → i < length pairs → pair ≡ get_or pairs i pair → pairs_of (take (i + 1) pairs) ≡ pairs_of (take i pairs) ++ pair_of pair ∷ []
more_pairs pairs i pair l e =
    ap pairs_of (take_more pairs i pair l)
    ∙ (map-append pair_of (take i pairs) (get_or pairs i pair ∷ []) ∙ ap (λ (p : Pair). pairs_of (take i pairs) ++ pair_of p ∷ []) (sym e))

pub one_more_chosen : (choice : List ℕ) (pairs : List Pair) (i : ℕ) (pair : Pair) (seeds new : List (List ℕ)) (seed : List ℕ) → i < length pairs → pair ≡ get_or pairs i pair
    → seeds ≡ chosen_from choice 0 (pairs_of (take i pairs)) → new ≡ seeds ++ seed ∷ [] → seed ≡ chosen_seed (bit_of choice i) (pair_of pair) → new ≡ chosen_from choice 0 (pairs_of (take (i + 1) pairs))
one_more_chosen choice pairs i pair seeds new seed l e made pushed chosen =
    let count : 0 + length (pairs_of (take i pairs)) ≡ i = omega (arith, length-map (take i pairs) pair_of, length-take-le i pairs (omega arith)) in
    pushed
    ∙ (ap (λ (front : List (List ℕ)). front ++ seed ∷ []) made
    ∙ (ap (λ (s : List ℕ). chosen_from choice 0 (pairs_of (take i pairs)) ++ s ∷ []) (chosen ∙ ap (λ (k : ℕ). chosen_seed (bit_of choice k) (pair_of pair)) (sym count))
    ∙ (sym (chosen_from-push choice 0 (pairs_of (take i pairs)) (pair_of pair)) ∙ ap (chosen_from choice 0) (sym (more_pairs pairs i pair l e)))))

flat_map-append : {A : Type 0} (f : A → List ℕ) (xs ys : List A) → flat_map f (xs ++ ys) ≡ flat_map f xs ++ flat_map f ys
flat_map-append f [] ys = refl
flat_map-append f (x ∷ xs) ys = ap (λ (rest : List ℕ). f x ++ rest) (flat_map-append f xs ys) ∙ sym (append_assoc (f x) (flat_map f xs) (flat_map f ys))

pub pairs_bytes-more : (start before after : List ℕ) (pairs : List Pair) (i : ℕ) (pair : Pair) → i < length pairs → pair ≡ get_or pairs i pair → before ≡ start ++ pairs_bytes (pairs_of (take i pairs)) → after ≡ (before ++ pair.zero) ++ pair.one
    → after ≡ start ++ pairs_bytes (pairs_of (take (i + 1) pairs))
pairs_bytes-more start before after pairs i pair l e made added =
    let both : List ℕ = pair.zero ++ pair.one in
    let more : pairs_bytes (pairs_of (take (i + 1) pairs)) ≡ pairs_bytes (pairs_of (take i pairs)) ++ both =
    ap pairs_bytes (more_pairs pairs i pair l e)
    ∙ (flat_map-append (λ pair. pair.zero ++ pair.one) (pairs_of (take i pairs)) (pair_of pair ∷ [])
    ∙ ap (λ (last : List ℕ). pairs_bytes (pairs_of (take i pairs)) ++ last) (append-nil both)) in
    added
    ∙ (append_assoc before pair.zero pair.one
    ∙ (ap (λ (front : List ℕ). front ++ both) made
    ∙ (append_assoc start (pairs_bytes (pairs_of (take i pairs))) both ∙ ap (λ (rest : List ℕ). start ++ rest) (sym more))))

pub seeds_bytes-more : (start before after : List ℕ) (seeds : List (List ℕ)) (i : ℕ) (seed : List ℕ) → i < length seeds → seed ≡ get_or seeds i seed → before ≡ start ++ seeds_bytes (take i seeds) → after ≡ before ++ seed
    → after ≡ start ++ seeds_bytes (take (i + 1) seeds)
seeds_bytes-more start before after seeds i seed l e made added =
    let more : seeds_bytes (take (i + 1) seeds) ≡ seeds_bytes (take i seeds) ++ seed =
    ap seeds_bytes (take_more seeds i seed l)
    ∙ (flat_map-append (λ seed. seed) (take i seeds) (get_or seeds i seed ∷ [])
    ∙ ap (λ (last : List ℕ). seeds_bytes (take i seeds) ++ last) (append-nil (get_or seeds i seed) ∙ sym e)) in
    added
    ∙ (ap (λ (front : List ℕ). front ++ seed) made
    ∙ (append_assoc start (seeds_bytes (take i seeds)) seed ∙ ap (λ (rest : List ℕ). start ++ rest) (sym more)))

pub all_pairs_bytes : (start bytes : List ℕ) (pairs : List Pair) (n : ℕ) → length pairs ≤ n → bytes ≡ start ++ pairs_bytes (pairs_of (take n pairs)) → bytes ≡ start ++ pairs_bytes (pairs_of pairs)
all_pairs_bytes start bytes pairs n l made = made ∙ ap (λ (xs : List Pair). start ++ pairs_bytes (pairs_of xs)) (take_all n pairs l)

pub all_seeds_bytes : (start bytes : List ℕ) (seeds : List (List ℕ)) (n : ℕ) → length seeds ≤ n → bytes ≡ start ++ seeds_bytes (take n seeds) → bytes ≡ start ++ seeds_bytes seeds
all_seeds_bytes start bytes seeds n l made = made ∙ ap (λ (xs : List (List ℕ)). start ++ seeds_bytes xs) (take_all n seeds l)

pub all_chosen : (choice : List ℕ) (pairs : List Pair) (seeds : List (List ℕ)) (n : ℕ) → length pairs ≤ n → seeds ≡ chosen_from choice 0 (pairs_of (take n pairs)) → seeds ≡ chosen_from choice 0 (pairs_of pairs)
all_chosen choice pairs seeds n l made = made ∙ ap (λ (xs : List Pair). chosen_from choice 0 (pairs_of xs)) (take_all n pairs l)
