-- Where two deals differ, and that they are a pair where they do not.
use Rattle.std.proofs.Common.{◌≡◌, ◌+◌, ◌<◌, ◌≤◌, ◌↔◌, ◌∙◌, ℕ, suc, Bool, true, false, not, cond, List, [], ◌∷◌, length, drop, get_or, nat_eq, Option, Some, None, refl, sym, ap, ap₂, arith, eq-eqb, drop-cons}
use Rattle.std.specs.Prelude.{option_map, IsNone}
use Rattle.std.specs.Str.{bytes_eq}
use Rattle.std.proofs.lemmas.Bool.{eqb-true}
use Rattle.std.proofs.lemmas.List.{get_or-map, get_or_default, length-map, drop_all}
use Rattle.std.proofs.lemmas.Slice.Eq.{bytes_eq-Decides}
use Rattle.psi_spec.specs.Deals.{SeedPair, ReceiverDeal, SenderDeal, ArePair, chosen_from, chosen_seed}
use Rattle.psi_spec.specs.Bits.{bit_of}
use Rattle.psi_spec.proofs.Dealing.{length-chosen_from, get_or-chosen_from}
use Rattle.psi_deal.specs.declared.seeds.SeedPair.{SeedPair as Pair}
use Rattle.psi_deal.specs.declared.errors.DealField.{DealField}
use Rattle.psi_deal.specs.declared.errors.DealField.TheVariants.{Id, Session, Key, TagBytes, StashRows, Seed}
use Rattle.psi_deal.specs.Pairs.{pair_of, pairs_of}
use Rattle.psi_deal.specs.Differences.{differ_from, first_difference}

-- the search at a place, where the two seeds there agree or differ
pub differ_step : (c : ℕ) (xs ys : List (List ℕ)) (x y : List ℕ) → c < length xs → c < length ys → get_or xs c [] ≡ x → get_or ys c [] ≡ y → differ_from c (drop c xs) (drop c ys) ≡ cond (bytes_eq x y) (differ_from (c + 1) (drop (c + 1) xs) (drop (c + 1) ys)) (Some c)
differ_step c xs ys x y l m ex ey =
    let next : suc c ≡ c + 1 = omega arith in
    ap₂ (differ_from c) (drop-cons xs c [] l ∙ ap₂ (λ (z : List ℕ) (k : ℕ). z ∷ drop k xs) ex next) (drop-cons ys c [] m ∙ ap₂ (λ (z : List ℕ) (k : ℕ). z ∷ drop k ys) ey next)

-- the seed that is looked for at a place
pub chosen_at : (choice : List ℕ) (pairs : List Pair) (c : ℕ) (pair : Pair) → c < length pairs → pair ≡ get_or pairs c pair → get_or (chosen_from choice 0 (pairs_of pairs)) c [] ≡ chosen_seed (bit_of choice c) (pair_of pair)
chosen_at choice pairs c pair l e =
    let within : c < length (pairs_of pairs) = omega (arith, length-map pairs pair_of) in
    let at : SeedPair = get_or (pairs_of pairs) c (pair_of pair) in
    let first : get_or (chosen_from choice 0 (pairs_of pairs)) c [] ≡ chosen_seed (bit_of choice (0 + c)) at = get_or-chosen_from choice 0 (pairs_of pairs) c [] (pair_of pair) within in
    let place : 0 + c ≡ c = omega arith in
    first ∙ (ap (λ (k : ℕ). chosen_seed (bit_of choice k) at) place ∙ ap (chosen_seed (bit_of choice c)) (get_or-map pair_of pairs c pair (pair_of pair) l ∙ ap pair_of (sym e)))

same_heads : (c : ℕ) (x y : List ℕ) (xs ys : List (List ℕ)) (b : Bool) → bytes_eq x y ≡ b → (differ_from (c + 1) xs ys ≡ None → xs ≡ ys) → cond b (differ_from (c + 1) xs ys) (Some c) ≡ None → (x ∷ xs) ≡ (y ∷ ys)
same_heads c x y xs ys true e rest h =
    let first : x ≡ y = (bytes_eq-Decides x y).0 e in
    let others : xs ≡ ys = rest h in
    cc
same_heads c x y xs ys false e rest h = cc

-- lists of one length in which nothing differs are the same
same_from_none : (c : ℕ) (xs ys : List (List ℕ)) → length xs ≡ length ys → differ_from c xs ys ≡ None → xs ≡ ys
same_from_none c [] [] l h = refl
same_from_none c [] (y ∷ ys) l h = absurd (omega arith)
same_from_none c (x ∷ xs) [] l h = absurd (omega arith)
same_from_none c (x ∷ xs) (y ∷ ys) l h = same_heads c x y xs ys (bytes_eq x y) refl (λ rest. same_from_none (c + 1) xs ys (omega arith) rest) h

none_from_same : (c : ℕ) (xs : List (List ℕ)) → differ_from c xs xs ≡ None
none_from_same c [] = refl
none_from_same c (x ∷ xs) =
    let same : bytes_eq x x ≡ true = (bytes_eq-Decides x x).1 refl in
    rw same (none_from_same (c + 1) xs)

chain : Bool → Bool → Bool → Bool → Bool → Option ℕ → Option DealField
chain i n k g s seeds =
    cond (not i) (Some Id) (cond (not n) (Some Session) (cond (not k) (Some Key) (cond (not g) (Some TagBytes) (cond (not s) (Some StashRows) (option_map Seed seeds)))))

pub pair_from_none : (r : ReceiverDeal) (s : SenderDeal) → length r.seeds ≡ length s.chosen → first_difference r s ≡ None → ArePair r s
unfolding chain
pair_from_none r s l none =
    by_case (bytes_eq r.id s.id) (nat_eq r.session s.session) (bytes_eq r.key s.key) (nat_eq r.tag_length s.tag_length) (nat_eq r.stash s.stash) (differ_from 0 (chosen_from s.choice 0 r.seeds) s.chosen) refl refl refl refl refl refl none
  where
    by_case : (i n k g t : Bool) (d : Option ℕ) → bytes_eq r.id s.id ≡ i → nat_eq r.session s.session ≡ n → bytes_eq r.key s.key ≡ k → nat_eq r.tag_length s.tag_length ≡ g → nat_eq r.stash s.stash ≡ t → differ_from 0 (chosen_from s.choice 0 r.seeds) s.chosen ≡ d
        → chain i n k g t d ≡ None → ArePair r s
    by_case false n k g t d hi hn hk hg ht hd none = cc
    by_case true false k g t d hi hn hk hg ht hd none = cc
    by_case true true false g t d hi hn hk hg ht hd none = cc
    by_case true true true false t d hi hn hk hg ht hd none = cc
    by_case true true true true false d hi hn hk hg ht hd none = cc
    by_case true true true true true (Some c) hi hn hk hg ht hd none = cc
    by_case true true true true true None hi hn hk hg ht hd none = record {
      id = (bytes_eq-Decides r.id s.id).0 hi;
      session = eqb-true r.session s.session hn;
      key = (bytes_eq-Decides r.key s.key).0 hk;
      tag_length = eqb-true r.tag_length s.tag_length hg;
      stash = eqb-true r.stash s.stash ht;
      chosen = sym (same_from_none 0 (chosen_from s.choice 0 r.seeds) s.chosen (length-chosen_from s.choice 0 r.seeds ∙ l) hd);
    }

pub none_from_pair : (r : ReceiverDeal) (s : SenderDeal) → ArePair r s → first_difference r s ≡ None
none_from_pair r s h =
    let i : bytes_eq r.id s.id ≡ true = (bytes_eq-Decides r.id s.id).1 h.id in
    let n : nat_eq r.session s.session ≡ true = eq-eqb r.session s.session h.session in
    let k : bytes_eq r.key s.key ≡ true = (bytes_eq-Decides r.key s.key).1 h.key in
    let g : nat_eq r.tag_length s.tag_length ≡ true = eq-eqb r.tag_length s.tag_length h.tag_length in
    let t : nat_eq r.stash s.stash ≡ true = eq-eqb r.stash s.stash h.stash in
    let d : differ_from 0 (chosen_from s.choice 0 r.seeds) s.chosen ≡ None = ap (λ (xs : List (List ℕ)). differ_from 0 xs s.chosen) (sym h.chosen) ∙ none_from_same 0 s.chosen in
    rw (i, n, k, g, t, d) refl

-- nothing differs exactly where the deals are a pair
pub pair_exactly : (d : Option DealField) (r : ReceiverDeal) (s : SenderDeal) → length r.seeds ≡ length s.chosen → d ≡ first_difference r s → IsNone d ↔ ArePair r s
pair_exactly None r s l e = (λ h. pair_from_none r s l (sym e), λ p. refl)
pair_exactly (Some field) r s l e = (λ h. cc, λ p. let n = none_from_pair r s p in cc)

-- nothing is left to differ
pub none_left : (n : ℕ) (xs ys : List (List ℕ)) → length xs ≤ n → length ys ≤ n → differ_from n (drop n xs) (drop n ys) ≡ None
none_left n xs ys l m = ap₂ (differ_from n) (drop_all n xs l) (drop_all n ys m)

-- a seed that is made and compared at a place decides the search there
pub differ_here : (choice : List ℕ) (pairs : List Pair) (seeds : List (List ℕ)) (c i : ℕ) (seed : List ℕ) (same : Bool) → i ≡ c → c < length pairs → c < length seeds → seed ≡ chosen_seed (bit_of choice c) (pair_of (get_or pairs i (record { zero = []; one = [] }))) → bytes_eq seed (get_or seeds i []) ≡ same
    → differ_from c (drop c (chosen_from choice 0 (pairs_of pairs))) (drop c seeds) ≡ cond same (differ_from (c + 1) (drop (c + 1) (chosen_from choice 0 (pairs_of pairs))) (drop (c + 1) seeds)) (Some c)
differ_here choice pairs seeds c i seed same place l m made compared =
    let none : Pair = record { zero = []; one = [] } in
    let pair : Pair = get_or pairs c none in
    let all : List (List ℕ) = chosen_from choice 0 (pairs_of pairs) in
    let count : length all ≡ length pairs = length-chosen_from choice 0 (pairs_of pairs) ∙ length-map pairs pair_of in
    let here : get_or all c [] ≡ seed = chosen_at choice pairs c pair l (get_or_default pairs c none pair l) ∙ sym (made ∙ ap (λ (k : ℕ). chosen_seed (bit_of choice c) (pair_of (get_or pairs k none))) place) in
    differ_step c all seeds seed (get_or seeds c []) (omega arith) m here refl
    ∙ ap (λ (b : Bool). cond b (differ_from (c + 1) (drop (c + 1) all) (drop (c + 1) seeds)) (Some c)) (ap (λ (k : ℕ). bytes_eq seed (get_or seeds k [])) (sym place) ∙ compared)

pub same_from_not : (b : Bool) → not b ≡ false → b ≡ true
same_from_not true h = refl
same_from_not false h = cc

pub other_from_not : (b : Bool) → not b ≡ true → b ≡ false
other_from_not true h = cc
other_from_not false h = refl
