-- Own tags and the tags of a block, both in rising order.
use Rattle.std.proofs.Common.{◌≡◌, ◌+◌, ◌-◌, ◌*◌, ◌<◌, ◌≤◌, ℕ, suc, zero, Bool, true, false, cond, not, ◌||◌, List, [], ◌∷◌, ◌++◌, length, take, drop, get_or, replicate, nat_cmp, is_lt, Ordering, Less, Equal, Greater, IsSorted, refl, sym, ap, ap₂, ◌∙◌, arith}
use Rattle.std.specs.Str.{bytes_eq}
use Rattle.std.specs.Cmp.{IsStrictWeakOrder}
use Rattle.std.specs.Cmp.Lexicographic.{slice_cmp}
use Rattle.std.specs.Ordering.{ordering_reverse, ordering_then, is_gt, is_eq}
use Rattle.std.proofs.lemmas.Bool.{false≢true}
use Rattle.std.proofs.lemmas.Cmp.{nat_list_cmp_total, tied_itself}
use Rattle.std.proofs.lemmas.List.{get_or-map, length-map}
use Rattle.std.proofs.lemmas.List.Elements.{All-from_recursion, All-get_or}
use Rattle.psi_spec.proofs.Frames.{tags_of-at}
use Rattle.psi_spec.proofs.StreamSteps.{length-tags_of, tags_of_are_long}
use Rattle.std.proofs.lemmas.List.Sorted.{sorted_far, ranks_by}
use Rattle.std.proofs.lemmas.List.Sums.{sum_by-cons}
use Rattle.std.proofs.lemmas.Map.Lookups.{exact_bytes}
use Rattle.psi_spec.specs.Formulas.{padded}
use Rattle.psi_spec.specs.Frames.{is_below, tags_of}
use Rattle.psi_spec.proofs.Lists.{same_test}
use Rattle.psi_spec.proofs.Tags.{bytes_eq-same, same_from_bytes_eq}
use Rattle.psi_receiver.specs.Marking.{IsBlock, PartsAt, not_above, padded_tags, tags_in}

-- ---- the order of tags

pub weak : IsStrictWeakOrder is_below
weak = ranks_by nat_list_cmp_total (λ (x : List ℕ). x)

turned : (r s : Ordering) → r ≡ ordering_reverse s → is_lt r ≡ is_gt s
turned r Less e = ap is_lt e
turned r Equal e = ap is_lt e
turned r Greater e = ap is_lt e

-- a tag is below another where that is above it
pub below_by_gt : (x tag : List ℕ) → is_below tag x ≡ is_gt (slice_cmp nat_cmp x tag)
below_by_gt x tag = turned (slice_cmp nat_cmp tag x) (slice_cmp nat_cmp x tag) (nat_list_cmp_total.antisymm tag x)

is_tie : (o : Ordering) → is_eq o ≡ true → o ≡ Equal
is_tie Less e = cc
is_tie Equal e = refl
is_tie Greater e = cc

-- tags are equal where they are so compared
pub same_by_eq : (x tag : List ℕ) → bytes_eq x tag ≡ is_eq (slice_cmp nat_cmp x tag)
same_by_eq x tag =
    same_test (bytes_eq x tag) (is_eq (slice_cmp nat_cmp x tag))
    (λ e. ap (λ (y : List ℕ). is_eq (slice_cmp nat_cmp x y)) (sym (same_from_bytes_eq x tag e)) ∙ ap is_eq (tied_itself nat_list_cmp_total x))
    (λ e. bytes_eq-same x tag (exact_bytes x tag (is_tie (slice_cmp nat_cmp x tag) e)))

neither : (r s : Ordering) → r ≡ ordering_reverse s → is_lt r ≡ false → is_lt s ≡ false → r ≡ Equal
neither Less s e a b = cc
neither Equal s e a b = refl
neither Greater Less e a b = cc
neither Greater Equal e a b = e
neither Greater Greater e a b = cc

pub one_of_two : (x y : List ℕ) → is_below x y ≡ false → is_below y x ≡ false → x ≡ y
one_of_two x y a b =
    exact_bytes x y (neither (slice_cmp nat_cmp x y) (slice_cmp nat_cmp y x) (nat_list_cmp_total.antisymm x y) a b)

not_below_itself : (x : List ℕ) → is_below x x ≡ false
not_below_itself x = ap is_lt (tied_itself nat_list_cmp_total x)

-- a tag that is above another differs from it
pub above_differs : (x tag : List ℕ) → is_below tag x ≡ true → bytes_eq x tag ≡ false
above_differs x tag above =
    same_test (bytes_eq x tag) false
    (λ e. sym (not_below_itself tag) ∙ ap (is_below tag) (sym (same_from_bytes_eq x tag e)) ∙ above) (λ e. absurd (false≢true e))

-- what is not above a tag is not above a later one
pub passed_later : (tag next x : List ℕ) → is_below tag x ≡ false → is_below next tag ≡ false → is_below next x ≡ false
passed_later tag next x a b = weak.chain next tag x b a

-- in rising tags all behind one that is above a tag are above it
pub above_later : (own : List (List ℕ)) (tag : List ℕ) (i j : ℕ) → IsSorted (slice_cmp nat_cmp) own → i ≤ j → j < length own
    → is_below tag (get_or own i []) ≡ true → is_below tag (get_or own j []) ≡ true
above_later own tag i j up le within above = by_case (is_below tag (get_or own j [])) refl
  where
    by_case : (b : Bool) → is_below tag (get_or own j []) ≡ b → b ≡ true
    by_case true e = refl
    by_case false e =
        sym (weak.chain tag (get_or own j []) (get_or own i []) e (sorted_far is_below weak own up i j [] le within)) ∙ above

-- ---- the place that parts own tags

-- it is how many of them are not above the tag
pub place_is_count : (tag : List ℕ) (own : List (List ℕ)) (at : ℕ) → PartsAt tag own at → at ≡ not_above tag own
place_is_count tag [] at parts = omega (arith, parts.within)
place_is_count tag (x ∷ own) zero parts =
    let here : not (is_below tag x) ≡ false = ap not (parts.behind 0 (omega arith) (omega arith)) in
    let later : 0 ≡ not_above tag own =
    place_is_count tag own 0 (record { within = omega arith; before = λ i l. absurd (omega arith); behind = λ i l w. parts.behind (suc i) (omega arith) (omega arith) }) in
    let more : not_above tag (x ∷ own) ≡ 0 + not_above tag own =
    sum_by-cons (λ y. cond (not (is_below tag y)) 1 0) x own ∙ ap (λ (b : Bool). cond b 1 0 + not_above tag own) here in
    omega (arith, later, more)
place_is_count tag (x ∷ own) (suc at) parts =
    let here : not (is_below tag x) ≡ true = ap not (parts.before 0 (omega arith)) in
    let all : suc at ≤ length (x ∷ own) = parts.within in
    let later : at ≡ not_above tag own = place_is_count tag own at (record {
      within = omega (arith, all);
      before = λ i l. parts.before (suc i) (omega arith);
      behind = λ i l w. parts.behind (suc i) (omega arith) (omega arith);
    }) in
    let more : not_above tag (x ∷ own) ≡ 1 + not_above tag own =
    sum_by-cons (λ y. cond (not (is_below tag y)) 1 0) x own ∙ ap (λ (b : Bool). cond b 1 0 + not_above tag own) here in
    omega (arith, later, more)

-- ---- padded tags

cmp-end : (end x y : List ℕ) → length x ≡ length y → slice_cmp nat_cmp (x ++ end) (y ++ end) ≡ slice_cmp nat_cmp x y
cmp-end end [] [] l = tied_itself nat_list_cmp_total end
cmp-end end [] (b ∷ y) l = absurd (omega arith)
cmp-end end (a ∷ x) [] l = absurd (omega arith)
cmp-end end (a ∷ x) (b ∷ y) l = ap (ordering_then (nat_cmp a b)) (cmp-end end x y (omega arith))

-- padding keeps the order of tags of one length
pub is_below-padded : (g : ℕ) (x y : List ℕ) → length x ≡ length y → is_below (padded g x) (padded g y) ≡ is_below x y
is_below-padded g x y l = ap is_lt (cmp-end (replicate (16 - g) 0) x y l)

pub length-padded_tags : (g : ℕ) (bytes : List ℕ) → length (padded_tags g bytes) ≡ tags_in g bytes
length-padded_tags g bytes =
    length-map (tags_of (tags_in g bytes) g bytes) (padded g) ∙ length-tags_of (tags_in g bytes) g bytes

pub get_or-padded_tags : (g : ℕ) (bytes : List ℕ) (k : ℕ) → k < tags_in g bytes
    → get_or (padded_tags g bytes) k [] ≡ padded g (take g (drop (k * g) bytes))
get_or-padded_tags g bytes k l =
    let many : length (tags_of (tags_in g bytes) g bytes) ≡ tags_in g bytes = length-tags_of (tags_in g bytes) g bytes in
    get_or-map (padded g) (tags_of (tags_in g bytes) g bytes) k [] [] (omega (arith, many))
    ∙ ap (padded g) (tags_of-at (tags_in g bytes) g bytes k l)

-- the tags of a block rise, padded
pub padded_tags_rise : (g : ℕ) (bytes : List ℕ) (k : ℕ) → IsBlock g bytes → k + 1 < tags_in g bytes
    → is_below (get_or (padded_tags g bytes) (k + 1) []) (get_or (padded_tags g bytes) k []) ≡ false
padded_tags_rise g bytes k is within =
    let tags : List (List ℕ) = tags_of (tags_in g bytes) g bytes in
    let many : length tags ≡ tags_in g bytes = length-tags_of (tags_in g bytes) g bytes in
    let long : (i : ℕ) → i < length tags → length (get_or tags i []) ≡ g =
    λ i l. All-get_or (λ tag. length tag ≡ g) tags i [] l
    (All-from_recursion (λ tag. length tag ≡ g) tags (tags_of_are_long (tags_in g bytes) g bytes is.whole)) in
    ap₂ is_below (get_or-map (padded g) tags (k + 1) [] [] (omega (arith, many))) (get_or-map (padded g) tags k [] [] (omega (arith, many)))
    ∙ (is_below-padded g (get_or tags (k + 1) []) (get_or tags k []) (long (k + 1) (omega (arith, many)) ∙ sym (long k (omega (arith, many))))
    ∙ is.rises k [] (omega arith) (omega (arith, many)))

-- ---- marks

pub or_later : (a b c : Bool) → ((a || b) || c) ≡ (a || (b || c))
or_later true b c = refl
or_later false b c = refl

pub or_kept : (b c : Bool) → (c ≡ true → b ≡ true) → b ≡ (b || c)
or_kept true c h = refl
or_kept false true h = absurd (false≢true (h refl))
or_kept false false h = refl

pub or_false : (hit eq : Bool) → eq ≡ false → hit ≡ (hit || eq)
or_false true eq e = refl
or_false false eq e = sym e

pub or_true : (hit eq : Bool) → eq ≡ true → true ≡ (hit || eq)
or_true true eq e = refl
or_true false eq e = sym e
