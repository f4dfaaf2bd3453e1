-- One tag more of a block.
use Rattle.std.proofs.Common.{◌≡◌, ◌<◌, ◌≤◌, ◌+◌, ◌-◌, ◌*◌, ◌∙◌, ℕ, suc, List, take, drop, cond, Bool, true, false, Some, None, Option, ap, sym, arith}
use Rattle.psi_spec.specs.Frames.{tags_of, is_below, first_below}
use Rattle.psi_spec.proofs.Frames.{below_from}

-- of what is left, one is the next
one_less : (count at : ℕ) → at < count → count - at ≡ suc (count - (at + 1))
one_less count at more = omega arith

times_more : (n width : ℕ) → suc n * width ≡ width + n * width
times_more n width = omega arith

pub long_more : (count at width : ℕ) → at < count → (count - at) * width ≡ width + (count - (at + 1)) * width
long_more count at width more = ap (λ (n : ℕ). n * width) (one_less count at more) ∙ times_more (count - (at + 1)) width

-- the first of the tags that are left is the next one or comes later
pub first_more : (count at width : ℕ) (before rest : List ℕ) → at < count
    → below_from at before (tags_of (count - at) width rest)
    ≡ cond (is_below (take width rest) before) (Some at) (below_from (at + 1) (take width rest) (tags_of (count - (at + 1)) width (drop width rest)))
first_more count at width before rest more = ap (λ (n : ℕ). below_from at before (tags_of n width rest)) (one_less count at more)

-- where the next one is not below the tag before it, the first comes later
pub first_later : (count at width : ℕ) (before rest tag later : List ℕ) → at < count → tag ≡ take width rest → later ≡ drop width rest → is_below tag before ≡ false
    → below_from (at + 1) tag (tags_of (count - (at + 1)) width later) ≡ below_from at before (tags_of (count - at) width rest)
first_later count at width before rest tag later more here after fine =
    let next : List ℕ → List ℕ → Option ℕ = λ t r. below_from (at + 1) t (tags_of (count - (at + 1)) width r) in
    sym (first_more count at width before rest more
    ∙ ap (λ (t : List ℕ). cond (is_below t before) (Some at) (next t (drop width rest))) (sym here)
    ∙ ap (λ (b : Bool). cond b (Some at) (next tag (drop width rest))) fine
    ∙ ap (next tag) (sym after))

-- no tag is left
pub first_end : (count at width : ℕ) (before rest : List ℕ) → count ≤ at → below_from at before (tags_of (count - at) width rest) ≡ None
first_end count at width before rest all =
    let none : count - at ≡ 0 = omega arith in
    ap (λ (n : ℕ). below_from at before (tags_of n width rest)) none

-- where the next one is below the tag before it, it is the first
pub first_here : (count at width : ℕ) (before rest tag : List ℕ) → at < count → tag ≡ take width rest → is_below tag before ≡ true
    → Some at ≡ below_from at before (tags_of (count - at) width rest)
first_here count at width before rest tag more here falls =
    let later : Option ℕ = below_from (at + 1) (take width rest) (tags_of (count - (at + 1)) width (drop width rest)) in
    let first : is_below (take width rest) before ≡ true = ap (λ (t : List ℕ). is_below t before) (sym here) ∙ falls in
    sym (first_more count at width before rest more ∙ ap (λ (b : Bool). cond b (Some at) later) first)

-- before any is judged, all are left
pub first_start : (count width : ℕ) (before tags : List ℕ) → below_from 0 before (tags_of (count - 0) width tags) ≡ first_below before (tags_of count width tags)
first_start count width before tags = let all : count - 0 ≡ count = omega arith in ap (λ (n : ℕ). below_from 0 before (tags_of n width tags)) all
