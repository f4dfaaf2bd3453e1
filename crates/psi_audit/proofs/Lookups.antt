-- Tags that are looked up.
use Rattle.std.proofs.Common.{◌≡◌, ◌+◌, ◌<◌, ◌∙◌, ℕ, zero, suc, Bool, true, false, cond, ◌&&◌, List, [], ◌∷◌, length, take, All, get_or, nat_eq, nat_lt, Option, Some, None, is_some, position, set, eq-eqb, refl, sym, ap, ap₂, subst, arith}
use Rattle.std.specs.Str.{bytes_eq}
use Rattle.std.proofs.lemmas.Bool.{eqb-true, false≢true, lt-ltb}
use Rattle.std.proofs.lemmas.List.{take_more, length-take-le}
use Rattle.std.proofs.lemmas.List.Elements.{All-push}
use Rattle.psi_spec.specs.Meeting.{Setup}
use Rattle.psi_spec.proofs.Tags.{same_from_bytes_eq, bytes_eq-same}
use Rattle.indexmap.specs.IndexMap.{get}
use Rattle.indexmap.specs.IndexSet.{contains}
use Rattle.psi_audit.specs.Naming.{IsHashed, hashed_tag, listed_peer_tag}
use Rattle.psi_audit.specs.Searching.{AreMarked, HasMet, HasMetAll, HasMetIn, IsBegun, KeepsWanted, Wants, found_at, same_listed, with_met}
use Rattle.psi_audit.specs.declared.naming.ListedTag.{ListedTag}
use Rattle.psi_audit.specs.declared.naming.Search.{Search}
use Rattle.psi_audit.specs.declared.peer.PeerItem.{PeerItem}
use Rattle.psi_audit.proofs.Positions.{position-push}
use Rattle.psi_audit.proofs.Tags.{hashed_is}

-- ---- equality

parts_true : (a b : Bool) → (a && b) ≡ true → (a ≡ true) × (b ≡ true)
parts_true true true h = (refl, refl)
parts_true true false h = absurd (false≢true h)
parts_true false b h = absurd (false≢true h)

-- tags that are found equal are one
pub same_from_test : (a b : ListedTag) → same_listed a b ≡ true → a ≡ b
same_from_test a b h =
    let parts = parts_true (nat_eq a.list b.list) (bytes_eq a.tag b.tag) h in
    let list : a.list ≡ b.list = eqb-true a.list b.list parts.0 in
    let tag : a.tag ≡ b.tag = same_from_bytes_eq a.tag b.tag parts.1 in
    λ i. record { list = list i; tag = tag i }

with_none : (has : Bool) (place : ℕ) (old new : Option ℕ) → old ≡ None → new ≡ cond has (Some place) old → new ≡ with_met has place old
with_none true place old new none is = is ∙ ap (with_met true place) (sym none)
with_none false place None new none is = is
with_none false place (Some x) new none is = is

pub not_met : (place : ℕ) (old : Option ℕ) → old ≡ with_met false place old
not_met place None = refl
not_met place (Some x) = refl

-- a tag that has a place keeps it
pub kept_by : (has : Bool) (place : ℕ) (old : Option ℕ) → (has ≡ true → is_some old ≡ true) → old ≡ with_met has place old
kept_by false place old some = not_met place old
kept_by true place None some = absurd (false≢true (some refl))
kept_by true place (Some x) some = refl

-- ---- one tag

-- where the tag is not wanted
pub met_unwanted : (tag : ListedTag) (place : ℕ) (s : Search) → contains same_listed s.wanted tag ≡ false → HasMet tag place s s
met_unwanted tag place s unwanted = record {
  keeps = record { wanted = refl; lists = refl };
  met = λ k wants. by_case k (same_listed tag k) refl wants;
}
  where
    by_case : (k : ListedTag) (b : Bool) → same_listed tag k ≡ b → Wants s k → found_at s k ≡ with_met b place (found_at s k)
    by_case k true e wants = absurd (false≢true (sym unwanted ∙ (ap (contains same_listed s.wanted) (same_from_test tag k e) ∙ wants)))
    by_case k false e wants = not_met place (found_at s k)

-- where it has a place
pub met_before : (tag : ListedTag) (place : ℕ) (s : Search) → is_some (found_at s tag) ≡ true → HasMet tag place s s
met_before tag place s some = record {
  keeps = record { wanted = refl; lists = refl };
  met = λ k wants. kept_by (same_listed tag k) place (found_at s k) (λ e. sym (ap (λ (t : ListedTag). is_some (found_at s t)) (same_from_test tag k e)) ∙ some);
}

none_of : (x : Option ℕ) → is_some x ≡ false → x ≡ None
none_of None h = refl
none_of (Some x) h = absurd (false≢true (sym h))

-- where it has none
pub met_first : (tag : ListedTag) (place : ℕ) (old new : Search) → KeepsWanted old new → is_some (found_at old tag) ≡ false
    → ((k : ListedTag) → found_at new k ≡ cond (same_listed tag k) (Some place) (found_at old k)) → HasMet tag place old new
met_first tag place old new keeps none is = record {
  keeps = keeps;
  met = λ k wants. by_case k (same_listed tag k) refl (is k);
}
  where
    by_case : (k : ListedTag) (b : Bool) → same_listed tag k ≡ b → found_at new k ≡ cond b (Some place) (found_at old k) → found_at new k ≡ with_met b place (found_at old k)
    by_case k true e h = with_none true place (found_at old k) (found_at new k) (sym (ap (found_at old) (same_from_test tag k e)) ∙ none_of (found_at old tag) none) h
    by_case k false e h = h ∙ not_met place (found_at old k)

-- ---- the search begins

same_itself : (a : ListedTag) → same_listed a a ≡ true
same_itself a = let list : nat_eq a.list a.list ≡ true = eq-eqb a.list a.list refl in let tag : bytes_eq a.tag a.tag ≡ true = bytes_eq-same a.tag a.tag refl in rw list tag

set_there : (xs : List Bool) (k : ℕ) → get_or (set xs k true) k true ≡ true
set_there [] k = refl
set_there (x ∷ xs) zero = refl
set_there (x ∷ xs) (suc k) = set_there xs k

set_other : (xs : List Bool) (k j : ℕ) → get_or xs j true ≡ true → get_or (set xs k true) j true ≡ true
set_other [] k j h = refl
set_other (x ∷ xs) zero zero h = refl
set_other (x ∷ xs) zero (suc j) h = h
set_other (x ∷ xs) (suc k) zero h = h
set_other (x ∷ xs) (suc k) (suc j) h = set_other xs k j h

cond_same : (b c : Bool) → c ≡ true → cond b true c ≡ true
cond_same true c h = refl
cond_same false c h = h

pub begun_more : (tags : List ListedTag) (i : ℕ) (d : ListedTag) (s new : Search) → i < length tags → IsBegun (take i tags) s
    → ((q : ListedTag) → contains same_listed new.wanted q ≡ cond (same_listed (get_or tags i d) q) true (contains same_listed s.wanted q))
    → new.lists ≡ set s.lists (get_or tags i d).list true → new.found ≡ s.found → IsBegun (take (i + 1) tags) new
begun_more tags i d s new within h is lists found =
    let t : ListedTag = get_or tags i d in
    let stays : (q : ListedTag) → Wants s q → Wants new q = λ q w. is q ∙ cond_same (same_listed t q) (contains same_listed s.wanted q) w in
    let here : Wants new t = is t ∙ ap (λ (b : Bool). cond b true (contains same_listed s.wanted t)) (same_itself t) in
    record {
      wants = subst (All (Wants new)) (sym (take_more tags i d within)) (All-push (Wants new) (take i tags) t (λ k e l. stays (get_or (take i tags) k e) (h.wants k e l)) here);
      marked = λ q w. ap (λ (ls : List Bool). get_or ls q.list true) lists ∙ by_case q (same_listed t q) refl (sym (is q) ∙ w);
      none = λ q. ap (λ (m : _). get same_listed m q) found ∙ h.none q;
    }
  where
    by_case : (q : ListedTag) (b : Bool) → same_listed (get_or tags i d) q ≡ b → cond b true (contains same_listed s.wanted q) ≡ true → get_or (set s.lists (get_or tags i d).list true) q.list true ≡ true
    by_case q true e w = subst (λ (t : ListedTag). get_or (set s.lists (get_or tags i d).list true) t.list true ≡ true) (same_from_test (get_or tags i d) q e) (set_there s.lists (get_or tags i d).list)
    by_case q false e w = set_other s.lists (get_or tags i d).list q.list (h.marked q w)

-- ---- the items of the sender

pub marked_kept : (old new : Search) → KeepsWanted old new → AreMarked old → AreMarked new
marked_kept old new keeps marked q w = ap (λ (ls : List Bool). get_or ls q.list true) keeps.lists ∙ marked q (sym (ap (λ (m : _). contains same_listed m q) keeps.wanted) ∙ w)

-- one item more
pub met_all_more : (s : Setup) (lists : ℕ) (ys : List (List ℕ)) (i : ℕ) (y : List ℕ) (h : PeerItem) (old mid new : Search) → i < length ys → get_or ys i [] ≡ y → IsHashed s.key s.bins y h
    → HasMetAll s lists (take i ys) old mid → HasMetIn s lists h i mid new → HasMetAll s lists (take (i + 1) ys) old new
met_all_more s lists ys i y h old mid new within at hashed before step = record {
  keeps = record { wanted = step.keeps.wanted ∙ before.keeps.wanted; lists = step.keeps.lists ∙ before.keeps.lists };
  met = λ k w low none.
      let wants : Wants mid k = ap (λ (m : _). contains same_listed m k) before.keeps.wanted ∙ w in
      let low_is : nat_lt k.list lists ≡ true = lt-ltb k.list lists low in
      let test : List ℕ → Bool = λ y. bytes_eq (listed_peer_tag s k.list y) k.tag in
      let count : length (take i ys) ≡ i = length-take-le i ys (omega arith) in
      step.met k wants
      ∙ (ap (λ (b : Bool). with_met (b && bytes_eq (hashed_tag s k.list h) k.tag) i (found_at mid k)) low_is
      ∙ (ap₂ (λ (t : List ℕ) (o : Option ℕ). with_met (bytes_eq t k.tag) i o) (hashed_is s k.list y h hashed ∙ ap (listed_peer_tag s k.list) (sym at)) (before.met k w low none)
      ∙ (sym (ap (position test) (take_more ys i [] within) ∙ position-push test (take i ys) (get_or ys i [])
      ∙ ap (λ (n : ℕ). with_met (test (get_or ys i [])) n (position test (take i ys))) count))));
}
