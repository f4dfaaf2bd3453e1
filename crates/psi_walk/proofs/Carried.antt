-- Which placements are carried behind the last set that is placed.
use Rattle.std.proofs.Common.{◌≡◌, inl, inr, ℕ, Bool, true, false, List, [], ◌∷◌, Ok, refl, sym, ap, ◌∙◌, subst}
use Rattle.psi_spec.specs.Placement.{Slot}
use Rattle.psi_base.specs.Outside.{Known, Outside, linked}
use Rattle.psi_frames.specs.Dialogue.{talked}
use Rattle.psi_walk.specs.Promises.{IsAnswered}
use Rattle.psi_walk.specs.Tree.{Placing, Tree, reads, refuses, places, opens, talks, holds, ends, End, carried_by, carrying, with_slots}
use Rattle.psi_walk.specs.Walk.{Follows, IsVerdict, Places, Runs}
use Rattle.psi_texts.specs.declared.status.Status.{Status}
use Rattle.psi_texts.specs.declared.status.Status.TheVariants as status
use Rattle.psi_walk.proofs.Answered.{follows_answers}
use Rattle.psi_walk.proofs.Unplaced.{PlacesNone, none_is_placed}
use Rattle.psi_walk.proofs.Walks.{places_on}

-- where no set is placed, none is refused
none_is_refused : (known : Known) (words : List (List ℕ)) (taken : Bool) (tree : Tree) (before : Outside) (carried : List (List Slot)) (word : ℕ) (items : List ℕ) (touched : ℕ)
    (after : Outside) → PlacesNone tree → IsAnswered known words taken tree before carried (status.NoPlacement word items touched) after → ⊥
unfolding PlacesNone
none_is_refused known words taken (reads place limit next) before carried word items touched after p (inl h) = h.0
none_is_refused known words taken (reads place limit next) before carried word items touched after p (inr h) =
    none_is_refused known words taken (next h.0) before carried word items touched after (p h.0) h.2
none_is_refused known words taken (refuses why) before carried word items touched after p (inl e, quiet, none) = cc e
none_is_refused known words taken (refuses why) before carried word items touched after p (inr h, quiet, none) =
    let f : IsVerdict (status.NoPlacement word items touched) = subst IsVerdict (sym h.0) h.1 in f
none_is_refused known words taken (places place set next) before carried word items touched after p h = absurd p
none_is_refused known words taken (opens link next) before carried word items touched after p (inl h) = h.0
none_is_refused known words taken (opens link next) before carried word items touched after p (inr h) =
    none_is_refused known words taken next (linked before link) carried word items touched after p h
none_is_refused known words taken (talks d next) before carried word items touched after p (inl h) = h.0
none_is_refused known words taken (talks d next) before carried word items touched after p (inr h) =
    none_is_refused known words taken (next h.0) (talked before (d.owes h.0) h.0) carried word items touched after (p h.0) h.3
none_is_refused known words taken (holds next) before carried word items touched after p h =
    none_is_refused known words true next before carried word items touched after p h
none_is_refused known words taken (ends wire effects) before carried word items touched after p h = h.0.3

pub carries_all : (why : Status) (slots : List Slot) (rest : List (List Slot)) → ((word : ℕ) (items : List ℕ) (touched : ℕ) → why ≡ status.NoPlacement word items touched → ⊥)
    → carried_by why slots rest ≡ slots ∷ rest
carries_all (status.NoPlacement word items touched) slots rest h = absurd (h word items touched refl)
carries_all _ slots rest h = refl

-- where no set is placed, the status is of none
pub answers_unrefused : (known : Known) (words : List (List ℕ)) (taken : Bool) (tree : Tree) (before : Outside) (carried : List (List Slot)) (why : Status) (after : Outside)
    → PlacesNone tree → IsAnswered known words taken tree before carried why after → (word : ℕ) (items : List ℕ) (touched : ℕ) → why ≡ status.NoPlacement word items touched → ⊥
answers_unrefused known words taken tree before carried why after p h word items touched e =
    none_is_refused known words taken tree before carried word items touched after p (subst (λ (s : Status). IsAnswered known words taken tree before carried s after) e h)

-- the placements that are carried by what follows a set, and by that set before it
pub carries_on : (known : Known) (words : List (List ℕ)) (taken : Bool) (tree : Tree) (before : Outside) (slots : List Slot) (rest : List (List Slot)) (why : Status) (after : Outside)
    → PlacesNone tree → IsAnswered known words taken tree before rest why after → carried_by why slots rest ≡ slots ∷ rest
carries_on known words taken tree before slots rest why after p h = carries_all why slots rest (answers_unrefused known words taken tree before rest why after p h)

-- behind the last set just its slots are carried
pub last_carries : (known : Known) (words : List (List ℕ)) (taken : Bool) (tree : Tree) (before : Outside) (slots : List Slot) (carried rest : List (List Slot)) (why : Status)
    (after : Outside) → PlacesNone tree → carried ≡ carried_by why slots rest → IsAnswered known words taken tree before rest why after → carried ≡ slots ∷ []
last_carries known words taken tree before slots carried rest why after p e h =
    e ∙ carries_on known words taken tree before slots rest why after p h
    ∙ ap (λ (more : List (List Slot)). slots ∷ more) (none_is_placed known words taken tree before rest why after p h)

-- ---- the same of a run

-- a run along a tree that places no set is refused no set
pub runs_unrefused : (known : Known) (words : List (List ℕ)) (taken : Bool) (tree : Tree) (before : Outside) (end : End) → PlacesNone tree → Follows known words taken tree before end
    → (word : ℕ) (items : List ℕ) (touched : ℕ) → end.status ≡ status.NoPlacement word items touched → ⊥
runs_unrefused known words taken tree before end p h word items touched e =
    none_is_refused known words taken tree before end.placed word items touched end.left p
    (subst (λ (s : Status). IsAnswered known words taken tree before end.placed s end.left) e (follows_answers known words taken tree before end h))

-- so it carries the slots of the set before it
pub run_carries : (known : Known) (words : List (List ℕ)) (taken : Bool) (tree : Tree) (before : Outside) (end : End) (slots : List Slot) → PlacesNone tree
    → Follows known words taken tree before end → with_slots slots end ≡ carrying slots end
run_carries known words taken tree before end slots p h =
    ap (λ (placed : List (List Slot)). record end { placed = placed }) (carries_all end.status slots end.placed (runs_unrefused known words taken tree before end p h))

-- the last set that got its slots
pub places_last : (known : Known) (words : List (List ℕ)) (word : ℕ) (set : Placing) (next : List Slot → Tree) (before : Outside) (slots : List Slot) (later : End)
    → PlacesNone (next slots) → Places word set (Ok slots) → Runs known words (next slots) before later
    → Runs known words (places word set next) before (carrying slots later)
places_last known words word set next before slots later p is rest =
    subst (λ (end : End). Runs known words (places word set next) before end) (run_carries known words false (next slots) before later slots p rest)
    (places_on known words word set next before slots later is rest)
