-- The promises of every run that follow from how it followed its tree.
use Rattle.std.proofs.Common.{◌≡◌, ◌==◌, ◌⊎◌, inl, inr, ℕ, Bool, true, false, List, slice_get, Option, Some, None, refl, sym, ap, ◌∙◌, subst, arith, if◌then◌else◌}
use Rattle.std.proofs.lemmas.Bool.Decides.{nat_tests}
use Rattle.psi_spec.specs.CrowdedLists.{touched_by}
use Rattle.psi_spec.specs.Placement.{Slot}
use Rattle.psi_base.specs.Outside.{Known, Outside, Rose, linked}
use Rattle.psi_frames.specs.Dialogue.{talked}
use Rattle.psi_walk.specs.Due.{Contents, Due, lacks, long, refusal, unplaced, reached, untold, due, told, lacking, without}
use Rattle.psi_walk.specs.Promises.{Completes, IsAnswered, IsCalm, IsCounted, IsDue, IsStoppedAt, IsStoppedBefore, IsWhatIsDue, OnDue, StandsAt, StandsBy}
use Rattle.psi_walk.specs.Tree.{Effect, says, puts, Tree, reads, refuses, places, opens, talks, holds, ends, End}
use Rattle.psi_walk.specs.Walk.{IsVerdict, Runs}
use Rattle.psi_texts.specs.declared.status.Status.{Status}
use Rattle.psi_texts.specs.declared.status.Status.TheVariants as status
use Rattle.psi_walk.proofs.Answered.{follows_answers}
use Rattle.psi_walk.proofs.Counted.{follows_counted}
use Rattle.psi_walk.proofs.Walked.{OnlyTalked, Early, verdict, unheard, short_of, missing, longer, excluded, unlinked, wanting, Met, early, late, follows_met}

-- what a run met and counted, where what decides it is told
met_told : (known : Known) (words : List (List ℕ)) (tree : Tree) (before : Outside) (end : End) → Runs known words tree before end
    → (P : (Option Contents → Due) → Option Contents → Type 0)
    → ((d : Option Contents → Due) (contents : Option Contents) → IsCounted words before end.status end.left → Met words d contents before end.status end.left → P d contents)
    → OnDue words before tree P
met_told known words tree before end h P law = λ is.
    law (λ c. due c before tree) (told before.files words) (follows_counted known words false tree before end h) (follows_met known words false tree before end is h)

-- ---- counts and words

-- no step answers `BadWords`
never_answered : (known : Known) (words : List (List ℕ)) (taken : Bool) (tree : Tree) (before : Outside) (slots : List (List Slot)) (at : ℕ) (after : Outside)
    → IsAnswered known words taken tree before slots (status.BadWords at) after → ⊥
never_answered known words taken (reads word limit next) before slots at after (inl h) = h.0
never_answered known words taken (reads word limit next) before slots at after (inr h) = never_answered known words taken (next h.0) before slots at after h.2
never_answered known words taken (refuses why) before slots at after (inl e, quiet, none) = cc e
never_answered known words taken (refuses why) before slots at after (inr h, quiet, none) = let f : IsVerdict (status.BadWords at) = subst IsVerdict (sym h.0) h.1 in f
never_answered known words taken (places word set next) before slots at after (inl h) = h.0
never_answered known words taken (places word set next) before slots at after (inr h) = never_answered known words taken (next h.0) before h.1 at after h.4
never_answered known words taken (opens link next) before slots at after (inl h) = h.0
never_answered known words taken (opens link next) before slots at after (inr h) = never_answered known words taken next (linked before link) slots at after h
never_answered known words taken (talks d next) before slots at after (inl h) = h.0
never_answered known words taken (talks d next) before slots at after (inr h) = never_answered known words taken (next h.0) (talked before (d.owes h.0) h.0) slots at after h.3
never_answered known words taken (holds next) before slots at after h = never_answered known words true next before slots at after h
never_answered known words taken (ends wire effects) before slots at after h = h.0.3

pub runs_in_words : (known : Known) (words : List (List ℕ)) (tree : Tree) (before : Outside) (end : End) (at : ℕ) → Runs known words tree before end
    → end.status ≡ status.BadWords at → ⊥
runs_in_words known words tree before end at h e =
    never_answered known words false tree before end.placed at end.left
    (subst (λ (s : Status). IsAnswered known words false tree before end.placed s end.left) e (follows_answers known words false tree before end h))

-- ---- refusals

verdict_due : (d : Option Contents → Due) (contents : Option Contents) (why : Status) → IsVerdict why → d contents ≡ refusal why → IsDue why d contents
verdict_due d contents status.Done v h = absurd v
verdict_due d contents (status.BadWords at) v h = absurd v
verdict_due d contents (status.NoPlacement word items touched) v h = absurd v
verdict_due d contents (status.FileFault word) v h = absurd v
verdict_due d contents status.LinkFault v h = tt
verdict_due d contents status.PrintFault v h = absurd v
verdict_due d contents (status.TooLong word taken) v h = absurd v
verdict_due d contents status.NoMemory v h = tt
verdict_due d contents why v h = h

early_due : (d : Option Contents → Due) (contents : Option Contents) (before : Outside) (why : Status) (after : Outside) → Early d contents before why after → IsDue why d contents
early_due d contents before why after (verdict v h) = verdict_due d contents why v h
early_due d contents before why after (unheard frame s h) = subst (λ (x : Status). IsDue x d contents) (sym s) h
early_due d contents before why after (short_of offset s h) = subst (λ (x : Status). IsDue x d contents) (sym s) h
early_due d contents before why after (missing word s h rose steady) = subst (λ (x : Status). IsDue x d contents) (sym s) (inl h)
early_due d contents before why after (longer word taken s h many) = subst (λ (x : Status). IsDue x d contents) (sym s) (h, many)
early_due d contents before why after (excluded word set items s h c) = subst (λ (x : Status). IsDue x d contents) (sym s) (set, h, c, refl)
early_due d contents before why after (unlinked s rose unsteady) = subst (λ (x : Status). IsDue x d contents) (sym s) tt
early_due d contents before why after (wanting s) = subst (λ (x : Status). IsDue x d contents) (sym s) tt

late_due : (d : Option Contents → Due) (contents : Option Contents) (mid : Outside) (effects : List Effect) (why : Status) (at : ℕ) (o : Option Effect)
    → d contents ≡ reached mid effects → slice_get effects at ≡ o → IsStoppedAt mid.steady o why → IsDue why d contents
late_due d contents mid effects why at None h e (inl s) = subst (λ (x : Status). IsDue x d contents) (sym s) (mid, effects, h)
late_due d contents mid effects why at None h e (inr s) = subst (λ (x : Status). IsDue x d contents) (sym s) tt
late_due d contents mid effects why at (Some (says text)) h e (inl s) =
    subst (λ (x : Status). IsDue x d contents) (sym s.0) (mid, effects, h, (at, says text, e, tt))
late_due d contents mid effects why at (Some (says text)) h e (inr s) = subst (λ (x : Status). IsDue x d contents) (sym s) tt
late_due d contents mid effects why at (Some (puts word bytes)) h e (inl s) =
    subst (λ (x : Status). IsDue x d contents) (sym s.0) (inr (mid, effects, h, (at, puts word bytes, e, refl)))
late_due d contents mid effects why at (Some (puts word bytes)) h e (inr s) = subst (λ (x : Status). IsDue x d contents) (sym s) tt

met_due : (words : List (List ℕ)) (d : Option Contents → Due) (contents : Option Contents) (before : Outside) (why : Status) (after : Outside)
    → Met words d contents before why after → IsDue why d contents
met_due words d contents before why after (early u h) = early_due d contents before why after h
met_due words d contents before why after (late mid effects t h s) = late_due d contents mid effects why s.whole (slice_get effects s.whole) h refl s.stopped

pub runs_exact : (known : Known) (words : List (List ℕ)) (tree : Tree) (before : Outside) (end : End) → Runs known words tree before end → OnDue words before tree (IsDue end.status)
runs_exact known words tree before end h =
    met_told known words tree before end h (IsDue end.status) (λ d contents counted m. met_due words d contents before end.status end.left m)

-- ---- completeness

-- taking away a file that is missing changes nothing
without_missing : (word : ℕ) (contents : Option Contents) (all : Contents) → contents ≡ Some all → all word ≡ None → without word contents ≡ contents
without_missing word contents all is e = subst (λ (o : Option Contents). without word o ≡ o) (sym is) (ap Some (λ i at. same at i))
  where
    same : (at : ℕ) → lacking word all at ≡ all at
    same at = by_test (at == word) refl
      where
        by_test : (b : Bool) → (at == word) ≡ b → (if b then None else all at) ≡ all at
        by_test true t = let e' : at ≡ word = grind (arith, nat_tests) in sym (ap all e' ∙ e)
        by_test false t = refl

answered : (d : Option Contents → Due) (contents : Option Contents) (why : Status) (x : Due) → d contents ≡ x → IsWhatIsDue x why → IsWhatIsDue (d contents) why ⊎ (why ≡ status.NoMemory)
answered d contents why x e h = inl (subst (λ (y : Due). IsWhatIsDue y why) (sym e) h)

early_completes : (d : Option Contents → Due) (contents : Option Contents) (before : Outside) (why : Status) (after : Outside) → IsCalm before after
    → Early d contents before why after → IsWhatIsDue (d contents) why ⊎ (why ≡ status.NoMemory)
early_completes d contents before why after calm (verdict v h) = answered d contents why (refusal why) h refl
early_completes d contents before why after calm (unheard frame s h) = answered d contents why (refusal (status.BadFrame frame)) h s
early_completes d contents before why after calm (short_of offset s h) = answered d contents why (refusal (status.PeerEnded offset)) h s
early_completes d contents before why after (inl was) (missing word s h rose steady) =
    let there = steady was in answered d contents why (lacks word) (sym (ap d (without_missing word contents there.0 there.1 there.2)) ∙ h) s
early_completes d contents before why after (inr quiet) (missing word s h rose steady) = absurd (quiet.0 rose)
early_completes d contents before why after calm (longer word taken s h many) = answered d contents why (long word) h (taken, s)
early_completes d contents before why after calm (excluded word set items s h c) =
    answered d contents why (unplaced word set) h (items, touched_by set.candidates items, s, c)
early_completes d contents before why after (inl was) (unlinked s rose unsteady) = absurd (let e : true ≡ false = sym was ∙ unsteady in cc e)
early_completes d contents before why after (inr quiet) (unlinked s rose unsteady) = absurd (quiet.2 rose)
early_completes d contents before why after calm (wanting s) = inr s

file_rose : (words : List (List ℕ)) (before : Outside) (why : Status) (after : Outside) (word : ℕ) → IsCounted words before why after → why ≡ status.FileFault word
    → Rose before.file_faults after.file_faults
file_rose words before why after word counted s =
    let f : IsCounted words before (status.FileFault word) after = subst (λ (x : Status). IsCounted words before x after) s counted in f.0

print_rose : (words : List (List ℕ)) (before : Outside) (why : Status) (after : Outside) → IsCounted words before why after → why ≡ status.PrintFault
    → Rose before.print_faults after.print_faults
print_rose words before why after counted s =
    let f : IsCounted words before status.PrintFault after = subst (λ (x : Status). IsCounted words before x after) s counted in f.0

late_completes : (words : List (List ℕ)) (d : Option Contents → Due) (contents : Option Contents) (before mid : Outside) (effects : List Effect) (why : Status) (after : Outside)
    (o : Option Effect) → mid.steady ≡ before.steady → IsCounted words before why after → IsCalm before after → d contents ≡ reached mid effects
    → IsStoppedAt mid.steady o why → IsWhatIsDue (d contents) why ⊎ (why ≡ status.NoMemory)
late_completes words d contents before mid effects why after None same counted calm h (inl s) = answered d contents why (reached mid effects) h s
late_completes words d contents before mid effects why after (Some (says text)) same counted (inl was) h (inl s) =
    absurd (let e : true ≡ false = sym was ∙ (sym same ∙ s.1) in cc e)
late_completes words d contents before mid effects why after (Some (says text)) same counted (inr quiet) h (inl s) =
    absurd (quiet.1 (print_rose words before why after counted s.0))
late_completes words d contents before mid effects why after (Some (puts word bytes)) same counted (inl was) h (inl s) =
    absurd (let e : true ≡ false = sym was ∙ (sym same ∙ s.1) in cc e)
late_completes words d contents before mid effects why after (Some (puts word bytes)) same counted (inr quiet) h (inl s) =
    absurd (quiet.0 (file_rose words before why after word counted s.0))
late_completes words d contents before mid effects why after None same counted calm h (inr s) = inr s
late_completes words d contents before mid effects why after (Some (says text)) same counted calm h (inr s) = inr s
late_completes words d contents before mid effects why after (Some (puts word bytes)) same counted calm h (inr s) = inr s

steady_talked : (before mid : Outside) → OnlyTalked before mid → mid.steady ≡ before.steady
unfolding OnlyTalked
steady_talked before mid t = ap (λ (o : Outside). o.steady) t

met_completes : (words : List (List ℕ)) (d : Option Contents → Due) (contents : Option Contents) (before : Outside) (why : Status) (after : Outside) → IsCounted words before why after
    → Met words d contents before why after → Completes before why after d contents
met_completes words d contents before why after counted (early u h) = λ calm. early_completes d contents before why after calm h
met_completes words d contents before why after counted (late mid effects t h s) = λ calm.
    late_completes words d contents before mid effects why after (slice_get effects s.whole) (steady_talked before mid t) counted calm h s.stopped

pub runs_complete : (known : Known) (words : List (List ℕ)) (tree : Tree) (before : Outside) (end : End) → Runs known words tree before end
    → OnDue words before tree (Completes before end.status end.left)
runs_complete known words tree before end h =
    met_told known words tree before end h (Completes before end.status end.left) (λ d contents counted m. met_completes words d contents before end.status end.left counted m)

-- ---- what stands

-- a run that was stopped early where all is there and good
stopped_before : (d : Option Contents → Due) (contents : Option Contents) (before : Outside) (why : Status) (after : Outside) (mid : Outside) (effects : List Effect)
    → d contents ≡ reached mid effects → Early d contents before why after → IsStoppedBefore why d contents
stopped_before d contents before why after mid effects e (verdict v h) = absurd (let f : refusal why ≡ reached mid effects = sym h ∙ e in cc f)
stopped_before d contents before why after mid effects e (unheard frame s h) = absurd (let f : refusal (status.BadFrame frame) ≡ reached mid effects = sym h ∙ e in cc f)
stopped_before d contents before why after mid effects e (short_of offset s h) = absurd (let f : refusal (status.PeerEnded offset) ≡ reached mid effects = sym h ∙ e in cc f)
stopped_before d contents before why after mid effects e (missing word s h rose steady) = subst (λ (x : Status). IsStoppedBefore x d contents) (sym s) h
stopped_before d contents before why after mid effects e (longer word taken s h many) =
    absurd (let f : long word ≡ reached mid effects = sym h ∙ e in cc f)
stopped_before d contents before why after mid effects e (excluded word set items s h c) =
    absurd (let f : unplaced word set ≡ reached mid effects = sym h ∙ e in cc f)
stopped_before d contents before why after mid effects e (unlinked s rose unsteady) = subst (λ (x : Status). IsStoppedBefore x d contents) (sym s) tt
stopped_before d contents before why after mid effects e (wanting s) = subst (λ (x : Status). IsStoppedBefore x d contents) (sym s) tt

met_stands : (words : List (List ℕ)) (d : Option Contents → Due) (contents : Option Contents) (before : Outside) (why : Status) (after : Outside)
    → Met words d contents before why after → StandsAt words before why after d contents
met_stands words d contents before why after (early u h) = by_due (d contents) refl
  where
    by_due : (x : Due) → d contents ≡ x → StandsBy words before why after (IsStoppedBefore why d contents) x
    by_due (lacks word) e = u
    by_due (long word) e = u
    by_due (refusal x) e = u
    by_due (unplaced word set) e = u
    by_due untold e = u
    by_due (reached mid effects) e = inr (stopped_before d contents before why after mid effects e h, u)
met_stands words d contents before why after (late mid effects t h s) =
    subst (λ (x : Due). StandsBy words before why after (IsStoppedBefore why d contents) x) (sym h) (inl s)

pub runs_stand : (known : Known) (words : List (List ℕ)) (tree : Tree) (before : Outside) (end : End) → Runs known words tree before end
    → OnDue words before tree (StandsAt words before end.status end.left)
runs_stand known words tree before end h =
    met_told known words tree before end h (StandsAt words before end.status end.left)
    (λ d contents counted m. met_stands words d contents before end.status end.left m)
