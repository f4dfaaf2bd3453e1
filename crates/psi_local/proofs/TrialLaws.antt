-- The promises of `trial` in its own words.
use Rattle.std.proofs.Common.{◌≡◌, inl, inr, ℕ, false, true, List, [], ◌∷◌, slice_get, zero, suc, Option, Some, ap, ◌∙◌, subst, sym}
use Rattle.psi_spec.specs.Placement.{Slot}
use Rattle.psi_base.specs.Outside.{Known, Outside}
use Rattle.sha2.specs.Sha256.{sha256}
use Rattle.psi_walk.specs.Due.{Contents, told}
use Rattle.psi_walk.specs.Promises.{IsAnswered, IsFailedEffect, IsOfEnd, IsReady, IsSilent, Leaves}
use Rattle.psi_walk.specs.Placing.{placing_of}
use Rattle.psi_walk.specs.Tree.{Effect, says, End}
use Rattle.psi_local.specs.Trial.{trial_items, trial_receiver, trial_rest, trial_session, trial_text, trial_tree}
use Rattle.psi_local.specs.TrialPromises.{IsPlacedForTrial, IsPlacedTrial, RanTrial, TrialAnswers, TrialPromise}
use Rattle.psi_walk.specs.Walk.{IsNotPlaced, Runs}
use Rattle.psi_texts.specs.declared.status.Status.{Status}
use Rattle.psi_texts.specs.declared.status.Status.TheVariants as status
use Rattle.psi_walk.proofs.Answered.{follows_answers}
use Rattle.psi_walk.proofs.Carried.{last_carries}
use Rattle.psi_walk.proofs.Unplaced.{ends_place_none}
use Rattle.psi_walk.proofs.Placings.{is_placement}
use Rattle.psi_walk.proofs.Left.{follows_leaves}
use Rattle.psi_walk.proofs.Through.{runs_through}
use Rattle.psi_walk.proofs.Wired.{runs_wired}
use Rattle.psi_walk.specs.Command.{Keeps}
use Rattle.psi_local.specs.Commands.{command_trial}

-- ---- what a run that is done left

trial_leaves : (known : Known) (words : List (List ℕ)) (before : Outside) (end : End) → Leaves known words (trial_tree words) before end → RanTrial words before end
trial_leaves known words before end h = record {
  slots = h.0;
  placement = is_placement (trial_receiver words) (trial_items false words) h.0 h.2;
  carried = ap (λ (d : End). d.placed) h.3 ∙ ap (λ (d : End). h.0 ∷ d.placed) h.4;
  left = ap (λ (d : End). d.left) h.3 ∙ ap (λ (d : End). d.left) h.4;
  wire = ap (λ (d : End). d.wire) h.3 ∙ ap (λ (d : End). d.wire) h.4;
}

-- ---- what `trial` may answer

not_placed : (words : List (List ℕ)) (slots : List (List Slot)) (why : Status) → IsNotPlaced 0 (placing_of (trial_receiver words) (trial_items false words)) why → slots ≡ []
    → TrialAnswers words slots why
unfolding placing_of
not_placed words slots (status.NoPlacement place items touched) h none = (h.0, (h.1.0, h.2), none)
not_placed words slots status.NoMemory h none = inl none
not_placed words slots _ h none = absurd h

-- no file is written
never_written : (known : Known) (words : List (List ℕ)) (text : List ℕ) (at : ℕ) (effect : Effect) (place : ℕ) → slice_get (says text ∷ []) at ≡ Some effect → IsFailedEffect known words (status.FileFault place) effect → ⊥
never_written known words text zero effect place e h =
    let f : IsFailedEffect known words (status.FileFault place) (says text) = subst (λ (x : Effect). IsFailedEffect known words (status.FileFault place) x) (sym (let same : says text ≡ effect = cc e in same)) h in f
never_written known words text (suc at) effect place e h = cc e

of_end : (known : Known) (words : List (List ℕ)) (slots : List (List Slot)) (text : List ℕ) → IsPlacedTrial words slots → (why : Status) → IsOfEnd known words false why (says text ∷ []) → TrialAnswers words slots why
of_end known words slots text was status.Done h = was
of_end known words slots text was status.PrintFault h = was
of_end known words slots text was status.NoMemory h = inr was
of_end known words slots text was (status.FileFault place) h = absurd (never_written known words text h.0 h.1 place h.2 h.3)
of_end known words slots text was _ h = absurd h.3

of_set : (known : Known) (words : List (List ℕ)) (before : Outside) (slots : List (List Slot)) (why : Status) (after : Outside)
    → IsAnswered known words false (trial_tree words) before slots why after → TrialAnswers words slots why
of_set known words before slots why after (inl a) = not_placed words slots why a.0 a.2
of_set known words before slots why after (inr a) =
    let chosen = a.0 in
    let xs = trial_items false words in
    let ys = trial_items true words in
    let end = a.4 in
    let carried : slots ≡ chosen ∷ [] =
    last_carries known words false (trial_rest words xs ys chosen) before chosen slots a.1 why after
    (ends_place_none (Some (sha256 (trial_session words xs chosen ys))) (says (trial_text words xs chosen ys) ∷ [])) a.3 end in
    of_end known words slots (trial_text words xs chosen ys) (chosen, carried, is_placement (trial_receiver words) xs chosen a.2) why end.0

-- nothing was sent or taken
is_silent : (known : Known) (words : List (List ℕ)) (before : Outside) (slots : List (List Slot)) (why : Status) (after : Outside)
    → IsAnswered known words false (trial_tree words) before slots why after → IsSilent before after
is_silent known words before slots why after (inl a) = a.1
is_silent known words before slots why after (inr a) = a.4.1

-- ---- a list that has a placement

trial_is_ready : (words : List (List ℕ)) (contents : Option Contents) (before : Outside) (slots : List Slot) → IsPlacedForTrial words slots → IsReady contents before (trial_tree words)
unfolding placing_of
trial_is_ready words contents before slots is = ((slots, is), λ chosen placed. tt)

-- ---- all that `trial` promises

trial_promise : (known : Known) (words : List (List ℕ)) (before : Outside) (end : End) → Runs known words (trial_tree words) before end → TrialPromise words before end
trial_promise known words before end h =
    let a = follows_answers known words false (trial_tree words) before end h in
    record {
      answers = of_set known words before end.placed end.status end.left a;
      silent = is_silent known words before end.placed end.status end.left a;
      prints = λ done. trial_leaves known words before end (follows_leaves known words false (trial_tree words) before end done h);
      completes = λ slots is calm. runs_through known words false (trial_tree words) before end h (trial_is_ready words (told before.files words) before slots is) calm;
    }

pub trial_keeps : (known : Known) (words : List (List ℕ)) (before : Outside) (end : End) → Runs known words (trial_tree words) before end
    → Keeps command_trial known words before end
trial_keeps known words before end h = record { promise = trial_promise known words before end h; wire = runs_wired known words (trial_tree words) before end h }
