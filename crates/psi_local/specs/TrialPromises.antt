-- What callers read of `trial`, in its own words.
use Rattle.std.specs.Prelude.{◌≡◌, ◌⊎◌, ℕ, List, [], ◌∷◌, false, true, length, Some}
use Rattle.sha2.specs.Sha256.{sha256}
use Rattle.psi_spec.specs.Limits.{bins_for}
use Rattle.psi_spec.specs.Placement.{Slot, IsPlacementOf}
use Rattle.psi_base.specs.Outside.{Outside, printed_too}
use Rattle.psi_walk.specs.Promises.{IsCalm, IsDone, IsSilent}
use Rattle.psi_walk.specs.Tree.{End}
use Rattle.psi_local.specs.Trial.{trial_items, trial_receiver, trial_session, trial_text}
use Rattle.psi_texts.specs.declared.status.Status.{Status}
use Rattle.psi_texts.specs.declared.status.Status.TheVariants.{Done, NoPlacement, PrintFault, NoMemory}
use Rattle.psi_walk.specs.Placing.{IsCrowdedSet}

-- ---- what it may answer

-- these slots are a placement of the first made list with the deal of the seed
abbrev pub IsPlacedForTrial : List (List ℕ) → List Slot → Type 0
IsPlacedForTrial words slots =
    IsPlacementOf (trial_receiver words).stash (trial_receiver words).key (bins_for (length (trial_items false words)))
    (trial_items false words) slots

-- the outcome carries such slots, and no others
abbrev pub IsPlacedTrial : List (List ℕ) → List (List Slot) → Type 0
IsPlacedTrial words placed = (slots : List Slot) × (placed ≡ slots ∷ []) × IsPlacedForTrial words slots

-- what `trial` may answer, and why, in every world: the first list is placed, and the text is printed
abbrev pub TrialAnswers : List (List ℕ) → List (List Slot) → Status → Type 0
TrialAnswers words placed Done = IsPlacedTrial words placed
TrialAnswers words placed (NoPlacement place items touched) =
    (place ≡ 0) × IsCrowdedSet items touched (trial_items false words) (trial_receiver words) × (placed ≡ [])
TrialAnswers words placed PrintFault = IsPlacedTrial words placed
TrialAnswers words placed NoMemory = (placed ≡ []) ⊎ IsPlacedTrial words placed
TrialAnswers words placed _ = ⊥

-- ---- what it leaves

-- the outcome carries a placement of the first made list; with it `trial` printed the text, changed nothing else, and
-- answered the digest of the session
pub record RanTrial (words : List (List ℕ)) (before : Outside) (end : End) : Type 0 where
  pub slots : List Slot
  pub placement : IsPlacedForTrial words slots
  pub carried : end.placed ≡ slots ∷ []
  pub left : end.left
      ≡ printed_too before (trial_text words (trial_items false words) slots (trial_items true words))
  pub wire : end.wire
      ≡ Some (sha256 (trial_session words (trial_items false words) slots (trial_items true words)))

-- ---- completeness

-- where the first list has a placement, `trial` is done in a calm world, or memory was wanting
abbrev pub TrialCompletes : List (List ℕ) → Outside → End → Type 0
TrialCompletes words before end =
    (slots : List Slot) → IsPlacedForTrial words slots → IsCalm before end.left → IsDone end.status

-- ---- all of it

-- all that `trial` promises: it answers so, sends and takes nothing, prints where it is done, and completes
pub record TrialPromise (words : List (List ℕ)) (before : Outside) (end : End) : Type 0 where
  pub answers : TrialAnswers words end.placed end.status
  pub silent : IsSilent before end.left
  pub prints : end.status ≡ Done → RanTrial words before end
  pub completes : TrialCompletes words before end
