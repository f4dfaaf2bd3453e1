-- What callers read of `renew`, in its own words.
use Rattle.std.specs.Prelude.{◌≡◌, ◌<◌, ◌⊎◌, ℕ, List, [], Some}
use Rattle.psi_spec.specs.Limits.{file_limit}
use Rattle.psi_base.specs.Outside.{Known, Outside, Files, written}
use Rattle.psi_deal.specs.OldDeals.{IsOldFile, renewed}
use Rattle.psi_deal.specs.declared.old_files.OldDeal.{OldDeal}
use Rattle.psi_walk.specs.JudgedFiles.{HasBadOldDeal, HasOldDeal}
use Rattle.psi_walk.specs.Promises.{IsCalm, IsDone, IsSilent, ReadFailed, WriteFailed}
use Rattle.psi_walk.specs.Tree.{End}
use Rattle.psi_words.specs.Words.{word_at}
use Rattle.psi_texts.specs.declared.status.Status.{Status}
use Rattle.psi_texts.specs.declared.status.Status.TheVariants.{Done, BadDeal, FileFault, TooLong, NoMemory}

-- ---- what it leaves

-- the first file was read and is the file of version 1 of a deal; the file of version 2 of that deal, for the same end,
-- was written as the second, and nothing else changed
pub record WroteRenewed (known : Known) (words : List (List ℕ)) (before after : Outside) : Type 0 where
  pub deal : OldDeal
  pub old : HasOldDeal known words before 1 deal
  pub left : after ≡ written before (word_at words 2) (renewed deal)

-- ---- what it may answer

-- the first file was read and is the file of version 1 of a deal
abbrev pub AfterOldDeal : Known → List (List ℕ) → Outside → Type 0
AfterOldDeal known words before = (deal : OldDeal) × HasOldDeal known words before 1 deal

-- what `renew` may answer, and why, in every world: the first file is judged, and then the second one is written
abbrev pub RenewAnswers : Known → List (List ℕ) → Outside → Status → Outside → Type 0
RenewAnswers known words before Done after = WroteRenewed known words before after
RenewAnswers known words before (BadDeal place fault) after = (place ≡ 1) × HasBadOldDeal known words before 1 fault
RenewAnswers known words before (FileFault place) after =
    ((place ≡ 1) × ReadFailed known words place)
    ⊎ ((place ≡ 2) × WriteFailed known words place × AfterOldDeal known words before)
RenewAnswers known words before (TooLong place taken) after = (place ≡ 1) × (file_limit < taken)
RenewAnswers known words before NoMemory after = Unit {0}
RenewAnswers known words before _ after = ⊥

-- ---- completeness

-- the first file is there, and is the file of version 1 of a deal
pub record CanRenew (words : List (List ℕ)) (files : Files) : Type 0 where
  pub deal : OldDeal
  pub bytes : List ℕ
  pub there : files (word_at words 1) ≡ Some bytes
  pub old : IsOldFile deal bytes

-- then `renew` is done in a calm world, or memory was wanting
abbrev pub RenewCompletes : List (List ℕ) → Outside → End → Type 0
RenewCompletes words before end =
    (files : Files) → before.files ≡ Some files → CanRenew words files → IsCalm before end.left → IsDone end.status

-- ---- all of it

-- all that `renew` promises: it answers so, sends and takes nothing, places no set, and completes
pub record RenewPromise (known : Known) (words : List (List ℕ)) (before : Outside) (end : End) : Type 0 where
  pub answers : RenewAnswers known words before end.status end.left
  pub silent : IsSilent before end.left
  pub places_none : end.placed ≡ []
  pub completes : RenewCompletes words before end
