-- What callers read of `local`, in its own words.
use Rattle.std.specs.Prelude.{◌≡◌, ◌<◌, ◌⊎◌, ℕ, List, [], ◌∷◌, Contains, length, nat_lt, Some, if◌then◌else◌}
use Rattle.sha2.specs.Sha256.{sha256}
use Rattle.psi_spec.specs.Deals.{ArePair}
use Rattle.psi_spec.specs.Items.{items_of}
use Rattle.psi_spec.specs.Limits.{bins_for, file_limit}
use Rattle.psi_spec.specs.Meeting.{Placed, SharesTag, shown, shown_placed}
use Rattle.psi_spec.specs.Placement.{Slot, IsPlacementOf}
use Rattle.psi_spec.specs.Records.{record_file}
use Rattle.psi_spec.specs.Texts.{lines_text}
use Rattle.psi_words.specs.Words.{word_at}
use Rattle.psi_base.specs.Outside.{Known, Outside, Files, printed_too, written}
use Rattle.psi_walk.specs.JudgedFiles.{HasBadLine, HasItems}
use Rattle.psi_local.specs.Local.{local_receiver, local_sender, local_session, local_setup}
use Rattle.psi_walk.specs.Promises.{IsCalm, IsDone, IsSilent, ReadFailed, WriteFailed}
use Rattle.psi_walk.specs.Placing.{slots_with, IsCrowdedSet}
use Rattle.psi_walk.specs.Tree.{End}
use Rattle.psi_texts.specs.declared.status.Status.{Status}
use Rattle.psi_texts.specs.declared.status.Status.TheVariants.{Done, BadItems, NoPlacement, FileFault, PrintFault, TooLong, NoMemory}
use Rattle.psi_walk.specs.Hiding.{HidesList}
use Rattle.psi_walk.specs.Inputs.{HasList, OnFirstOrSecond}

-- ---- what it may answer

-- both files have items, and a fact holds of the receiver's
pub record HasBoth (known : Known) (words : List (List ℕ)) (before : Outside) (P : List (List ℕ) → Type 0)
    : Type 0 where
  pub xs : List (List ℕ)
  pub ys : List (List ℕ)
  pub x_file : HasItems known words before 1 xs
  pub y_file : HasItems known words before 2 ys
  pub fact : P xs

-- these slots, which an outcome carries and no others, are the placement that is picked for items with the named deal
abbrev pub CarriesPlacement : List (List ℕ) → List (List Slot) → List (List ℕ) → Type 0
CarriesPlacement words placed xs =
    (slots : List Slot) × (placed ≡ slots ∷ [])
    × IsPlacementOf (local_receiver words).stash (local_receiver words).key (bins_for (length xs)) xs slots
    × (slots_with (local_receiver words) xs ≡ Some slots)

-- both files have items, and the receiver's were placed
abbrev pub WasPlaced : Known → List (List ℕ) → Outside → List (List Slot) → Type 0
WasPlaced known words before placed = HasBoth known words before (CarriesPlacement words placed)

-- there is a word for the file of the record
abbrev pub HasRecordWord : List (List ℕ) → Type 0
HasRecordWord words = 6 < length words

-- what `local` may answer, and why, in every world: the files are judged in order, then the receiver's items are
-- placed, the lines are printed, and the record is written
abbrev pub LocalAnswers : Known → List (List ℕ) → Outside → List (List Slot) → Status → Type 0
LocalAnswers known words before placed Done = WasPlaced known words before placed
LocalAnswers known words before placed (BadItems place fault) =
    OnFirstOrSecond known words before (λ word. (place ≡ word) × HasBadLine known words before word fault)
    × (placed ≡ [])
LocalAnswers known words before placed (NoPlacement place items touched) =
    (place ≡ 1) × HasBoth known words before (λ xs. IsCrowdedSet items touched xs (local_receiver words))
    × (placed ≡ [])
LocalAnswers known words before placed (FileFault place) =
    (OnFirstOrSecond known words before (λ word. place ≡ word) × ReadFailed known words place × (placed ≡ []))
    ⊎ ((place ≡ 6) × WriteFailed known words place × HasRecordWord words × WasPlaced known words before placed)
LocalAnswers known words before placed (TooLong place taken) =
    OnFirstOrSecond known words before (λ word. place ≡ word) × (file_limit < taken) × (placed ≡ [])
LocalAnswers known words before placed PrintFault = WasPlaced known words before placed
LocalAnswers known words before placed NoMemory = (placed ≡ []) ⊎ WasPlaced known words before placed
LocalAnswers known words before placed _ = ⊥

-- ---- what it leaves

-- the outside with the record written where there is a word for its file
abbrev pub recorded : List (List ℕ) → Outside → List ℕ → Outside
recorded words before file = if nat_lt 6 (length words) then written before (word_at words 6) file else before

-- the named deals are a pair and the outcome carries the placement that is picked for the receiver's items; with these
-- `local` printed the items that are shown, which are every common item, and others of which each shares its tag with
-- the sender's item that it names; it wrote the record of the session, if it has a word, and answered the digest of the
-- session; and what its receiver sends hides the list
pub record PrintedShown (known : Known) (words : List (List ℕ)) (before : Outside) (end : End) : Type 0 where
  pub xs : List (List ℕ)
  pub ys : List (List ℕ)
  pub slots : List Slot
  pub x_file : HasItems known words before 1 xs
  pub y_file : HasItems known words before 2 ys
  pub pair : ArePair (local_receiver words) (local_sender words)
  pub placement
      : IsPlacementOf (local_receiver words).stash (local_receiver words).key (bins_for (length xs)) xs slots
  pub picked : slots_with (local_receiver words) xs ≡ Some slots
  pub carried : end.placed ≡ slots ∷ []
  pub left : end.left
      ≡ recorded words (printed_too before (lines_text (shown (local_setup words xs slots) ys)))
      (record_file slots (local_session words xs slots ys))
  pub wire : end.wire ≡ Some (sha256 (local_session words xs slots ys))
  pub common : (item : List ℕ) → Contains xs item → Contains ys item
      → Contains (shown (local_setup words xs slots) ys) item
  pub others : (p : Placed) → Contains (shown_placed (local_setup words xs slots) ys) p
      → SharesTag (local_setup words xs slots) ys p
  pub hidden : HidesList (local_receiver words) xs slots

-- ---- completeness

-- both lists are there, and the receiver's items have a placement
pub record CanPlay (words : List (List ℕ)) (files : Files) : Type 0 where
  pub x : HasList words files 1
  pub y : HasList words files 2
  pub slots : List Slot
  pub placement
      : IsPlacementOf (local_receiver words).stash (local_receiver words).key (bins_for (length (items_of x.bytes)))
      (items_of x.bytes) slots

-- then `local` is done in a calm world, or memory was wanting
abbrev pub LocalCompletes : List (List ℕ) → Outside → End → Type 0
LocalCompletes words before end =
    (files : Files) → before.files ≡ Some files → CanPlay words files → IsCalm before end.left → IsDone end.status

-- ---- all of it

-- all that `local` promises: it answers so, sends and takes nothing, shows the common items where it is done, and
-- completes
pub record LocalPromise (known : Known) (words : List (List ℕ)) (before : Outside) (end : End) : Type 0 where
  pub answers : LocalAnswers known words before end.placed end.status
  pub silent : IsSilent before end.left
  pub shows : end.status ≡ Done → PrintedShown known words before end
  pub completes : LocalCompletes words before end
