-- What callers read of `twin`, in its own words.
use Rattle.std.specs.Prelude.{◌≡◌, ◌≢◌, ◌<◌, ◌⊎◌, ℕ, List, [], ◌∷◌, length, Some, None}
use Rattle.psi_spec.specs.Changes.{columns_file}
use Rattle.psi_spec.specs.ColumnSets.{ColumnSets}
use Rattle.psi_spec.specs.DealFiles.{receiver_bytes, sender_bytes}
use Rattle.psi_spec.specs.Deals.{ReceiverDeal, SenderDeal, ArePair, IsReceiverDeal, IsSenderDeal}
use Rattle.psi_spec.specs.HidingLaws.{HidesSet, change_between}
use Rattle.psi_spec.specs.Items.{items_of}
use Rattle.psi_spec.specs.Limits.{bins_for, file_limit}
use Rattle.psi_spec.specs.Meeting.{Placed, placed_of}
use Rattle.psi_spec.specs.Placement.{Slot, IsPlacementOf}
use Rattle.psi_spec.specs.Streams.{receiver_stream}
use Rattle.psi_words.specs.Words.{word_at}
use Rattle.psi_base.specs.Outside.{Known, Outside, Files, written}
use Rattle.psi_deal.specs.Differences.{first_difference}
use Rattle.psi_walk.specs.JudgedFiles.{HasBadLine, HasBadReceiverDeal, HasBadSenderDeal, HasItems, HasReceiverDeal, HasSenderDeal}
use Rattle.psi_walk.specs.Promises.{IsCalm, IsDone, IsSilent, ReadFailed, WriteFailed}
use Rattle.psi_walk.specs.Tree.{End}
use Rattle.psi_twin.specs.Twin.{dealt_for}
use Rattle.psi_texts.specs.declared.status.Status.{Status}
use Rattle.psi_texts.specs.declared.status.Status.TheVariants.{Done, BadItems, BadDeal, NoPlacement, FileFault, TooLong, DealsDiffer, SizesDiffer, NoMemory}
use Rattle.psi_walk.specs.Placing.{IsCrowdedSet}
use Rattle.psi_walk.specs.Inputs.{OnFirstOrSecond, HasList, AfterDeal, AfterLists, AfterItems}

-- ---- what it reads

-- both lists and both deals
pub record Twins : Type 0 where
  pub xs : List (List ℕ)
  pub others : List (List ℕ)
  pub receiver : ReceiverDeal
  pub sender : SenderDeal

-- all four files were read and judged, and hold these
pub record HasTwins (known : Known) (words : List (List ℕ)) (before : Outside) (t : Twins) : Type 0 where
  pub x_file : HasItems known words before 1 t.xs
  pub other_file : HasItems known words before 2 t.others
  pub r_file : HasReceiverDeal known words before 3 t.receiver
  pub s_file : HasSenderDeal known words before 4 t.sender

-- the same, and a fact holds of what they hold
abbrev pub OnTwins : Known → List (List ℕ) → Outside → (Twins → Type 0) → Type 0
OnTwins known words before P = (t : Twins) × HasTwins known words before t × P t

-- the file of this word is due to be read: each file before it was read and judged
abbrev pub IsDueInput : Known → List (List ℕ) → Outside → ℕ → Type 0
IsDueInput known words before word =
    (word ≡ 1)
    ⊎ (((word ≡ 2) × AfterItems known words before 1)
    ⊎ (((word ≡ 3) × AfterLists known words before) ⊎ ((word ≡ 4) × AfterDeal known words before)))

-- the deals are a pair, and both lists have one number of items
pub record AreTwins (t : Twins) : Type 0 where
  pub pair : ArePair t.receiver t.sender
  pub sizes : length t.others ≡ length t.xs

-- ---- what it places

-- these slots are a placement of a list with a deal
abbrev pub IsPlacedWith : ReceiverDeal → List (List ℕ) → List Slot → Type 0
IsPlacedWith deal xs slots = IsPlacementOf deal.stash deal.key (bins_for (length xs)) xs slots

-- the outcome carries a placement of the first list, and no other
abbrev pub CarriesFirst : Twins → List (List Slot) → Type 0
CarriesFirst t placed = (slots : List Slot) × (placed ≡ slots ∷ []) × IsPlacedWith t.receiver t.xs slots

-- it carries placements of both lists, in their order
abbrev pub CarriesBoth : Twins → List (List Slot) → Type 0
CarriesBoth t placed =
    (slots : List Slot) × (others : List Slot) × (placed ≡ slots ∷ others ∷ [])
    × IsPlacedWith t.receiver t.xs slots × IsPlacedWith t.receiver t.others others

-- all was read and judged, and both lists were placed
abbrev pub WerePlaced : Known → List (List ℕ) → Outside → List (List Slot) → Type 0
WerePlaced known words before placed = OnTwins known words before (λ t. AreTwins t × CarriesBoth t placed)

-- one of both lists has no placement: the first, or the second where the first has one
abbrev pub IsUnplacedIn : ℕ → List ℕ → ℕ → Twins → Type 0
IsUnplacedIn place items touched t =
    ((place ≡ 1) × IsCrowdedSet items touched t.xs t.receiver)
    ⊎ ((place ≡ 2) × IsCrowdedSet items touched t.others t.receiver
    × ((slots : List Slot) × IsPlacedWith t.receiver t.xs slots))

-- ---- what it may answer

-- what `twin` may answer, and why, in every world: the files are judged in order, then the deals and the numbers of the
-- items; the first list is placed, then the second; and then both files are written
abbrev pub TwinAnswers : Known → List (List ℕ) → Outside → List (List Slot) → Status → Type 0
TwinAnswers known words before placed Done = WerePlaced known words before placed
TwinAnswers known words before placed (BadItems place fault) =
    OnFirstOrSecond known words before (λ word. (place ≡ word) × HasBadLine known words before word fault)
    × (placed ≡ [])
TwinAnswers known words before placed (BadDeal place fault) =
    (((place ≡ 3) × AfterLists known words before × HasBadReceiverDeal known words before 3 fault)
    ⊎ ((place ≡ 4) × AfterDeal known words before × HasBadSenderDeal known words before 4 fault))
    × (placed ≡ [])
TwinAnswers known words before placed (DealsDiffer field) =
    OnTwins known words before (λ t. first_difference t.receiver t.sender ≡ Some field) × (placed ≡ [])
TwinAnswers known words before placed (SizesDiffer first second) =
    OnTwins known words before
    (λ t. ArePair t.receiver t.sender × (first ≡ length t.xs) × (second ≡ length t.others) × (first ≢ second))
    × (placed ≡ [])
TwinAnswers known words before placed (NoPlacement place items touched) =
    OnTwins known words before (λ t. AreTwins t × IsUnplacedIn place items touched t) × (placed ≡ [])
TwinAnswers known words before placed (FileFault place) =
    (IsDueInput known words before place × ReadFailed known words place × (placed ≡ []))
    ⊎ (((place ≡ 5) ⊎ (place ≡ 6)) × WriteFailed known words place × WerePlaced known words before placed)
TwinAnswers known words before placed (TooLong place taken) =
    IsDueInput known words before place × (file_limit < taken) × (placed ≡ [])
TwinAnswers known words before placed NoMemory =
    (placed ≡ [])
    ⊎ OnTwins known words before (λ t. AreTwins t × (CarriesFirst t placed ⊎ CarriesBoth t placed))
TwinAnswers known words before placed _ = ⊥

-- ---- what it leaves, and what is hidden

-- the first list in its slots, and the second in its own
abbrev pub first_set : Twins → List Slot → List Placed
first_set t slots = placed_of t.xs slots

abbrev pub second_set : Twins → List Slot → List Placed
second_set t others = placed_of t.others others

-- the dealt columns, and these after the change
abbrev pub dealt_columns : Twins → ColumnSets
dealt_columns t = dealt_for t.receiver (length t.xs)

abbrev pub changed_columns : Twins → List Slot → List Slot → ColumnSets
changed_columns t slots others =
    change_between t.receiver t.sender.choice (first_set t slots) (second_set t others) (dealt_columns t)

-- the outcome carries a placement of each list; `twin` wrote the stream of the first over the dealt columns, and then
-- the changed columns, over which the second has that same stream, and nothing else changed. And over all columns,
-- whatever they are, such a change hides from the sender which of both placed sets the receiver has
pub record HidTwins (known : Known) (words : List (List ℕ)) (before : Outside) (end : End) : Type 0 where
  pub t : Twins
  pub files : HasTwins known words before t
  pub twins : AreTwins t
  pub slots : List Slot
  pub others : List Slot
  pub first : IsPlacedWith t.receiver t.xs slots
  pub second : IsPlacedWith t.receiver t.others others
  pub carried : end.placed ≡ slots ∷ others ∷ []
  pub left : end.left
      ≡ written
      (written before (word_at words 5) (receiver_stream t.receiver (first_set t slots) (dealt_columns t)))
      (word_at words 6) (columns_file (changed_columns t slots others))
  pub same : receiver_stream t.receiver (second_set t others) (changed_columns t slots others)
      ≡ receiver_stream t.receiver (first_set t slots) (dealt_columns t)
  pub hidden : HidesSet t.receiver t.sender.choice (first_set t slots) (second_set t others)

-- ---- completeness

-- all four files are there: lists of one number of items without a bad line, and a pair of deals; and both lists have a
-- placement
pub record CanTwin (words : List (List ℕ)) (files : Files) : Type 0 where
  pub x : HasList words files 1
  pub other : HasList words files 2
  pub receiver : ReceiverDeal
  pub receiver_is : IsReceiverDeal receiver
  pub r_there : files (word_at words 3) ≡ Some (receiver_bytes receiver)
  pub sender : SenderDeal
  pub sender_is : IsSenderDeal sender
  pub s_there : files (word_at words 4) ≡ Some (sender_bytes sender)
  pub pair : ArePair receiver sender
  pub sizes : length (items_of other.bytes) ≡ length (items_of x.bytes)
  pub slots : List Slot
  pub first : IsPlacedWith receiver (items_of x.bytes) slots
  pub others : List Slot
  pub second : IsPlacedWith receiver (items_of other.bytes) others

-- then `twin` is done in a calm world, or memory was wanting
abbrev pub TwinCompletes : List (List ℕ) → Outside → End → Type 0
TwinCompletes words before end =
    (files : Files) → before.files ≡ Some files → CanTwin words files → IsCalm before end.left → IsDone end.status

-- ---- all of it

-- all that `twin` promises: it answers so, sends and takes nothing, shows what is hidden where it is done, and
-- completes
pub record TwinPromise (known : Known) (words : List (List ℕ)) (before : Outside) (end : End) : Type 0 where
  pub answers : TwinAnswers known words before end.placed end.status
  pub silent : IsSilent before end.left
  pub hides : end.status ≡ Done → HidTwins known words before end
  pub completes : TwinCompletes words before end
