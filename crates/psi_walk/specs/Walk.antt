-- How a run follows a tree of steps.
use Rattle.std.specs.Prelude.{◌≡◌, ℕ, Bool, true, false, List, ◌∷◌, [], Option, Some, None, Result, Ok, Err}
use Rattle.psi_spec.specs.Frames.{AreBytes}
use Rattle.psi_spec.specs.CrowdedLists.{IsCrowded, touched_by}
use Rattle.psi_spec.specs.Placement.{Slot, IsPlacement}
use Rattle.psi_words.specs.Words.{word_at}
use Rattle.psi_base.specs.Outside.{Known, Link, Outside, Reads, Writes, PrintsAll, Opens}
use Rattle.psi_base.specs.declared.faults.Fault.{Fault}
use Rattle.psi_base.specs.declared.faults.Fault.TheVariants as fault
use Rattle.psi_base.specs.declared.faults.ReadFault.{ReadFault}
use Rattle.psi_base.specs.declared.faults.ReadFault.TheVariants as read
use Rattle.psi_frames.specs.declared.turns.EndFault.{EndFault}
use Rattle.psi_frames.specs.declared.turns.EndFault.TheVariants as peer
use Rattle.psi_frames.specs.Dialogue.{Dialogue, Talks}
use Rattle.psi_walk.specs.Tree.{Effect, says, puts, Placing, slots_for, Tree, reads, refuses, places, opens, talks, holds, ends, End, stopped, with_slots}
use Rattle.psi_texts.specs.declared.status.Status.{Status}
use Rattle.psi_texts.specs.declared.status.Status.TheVariants as status

-- the status of each fault of the outside
abbrev pub read_status : ℕ → ReadFault → Status
read_status word read.Failed = status.FileFault word
read_status word (read.TooLong taken) = status.TooLong word taken
read_status word read.NoMemory = status.NoMemory

abbrev pub write_status : ℕ → Fault → Status
write_status word fault.Failed = status.FileFault word
write_status word fault.NoMemory = status.NoMemory

abbrev pub print_status : Fault → Status
print_status fault.Failed = status.PrintFault
print_status fault.NoMemory = status.NoMemory

abbrev pub open_status : Fault → Status
open_status fault.Failed = status.LinkFault
open_status fault.NoMemory = status.NoMemory

abbrev pub talk_status : EndFault → Status
talk_status (peer.Bad frame) = status.BadFrame frame
talk_status (peer.PeerEnded offset) = status.PeerEnded offset
talk_status peer.Link = status.LinkFault
talk_status peer.NoMemory = status.NoMemory

-- the statuses by which contents of files are refused
abbrev pub IsVerdict : Status → Type 0
IsVerdict (status.BadItems word why) = Unit {0}
IsVerdict (status.BadDeal word why) = Unit {0}
IsVerdict (status.Differs offset found wanted) = Unit {0}
IsVerdict (status.BadSlots why) = Unit {0}
IsVerdict (status.BadRecord why) = Unit {0}
IsVerdict (status.DealsDiffer field) = Unit {0}
IsVerdict (status.SizesDiffer first second) = Unit {0}
IsVerdict _ = ⊥

-- what a read of a file may answer and leave: what it gives are bytes
abbrev pub Gives : Known → Outside → List ℕ → ℕ → Result (List ℕ) ReadFault → Outside → Type 0
Gives known old name max (Ok bytes) new = AreBytes bytes × Reads known old name max (Ok bytes) new
Gives known old name max (Err why) new = Reads known old name max (Err why) new

-- a run at a call of the outside: memory was wanting before it, unless all was taken; the call was refused; or it was
-- answered, and the run went on
pub data AtCall {A E : Type 0} (taken : Bool) (Calls : Result A E → Outside → Type 0) (status_of : E → Status)
    (before : Outside) (end : End) (Rest : A → Outside → Type 0) : Type 0 where
  starved : taken ≡ false → end ≡ stopped status.NoMemory before → AtCall taken Calls status_of before end Rest
  cut : (why : E) (after : Outside) → Calls (Err why) after → end ≡ stopped (status_of why) after
      → AtCall taken Calls status_of before end Rest
  passed : (x : A) (after : Outside) → Calls (Ok x) after → Rest x after → AtCall taken Calls status_of before end Rest

-- the slots that a set gets: a placement, and those that are picked for it
abbrev pub IsPicked : Placing → List Slot → Type 0
IsPicked set slots = IsPlacement set.stash set.bins set.candidates slots × (slots_for set ≡ Some slots)

-- these items are crowded, which excludes a placement of the set, and none is picked
abbrev pub IsExcluded : Placing → List ℕ → Type 0
IsExcluded set items = IsCrowded set.stash set.candidates items × (slots_for set ≡ None)

-- a run at a set that is to be placed: memory was wanting, a crowded list excludes a placement, or it got its slots
pub data AtPlace (taken : Bool) (word : ℕ) (set : Placing) (before : Outside) (end : End)
    (Rest : List Slot → End → Type 0) : Type 0 where
  hungry : taken ≡ false → end ≡ stopped status.NoMemory before → AtPlace taken word set before end Rest
  crowded : (items : List ℕ) → IsExcluded set items
      → end ≡ stopped (status.NoPlacement word items (touched_by set.candidates items)) before
      → AtPlace taken word set before end Rest
  placed : (slots : List Slot) (later : End) → IsPicked set slots
      → end ≡ with_slots slots later → Rest slots later → AtPlace taken word set before end Rest

-- a run that is refused here with this status, unless memory was wanting
pub data AtRefusal (taken : Bool) (verdict : Status) (before : Outside) (end : End) : Type 0 where
  given_up : taken ≡ false → end ≡ stopped status.NoMemory before → AtRefusal taken verdict before end
  refused : IsVerdict verdict → end ≡ stopped verdict before → AtRefusal taken verdict before end

-- a run that has done all, unless memory was wanting
pub data AtEnd (taken : Bool) (wire : Option (List ℕ)) (before : Outside) (end : End) : Type 0 where
  gave_up : taken ≡ false → end ≡ stopped status.NoMemory before → AtEnd taken wire before end
  all_done : end ≡ record { status = status.Done; placed = []; wire = wire; left = before }
      → AtEnd taken wire before end

-- a run that is to do these in order; where all memory was taken, none is wanting
unfoldable pub Does : Known → List (List ℕ) → Bool → Option (List ℕ) → List Effect → Outside → End → Type 0
Does known words taken wire [] before end = AtEnd taken wire before end
Does known words taken wire (says text ∷ rest) before end =
    AtCall taken (PrintsAll before text) print_status before end (λ _ after. Does known words taken wire rest after end)
Does known words taken wire (puts word bytes ∷ rest) before end =
    AtCall taken (Writes known before (word_at words word) bytes) (write_status word) before end
    (λ _ after. Does known words taken wire rest after end)

-- a run of a command with these words, from this outside on; all memory is taken where a step says so
unfoldable pub Follows : Known → List (List ℕ) → Bool → Tree → Outside → End → Type 0
Follows known words taken (reads word limit next) before end =
    AtCall taken (Gives known before (word_at words word) limit) (read_status word) before end
    (λ bytes after. Follows known words taken (next bytes) after end)
Follows known words taken (refuses verdict) before end = AtRefusal taken verdict before end
Follows known words taken (places word set next) before end =
    AtPlace taken word set before end (λ slots later. Follows known words taken (next slots) before later)
Follows known words taken (opens link next) before end =
    AtCall taken (Opens known before link) open_status before end (λ _ after. Follows known words taken next after end)
Follows known words taken (talks dialogue next) before end =
    AtCall taken (Talks known dialogue before) talk_status before end
    (λ bytes after. Follows known words taken (next bytes) after end)
Follows known words taken (holds next) before end = Follows known words true next before end
Follows known words taken (ends wire effects) before end = Does known words taken wire effects before end

-- the same of a run that has taken no memory for good
abbrev pub Runs : Known → List (List ℕ) → Tree → Outside → End → Type 0
Runs known words tree before end = Follows known words false tree before end

-- what a step may answer and leave that has a value for what comes next: the run goes on from what it left, or ends
-- there
abbrev pub Steps : {A : Type 0} → Known → List (List ℕ) → ((A → Tree) → Tree) → Outside → Result A Status → Outside
    → Type 0
Steps known words step before (Ok x) after =
    (next : _ → Tree) (end : End) → Runs known words (next x) after end → Runs known words (step next) before end
Steps known words step before (Err why) after =
    (next : _ → Tree) → Runs known words (step next) before (stopped why after)

-- what a step may answer and leave that reads a file: what it gives are bytes, which whoever judges them knows
abbrev pub StepsRead : Known → List (List ℕ) → ℕ → ℕ → Outside → Result (List ℕ) Status → Outside → Type 0
StepsRead known words word limit before (Ok bytes) after =
    AreBytes bytes → Steps known words (reads word limit) before (Ok bytes) after
StepsRead known words word limit before (Err why) after = Steps known words (reads word limit) before (Err why) after

-- what a step may answer and leave that opens the link
abbrev pub StepsOpen : Known → List (List ℕ) → Link → Outside → Result (Unit {0}) Status → Outside → Type 0
StepsOpen known words link before (Ok _) after =
    (next : Tree) (end : End) → Runs known words next after end → Runs known words (opens link next) before end
StepsOpen known words link before (Err why) after =
    (next : Tree) → Runs known words (opens link next) before (stopped why after)

-- what a step may answer and leave that runs a session: the run goes on from the bytes that were taken, of which a fact
-- is known
abbrev pub StepsTalk : Known → List (List ℕ) → Dialogue → (List ℕ → Type 0) → Outside → Result (Unit {0}) Status
    → Outside → Type 0
StepsTalk known words d Told before (Ok _) after =
    (taken : List ℕ) × Told taken
    × ((next : List ℕ → Tree) (end : End) → Runs known words (next taken) after end
    → Runs known words (talks d next) before end)
StepsTalk known words d Told before (Err why) after =
    (next : List ℕ → Tree) → Runs known words (talks d next) before (stopped why after)

-- the statuses of a set that was not placed
abbrev pub IsNotPlaced : ℕ → Placing → Status → Type 0
IsNotPlaced word set (status.NoPlacement place items touched) =
    (place ≡ word) × IsExcluded set items × (touched ≡ touched_by set.candidates items)
IsNotPlaced word set status.NoMemory = Unit {0}
IsNotPlaced word set _ = ⊥

-- what a step may answer that places the set of a word: its slots, or why it has none
abbrev pub Places : ℕ → Placing → Result (List Slot) Status → Type 0
Places word set (Ok slots) = IsPicked set slots
Places word set (Err why) = IsNotPlaced word set why

-- what a step may answer and leave that prints a text or writes a file
abbrev pub Makes : Known → List (List ℕ) → Bool → Effect → Outside → Result (Unit {0}) Status → Outside → Type 0
Makes known words taken effect before (Ok _) after =
    (wire : Option (List ℕ)) (rest : List Effect) (end : End) → Follows known words taken (ends wire rest) after end
    → Follows known words taken (ends wire (effect ∷ rest)) before end
Makes known words taken effect before (Err why) after =
    (wire : Option (List ℕ)) (rest : List Effect)
    → Follows known words taken (ends wire (effect ∷ rest)) before (stopped why after)

-- what a step may answer and leave that does some effects in order
abbrev pub MakesAll : Known → List (List ℕ) → Bool → List Effect → Outside → Result (Unit {0}) Status → Outside
    → Type 0
MakesAll known words taken effects before (Ok _) after =
    (wire : Option (List ℕ)) (end : End) → Follows known words taken (ends wire []) after end
    → Follows known words taken (ends wire effects) before end
MakesAll known words taken effects before (Err why) after =
    (wire : Option (List ℕ)) → Follows known words taken (ends wire effects) before (stopped why after)

-- what a function that judges a value may answer: what is due, or that memory was wanting
abbrev pub Settles : {A : Type 0} → Result A Status → Result A Status → Type 0
Settles due (Ok x) = due ≡ Ok x
Settles due (Err status.NoMemory) = Unit {0}
Settles due (Err why) = (due ≡ Err why) × IsVerdict why

-- the status of a command that has nothing to answer but its end
abbrev pub status_of : Result (Unit {0}) Status → Status
status_of (Ok _) = status.Done
status_of (Err why) = why
