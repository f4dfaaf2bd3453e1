-- What callers read from how a run followed its tree.
use Rattle.std.specs.Prelude.{◌≡◌, ◌<◌, ◌≤◌, ◌⊎◌, ℕ, List, [], Option, Some, None, Err, Bool, IsTrue, true, false, length, take, slice_get}
use Rattle.psi_spec.specs.Frames.{AreBytes}
use Rattle.psi_spec.specs.CrowdedLists.{IsCrowded, touched_by}
use Rattle.psi_spec.specs.Placement.{Slot, IsPlacement}
use Rattle.psi_words.specs.Words.{word_at}
use Rattle.psi_base.specs.Outside.{Known, Link, Outside, HasFile, LacksFile, LinkFailed, Rose, linked, opening, reading, writing}
use Rattle.psi_frames.specs.declared.turns.EndFault.TheVariants as peer
use Rattle.psi_frames.specs.Dialogue.{Dialogue, CutOff, HeardBad, HeardShort, ReadSo, Talks, WereTaken, good, talked}
use Rattle.psi_walk.specs.Due.{Contents, Due, lacks, long, refusal, unplaced, reached, untold, IsTold, due, told, without, after_effects, after_part}
use Rattle.psi_walk.specs.Tree.{Effect, says, puts, Placing, Tree, reads, refuses, places, opens, talks, holds, ends, End, carried_by, carrying}
use Rattle.psi_walk.specs.Walk.{IsNotPlaced, IsPicked, IsVerdict}
use Rattle.psi_texts.specs.declared.status.Status.{Status}
use Rattle.psi_texts.specs.declared.status.Status.TheVariants.{Done, BadWords, NoPlacement, BadFrame, PeerEnded, FileFault, LinkFault, PrintFault, TooLong, NoMemory}

-- ---- counts, in every world

-- the counts of an outside
pub record Counts : Type 0 where
  pub file_faults : ℕ
  pub link_faults : ℕ
  pub print_faults : ℕ
  pub ends : ℕ
  pub refusals : ℕ

abbrev pub counts_of : Outside → Counts
counts_of o = record {
  file_faults = o.file_faults;
  link_faults = o.link_faults;
  print_faults = o.print_faults;
  ends = o.ends;
  refusals = o.refusals;
}

-- the count of the status's cause rose, and no other changed; without such a cause none did
abbrev pub IsCounted : List (List ℕ) → Outside → Status → Outside → Type 0
IsCounted words before (FileFault word) after =
    Rose before.file_faults after.file_faults
    × (IsTrue before.steady → LacksFile before.files (word_at words word))
    × (counts_of after ≡ record (counts_of before) { file_faults = after.file_faults })
IsCounted words before PrintFault after =
    Rose before.print_faults after.print_faults × (before.steady ≡ false)
    × (counts_of after ≡ record (counts_of before) { print_faults = after.print_faults })
IsCounted words before LinkFault after =
    Rose before.link_faults after.link_faults × (before.steady ≡ false)
    × (counts_of after ≡ record (counts_of before) { link_faults = after.link_faults })
IsCounted words before (PeerEnded offset) after =
    Rose before.ends after.ends × (counts_of after ≡ record (counts_of before) { ends = after.ends })
IsCounted words before NoMemory after =
    (before.refusals ≤ after.refusals)
    × (counts_of after ≡ record (counts_of before) { refusals = after.refusals })
IsCounted words before _ after = counts_of after ≡ counts_of before

-- ---- the status, in every world

-- a read gave these bytes as the file of a word, which has them where the files are told
pub record WasRead (known : Known) (words : List (List ℕ)) (before : Outside) (word limit : ℕ) (bytes : List ℕ)
    : Type 0 where
  pub file : HasFile before.files (word_at words word) bytes
  pub given : known.gives (word_at words word) bytes
  pub are_bytes : AreBytes bytes
  pub short : length bytes ≤ limit

-- a read of the file of a word failed, or a write of it
abbrev pub ReadFailed : Known → List (List ℕ) → ℕ → Type 0
ReadFailed known words word = known.fails (reading (word_at words word))

abbrev pub WriteFailed : Known → List (List ℕ) → ℕ → Type 0
WriteFailed known words word = known.fails (writing (word_at words word))

-- the statuses of a file that was not read
abbrev pub IsUnread : Known → List (List ℕ) → ℕ → ℕ → Status → Type 0
IsUnread known words word limit (FileFault place) = (place ≡ word) × ReadFailed known words place
IsUnread known words word limit (TooLong place taken) = (place ≡ word) × (limit < taken)
IsUnread known words word limit NoMemory = Unit {0}
IsUnread known words word limit _ = ⊥

-- the statuses of a link that was not opened
abbrev pub IsUnopened : Known → Link → Status → Type 0
IsUnopened known link LinkFault = known.fails (opening link)
IsUnopened known link NoMemory = Unit {0}
IsUnopened known link _ = ⊥

-- nothing was sent or taken over the link, and it was not opened
pub record IsSilent (before after : Outside) : Type 0 where
  pub incoming : after.incoming ≡ before.incoming
  pub outgoing : after.outgoing ≡ before.outgoing
  pub opened : after.opened ≡ before.opened

-- the statuses of a session that was cut off, with what was taken and sent at each; want of memory may come before it
abbrev pub IsNotTalked : Known → Dialogue → Outside → Status → Outside → Type 0
IsNotTalked known d before (BadFrame frame) after = HeardBad known d before frame after
IsNotTalked known d before (PeerEnded offset) after = HeardShort known d before offset after
IsNotTalked known d before LinkFault after = CutOff known d before (λ sent mid. LinkFailed mid after)
IsNotTalked known d before NoMemory after = (after ≡ before) ⊎ Talks known d before (Err peer.NoMemory) after
IsNotTalked known d before _ after = ⊥

-- the statuses of an end: a print can fail where a text is to be printed, and a write where that file is to be written
abbrev pub IsOfEffect : Status → Effect → Type 0
IsOfEffect PrintFault (says text) = Unit {0}
IsOfEffect (FileFault place) (puts word bytes) = place ≡ word
IsOfEffect why effect = ⊥

-- the same, where a write of that very file failed
abbrev pub IsFailedEffect : Known → List (List ℕ) → Status → Effect → Type 0
IsFailedEffect known words PrintFault (says text) = Unit {0}
IsFailedEffect known words (FileFault place) (puts word bytes) = (place ≡ word) × WriteFailed known words place
IsFailedEffect known words why effect = ⊥

-- one of these effects, of which a fact holds
abbrev pub OneOf : List Effect → (Effect → Type 0) → Type 0
OneOf effects P = (at : ℕ) × (effect : Effect) × (slice_get effects at ≡ Some effect) × P effect

-- once all memory is taken, only what is left to do can want any
abbrev pub IsOfEnd : Known → List (List ℕ) → Bool → Status → List Effect → Type 0
IsOfEnd known words taken Done effects = Unit {0}
IsOfEnd known words taken NoMemory effects = (taken ≡ false) ⊎ OneOf effects (λ effect. Unit {0})
IsOfEnd known words taken why effects = OneOf effects (IsFailedEffect known words why)

-- once all memory is taken, it is wanting only where a refusal of the outside was counted
abbrev pub IsHungry : Bool → Outside → Status → Outside → Type 0
IsHungry taken before NoMemory after = (taken ≡ false) ⊎ Rose before.refusals after.refusals
IsHungry taken before _ after = Unit {0}

-- the tree comes to a step that answers this status, along contents that reads gave, the slots that are picked for each
-- set, and bytes of a peer; these placements are carried, and no more was sent or taken than along it
abbrev pub IsAnswered
    : Known → List (List ℕ) → Bool → Tree → Outside → List (List Slot) → Status → Outside → Type 0
IsAnswered known words taken (reads word limit next) before carried why after =
    (IsUnread known words word limit why × IsSilent before after × (carried ≡ []))
    ⊎ ((bytes : List ℕ) × WasRead known words before word limit bytes
    × IsAnswered known words taken (next bytes) before carried why after)
IsAnswered known words taken (refuses verdict) before carried why after =
    ((why ≡ NoMemory) ⊎ ((why ≡ verdict) × IsVerdict verdict)) × IsSilent before after × (carried ≡ [])
IsAnswered known words taken (places word set next) before carried why after =
    (IsNotPlaced word set why × IsSilent before after × (carried ≡ []))
    ⊎ ((slots : List Slot) × (rest : List (List Slot)) × IsPicked set slots
    × (carried ≡ carried_by why slots rest) × IsAnswered known words taken (next slots) before rest why after)
IsAnswered known words taken (opens link next) before carried why after =
    (IsUnopened known link why × IsSilent before after × (carried ≡ []))
    ⊎ IsAnswered known words taken next (linked before link) carried why after
IsAnswered known words taken (talks d next) before carried why after =
    (IsNotTalked known d before why after × (carried ≡ []))
    ⊎ ((bytes : List ℕ) × WereTaken known before.incoming bytes × ReadSo d before.incoming bytes (good bytes)
    × IsAnswered known words taken (next bytes) (talked before (d.owes bytes) bytes) carried why after)
IsAnswered known words taken (holds next) before carried why after =
    IsAnswered known words true next before carried why after
IsAnswered known words taken (ends wire effects) before carried why after =
    IsOfEnd known words taken why effects × IsSilent before after × IsHungry taken before why after × (carried ≡ [])

-- ---- refusals, where the contents that decide are told

-- a fact on what a tree is due, where all that decides it is told: the files where it reads one, and the incoming bytes
-- where it runs a session
abbrev pub OnDue
    : List (List ℕ) → Outside → Tree → ((Option Contents → Due) → Option Contents → Type 0) → Type 0
OnDue words before tree P =
    IsTold (due (told before.files words) before tree)
    → P (λ contents. due contents before tree) (told before.files words)

-- what is left to do once all is read, placed and exchanged has an effect of which a fact holds
abbrev pub IsLeft : Due → (Effect → Type 0) → Type 0
IsLeft d P = (mid : Outside) × (effects : List Effect) × (d ≡ reached mid effects) × OneOf effects P

-- the file of a word has at least so many bytes
abbrev pub HasSoMany : Option Contents → ℕ → ℕ → Type 0
HasSoMany contents word count =
    (all : Contents) × (bytes : List ℕ) × (contents ≡ Some all) × (all word ≡ Some bytes) × (count ≤ length bytes)

-- each refusal comes only where it is due, with nothing before it refused: that of a file that was not read, where it
-- would be due if the file were missing
abbrev pub IsDue : Status → (Option Contents → Due) → Option Contents → Type 0
IsDue Done d contents = (mid : Outside) × (effects : List Effect) × (d contents ≡ reached mid effects)
IsDue (BadWords at) d contents = ⊥
IsDue (NoPlacement word items touched) d contents =
    (set : Placing) × (d contents ≡ unplaced word set) × IsCrowded set.stash set.candidates items
    × (touched ≡ touched_by set.candidates items)
IsDue (FileFault word) d contents =
    (d (without word contents) ≡ lacks word) ⊎ IsLeft (d contents) (IsOfEffect (FileFault word))
IsDue LinkFault d contents = Unit {0}
IsDue PrintFault d contents = IsLeft (d contents) (IsOfEffect PrintFault)
IsDue (TooLong word taken) d contents = (d contents ≡ long word) × HasSoMany contents word taken
IsDue NoMemory d contents = Unit {0}
IsDue why d contents = d contents ≡ refusal why

-- ---- completeness

-- the world is steady, or no count of faults rose
abbrev pub IsCalm : Outside → Outside → Type 0
IsCalm before after =
    IsTrue before.steady
    ⊎ ((Rose before.file_faults after.file_faults → ⊥) × (Rose before.print_faults after.print_faults → ⊥)
    × (Rose before.link_faults after.link_faults → ⊥))

-- this status is what is due
abbrev pub IsWhatIsDue : Due → Status → Type 0
IsWhatIsDue (lacks word) why = why ≡ FileFault word
IsWhatIsDue (long word) why = (taken : ℕ) × (why ≡ TooLong word taken)
IsWhatIsDue (refusal verdict) why = why ≡ verdict
IsWhatIsDue (unplaced word set) why =
    (items : List ℕ) × (touched : ℕ) × (why ≡ NoPlacement word items touched)
    × IsCrowded set.stash set.candidates items
IsWhatIsDue (reached mid effects) why = why ≡ Done
IsWhatIsDue untold why = ⊥

-- in a calm world what is due is answered, or memory was wanting: so a file fault comes exactly where the file that is
-- due is missing, and no other fault of the outside does
abbrev pub Completes : Outside → Status → Outside → (Option Contents → Due) → Option Contents → Type 0
Completes before why after d contents = IsCalm before after → IsWhatIsDue (d contents) why ⊎ (why ≡ NoMemory)

-- the run is done, or memory was wanting
abbrev pub IsDone : Status → Type 0
IsDone why = (why ≡ Done) ⊎ (why ≡ NoMemory)

-- the file of a word is there, with these bytes
abbrev pub HasBytes : Option Contents → ℕ → List ℕ → Type 0
HasBytes contents word bytes = (all : Contents) × (contents ≡ Some all) × (all word ≡ Some bytes)

-- the tree comes to its end, whatever placement is chosen of each set, which has one
abbrev pub IsReady : Option Contents → Outside → Tree → Type 0
IsReady contents before (reads word limit next) =
    (bytes : List ℕ) × HasBytes contents word bytes × (length bytes ≤ limit) × IsReady contents before (next bytes)
IsReady contents before (refuses verdict) = ⊥
IsReady contents before (places word set next) =
    ((slots : List Slot) × IsPlacement set.stash set.bins set.candidates slots)
    × ((slots : List Slot) → IsPlacement set.stash set.bins set.candidates slots → IsReady contents before (next slots))
IsReady contents before (opens link next) = IsReady contents (linked before link) next
IsReady contents before (talks d next) =
    (incoming taken : List ℕ) × (before.incoming ≡ Some incoming) × (d.reads_as incoming ≡ good taken)
    × IsReady contents (talked before (d.owes taken) taken) (next taken)
IsReady contents before (holds next) = IsReady contents before next
IsReady contents before (ends wire effects) = Unit {0}

-- from valid files, sets that have placements and a well-formed peer the run is done in a calm world, or memory was
-- wanting
abbrev pub ComesThrough : List (List ℕ) → Tree → Outside → End → Type 0
ComesThrough words tree before end =
    IsReady (told before.files words) before tree → IsCalm before end.left → IsDone end.status

-- ---- what stands

-- nothing was printed or written
pub record Untouched (before after : Outside) : Type 0 where
  pub files : after.files ≡ before.files
  pub printed : after.printed ≡ before.printed

-- why no more was done: all was done or memory was wanting, or what was begun failed, which is then the status, and
-- never comes in a steady world
abbrev pub IsStoppedAt : Bool → Option Effect → Status → Type 0
IsStoppedAt steady None why = (why ≡ Done) ⊎ (why ≡ NoMemory)
IsStoppedAt steady (Some (says text)) why = ((why ≡ PrintFault) × (steady ≡ false)) ⊎ (why ≡ NoMemory)
IsStoppedAt steady (Some (puts word bytes)) why = ((why ≡ FileFault word) × (steady ≡ false)) ⊎ (why ≡ NoMemory)

-- the first so many of what was to do are done whole, the next was not begun or is done in part, and nothing else was
-- printed or written
pub record Stands (words : List (List ℕ)) (effects : List Effect) (mid : Outside) (why : Status) (after : Outside)
    : Type 0 where
  pub whole : ℕ
  pub part : Option ℕ
  pub within : whole ≤ length effects
  pub stopped : IsStoppedAt mid.steady (slice_get effects whole) why
  pub files : after.files
      ≡ (after_part words (after_effects words mid (take whole effects)) (slice_get effects whole) part).files
  pub printed : after.printed
      ≡ (after_part words (after_effects words mid (take whole effects)) (slice_get effects whole) part).printed

-- the status of a run that was stopped before it had all to print and to write, though all is there and good: a file
-- could not be read, the link failed, or memory was wanting
abbrev pub IsStoppedBefore : Status → (Option Contents → Due) → Option Contents → Type 0
IsStoppedBefore (FileFault word) d contents = d (without word contents) ≡ lacks word
IsStoppedBefore LinkFault d contents = Unit {0}
IsStoppedBefore NoMemory d contents = Unit {0}
IsStoppedBefore _ d contents = ⊥

-- what stands, by what is due
abbrev pub StandsBy : List (List ℕ) → Outside → Status → Outside → Type 0 → Due → Type 0
StandsBy words before why after early (reached mid effects) =
    Stands words effects mid why after ⊎ (early × Untouched before after)
StandsBy words before why after early _ = Untouched before after

-- nothing was printed or written before all was read, placed and exchanged; and then what is due stands in order,
-- unless the run was stopped before
abbrev pub StandsAt
    : List (List ℕ) → Outside → Status → Outside → (Option Contents → Due) → Option Contents → Type 0
StandsAt words before why after d contents =
    StandsBy words before why after (IsStoppedBefore why d contents) (d contents)

-- what a run that is done read, placed, exchanged and left, in every world: along the whole tree
abbrev pub Leaves : Known → List (List ℕ) → Tree → Outside → End → Type 0
Leaves known words (reads word limit next) before end =
    (bytes : List ℕ) × WasRead known words before word limit bytes × Leaves known words (next bytes) before end
Leaves known words (refuses verdict) before end = ⊥
Leaves known words (places word set next) before end =
    (slots : List Slot) × (later : End) × IsPicked set slots
    × (end ≡ carrying slots later) × Leaves known words (next slots) before later
Leaves known words (opens link next) before end = Leaves known words next (linked before link) end
Leaves known words (talks d next) before end =
    (taken : List ℕ) × WereTaken known before.incoming taken × ReadSo d before.incoming taken (good taken)
    × Leaves known words (next taken) (talked before (d.owes taken) taken) end
Leaves known words (holds next) before end = Leaves known words next before end
Leaves known words (ends wire effects) before end =
    end ≡ record { status = Done; placed = []; wire = wire; left = after_effects words before effects }
