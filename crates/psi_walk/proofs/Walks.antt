-- Steps from what their functions answer.
use Rattle.std.proofs.Common.{◌≡◌, ℕ, Bool, false, true, List, [], ◌∷◌, Option, None, Ok, Err, IsErrAnd, refl, sym, ap₂, subst}
use Rattle.std.specs.declared.result.Result.{Result}
use Rattle.psi_spec.specs.CrowdedLists.{touched_by}
use Rattle.psi_spec.specs.Frames.{AreBytes}
use Rattle.psi_spec.specs.Placement.{Slot}
use Rattle.psi_spec.specs.Records.{LoggedSession}
use Rattle.psi_base.specs.Outside.{Known, Outside}
use Rattle.psi_walk.specs.Files.{reads_file, reads_record}
use Rattle.psi_walk.specs.Tree.{Placing, Tree, reads, refuses, places, opens, talks, holds, ends, Effect, says, puts, decides, End, stopped, end_of, with_slots, ended}
use Rattle.psi_frames.specs.Dialogue.{Dialogue, Talks}
use Rattle.psi_frames.specs.declared.turns.EndFault.{EndFault}
use Rattle.psi_walk.specs.Walk.{Places, StepsTalk, crowded, cut, passed, placed, talk_status, starved, hungry, given_up, refused, gave_up, all_done, IsVerdict, Does, Follows, Runs, Settles, Steps, StepsRead}
use Rattle.psi_walk.specs.declared.outcome.Outcome.{Outcome}
use Rattle.psi_texts.specs.declared.status.Status.{Status}
use Rattle.psi_texts.specs.declared.status.Status.TheVariants as status

does_starve : (known : Known) (words : List (List ℕ)) (wire : Option (List ℕ)) (effects : List Effect) (before : Outside)
    → Does known words false wire effects before (stopped status.NoMemory before)
unfolding Does
does_starve known words wire [] before = gave_up refl refl
does_starve known words wire (says text ∷ effects) before = starved refl refl
does_starve known words wire (puts word bytes ∷ effects) before = starved refl refl

-- memory may be wanting where a run comes to the tree
abbrev pub CanStarve : Tree → Type 0
CanStarve (holds next) = ⊥
CanStarve _ = Unit {0}

-- so a run may end there for want of it
pub starves : (known : Known) (words : List (List ℕ)) (tree : Tree) (before : Outside) → CanStarve tree
    → Runs known words tree before (stopped status.NoMemory before)
unfolding Follows
starves known words (reads word limit next) before can = starved refl refl
starves known words (refuses verdict) before can = given_up refl refl
starves known words (places word set next) before can = hungry refl refl
starves known words (opens link next) before can = starved refl refl
starves known words (talks d next) before can = starved refl refl
starves known words (holds next) before can = absurd can
starves known words (ends wire effects) before can = does_starve known words wire effects before

pub decides_starve : {A : Type 0} (due : Result A Status) (next : A → Tree) → ((x : A) → CanStarve (next x)) → CanStarve (decides due next)
unfolding decides
decides_starve (Ok x) next can = can x
decides_starve (Err why) next can = tt

goes_on : {A : Type 0} (x : A) (next : A → Tree) (known : Known) (words : List (List ℕ)) (before : Outside) (end : End)
    → Runs known words (next x) before end → Runs known words (decides (Ok x) next) before end
unfolding decides
goes_on x next known words before end later = later

is_refused : {A : Type 0} (due : Result A Status) (why : Status) → due ≡ Err why → IsVerdict why
    → (known : Known) (words : List (List ℕ)) (before : Outside) (next : A → Tree)
    → Runs known words (decides due next) before (stopped why before)
unfolding Follows decides
is_refused due why e v known words before next =
    subst (λ (r : Result _ Status). Runs known words (decides r next) before (stopped why before)) (sym e) (refused v refl)

-- a value that was judged: the run goes on with it
pub settled : {A : Type 0} (due : Result A Status) (x : A) → Settles due (Ok x) → (known : Known) (words : List (List ℕ)) (before : Outside)
    → (next : A → Tree) (end : End) → Runs known words (next x) before end → Runs known words (decides due next) before end
settled due x h known words before next end later =
    subst (λ (r : Result _ Status). Runs known words (decides r next) before end) (sym h)
    (goes_on x next known words before end later)

-- or it is refused, or memory was wanting
pub settles_out : {A : Type 0} (known : Known) (words : List (List ℕ)) (due : Result A Status) (next : A → Tree)
    (before : Outside) (why : Status) → Settles due (Err why) → ((x : A) → CanStarve (next x))
    → Runs known words (decides due next) before (stopped why before)
settles_out known words due next before status.NoMemory h can = starves known words (decides due next) before (decides_starve due next can)
settles_out known words due next before why h can = is_refused due why h.0 h.1 known words before next

-- a file that was read and judged: a read leaves all as it was, so want of memory behind it is want of memory before it
pub then_judged : {A : Type 0} (known : Known) (words : List (List ℕ)) (word limit : ℕ) (judge : List ℕ → Result A Status)
    (before after : Outside) (bytes : List ℕ) (result : Result A Status)
    → StepsRead known words word limit before (Ok bytes) after → after ≡ before → AreBytes bytes → Settles (judge bytes) result
    → Steps known words (λ next. reads word limit (λ bytes. decides (judge bytes) next)) before result after
then_judged known words word limit judge before after bytes (Ok x) read same are_bytes h = λ next end later.
    read are_bytes (λ bytes. decides (judge bytes) next) end (settled (judge bytes) x h known words after next end later)
then_judged known words word limit judge before after bytes (Err status.NoMemory) read same are_bytes h = λ next.
    subst (λ (o : Outside). Runs known words (reads word limit (λ bytes. decides (judge bytes) next)) before (stopped status.NoMemory o)) (sym same)
    (starves known words (reads word limit (λ bytes. decides (judge bytes) next)) before tt)
then_judged known words word limit judge before after bytes (Err why) read same are_bytes h = λ next.
    read are_bytes (λ bytes. decides (judge bytes) next) (stopped why after) (is_refused (judge bytes) why h.0 h.1 known words after next)

-- a run of which all is done
pub ends_done : (known : Known) (words : List (List ℕ)) (taken : Bool) (before : Outside)
    → Follows known words taken (ends None []) before (stopped status.Done before)
unfolding Follows Does
ends_done known words taken before = all_done refl

-- a run that was refused for want of memory
pub starves_out : (known : Known) (words : List (List ℕ)) (tree : Tree) (before : Outside) (r : Result Outcome Status)
    → CanStarve tree → IsErrAnd r (λ why. why ≡ status.NoMemory) → Runs known words tree before (end_of r before)
starves_out known words tree before (Ok outcome) can h = absurd h
starves_out known words tree before (Err why) can h =
    subst (λ (s : Status). Runs known words tree before (stopped s before)) (sym h) (starves known words tree before can)

pub decides_ok : {A : Type 0} (x : A) (next : A → Tree) → decides (Ok x) next ≡ next x
unfolding decides
decides_ok x next = refl

-- a session that was done, and one that ended early
pub talks_on : (known : Known) (words : List (List ℕ)) (d : Dialogue) (Told : List ℕ → Type 0) (before after : Outside) (taken : List ℕ) (x : Unit {0})
    → Talks known d before (Ok taken) after → Told taken → StepsTalk known words d Told before (Ok x) after
unfolding Follows
talks_on known words d Told before after taken x h told = (taken, told, λ next end later. passed taken after h later)

pub talks_out : (known : Known) (words : List (List ℕ)) (d : Dialogue) (Told : List ℕ → Type 0) (before after : Outside) (why : EndFault)
    → Talks known d before (Err why) after → StepsTalk known words d Told before (Err (talk_status why)) after
unfolding Follows
talks_out known words d Told before after why h = λ next. cut why after h refl

-- what follows once all memory is taken
pub held_on : (known : Known) (words : List (List ℕ)) (taken : Bool) (next : Tree) (before : Outside) (end : End)
    → Follows known words true next before end → Follows known words taken (holds next) before end
unfolding Follows
held_on known words taken next before end later = later

-- what follows a session that was done, whatever the bytes that were taken
pub talked_on : (known : Known) (words : List (List ℕ)) (d : Dialogue) (Told : List ℕ → Type 0) (before after : Outside) (next : List ℕ → Tree) (end : End)
    → StepsTalk known words d Told before (Ok tt) after → ((taken : List ℕ) → Runs known words (next taken) after end) → Runs known words (talks d next) before end
talked_on known words d Told before after next end talk later = talk.2 next end (later talk.0)

-- a set that got slots, and one that got none
pub places_on : (known : Known) (words : List (List ℕ)) (word : ℕ) (set : Placing) (next : List Slot → Tree) (before : Outside) (slots : List Slot) (later : End)
    → Places word set (Ok slots) → Runs known words (next slots) before later → Runs known words (places word set next) before (with_slots slots later)
unfolding Follows
places_on known words word set next before slots later is rest = placed slots later is refl rest

pub places_out : (known : Known) (words : List (List ℕ)) (word : ℕ) (set : Placing) (next : List Slot → Tree) (before : Outside) (why : Status)
    → Places word set (Err why) → Runs known words (places word set next) before (stopped why before)
unfolding Follows
places_out known words word set next before (status.NoPlacement place items touched) h =
    subst (λ (s : Status). Runs known words (places word set next) before (stopped s before)) (sym (same h.0 h.2)) (crowded items h.1 refl)
  where
    same : place ≡ word → touched ≡ touched_by set.candidates items → status.NoPlacement place items touched ≡ status.NoPlacement word items (touched_by set.candidates items)
    same e f = ap₂ (λ (p t : ℕ). status.NoPlacement p items t) e f
places_out known words word set next before status.NoMemory h = hungry refl refl
places_out known words word set next before _ h = absurd h

-- a run whose answer was made an outcome
pub run_of : (known : Known) (words : List (List ℕ)) (tree : Tree) (before after : Outside) (answer : Result Outcome Status) (outcome : Outcome)
    → ended outcome after ≡ end_of answer after → Runs known words tree before (end_of answer after) → Runs known words tree before (ended outcome after)
run_of known words tree before after answer outcome same h = subst (Runs known words tree before) (sym same) h

-- ---- steps that read and judge a file

pub file_starves : {A : Type 0} (held : ℕ → List ℕ → Result A Status) (word : ℕ) (next : A → Tree) → CanStarve (reads_file held word next)
unfolding reads_file
file_starves held word next = tt

pub record_starves : (word : ℕ) (next : LoggedSession → Tree) → CanStarve (reads_record word next)
unfolding reads_record
record_starves word next = tt

-- what every exit of a command may cite
pub ruleset walk = (
  starves,
  starves_out,
  ends_done,
  decides_ok,
  settles_out,
  places_out,
  decides_starve,
  file_starves,
  record_starves,
)
