-- From valid files, sets that have placements and a well-formed peer a run comes to its end in a calm world.
use Rattle.std.proofs.Common.{◌≡◌, ◌<◌, ◌≤◌, inl, inr, ℕ, Bool, true, false, List, [], ◌∷◌, length, Option, Some, None, Ok, Err, refl, sym, ap, ◌∙◌, subst, arith}
use Rattle.std.specs.declared.result.Result.{Result}
use Rattle.std.specs.Option.{IfSome}
use Rattle.psi_spec.specs.Placement.{Slot, IsPlacement}
use Rattle.psi_spec.proofs.Crowding.{no_placement}
use Rattle.psi_words.specs.Words.{word_at}
use Rattle.psi_base.specs.Outside.{Known, Link, Outside, Files, HasFile, HasAtLeast, LacksFile, Reads, Rose, Writes, PrintsAll, Opens, linked}
use Rattle.psi_base.specs.declared.faults.Fault.{Fault}
use Rattle.psi_base.specs.declared.faults.Fault.TheVariants as fault
use Rattle.psi_base.specs.declared.faults.ReadFault.{ReadFault}
use Rattle.psi_base.specs.declared.faults.ReadFault.TheVariants as read
use Rattle.psi_frames.specs.declared.turns.EndFault.{EndFault}
use Rattle.psi_frames.specs.declared.turns.EndFault.TheVariants as peer
use Rattle.psi_frames.specs.Dialogue.{Dialogue, ReadSo, Reading, Talks, good, bad, short, talked}
use Rattle.psi_walk.specs.Due.{Contents, told}
use Rattle.psi_walk.specs.Promises.{HasBytes, IsCalm, IsDone, IsReady, ComesThrough}
use Rattle.psi_walk.specs.Tree.{Effect, says, puts, Placing, Tree, reads, refuses, places, opens, talks, holds, ends, End, stopped}
use Rattle.psi_walk.specs.Walk.{AtCall, AtPlace, AtEnd, starved, cut, passed, hungry, crowded, placed, gave_up, all_done, IsPicked, Does, Follows, Gives, read_status, write_status, print_status, open_status, talk_status}
use Rattle.psi_texts.specs.declared.status.Status.{Status}
use Rattle.psi_texts.specs.declared.status.Status.TheVariants as status

-- ---- a calm world has no fault

not_both : (b : Bool) → b ≡ true → b ≡ false → ⊥
not_both b t f = let e : true ≡ false = sym t ∙ f in cc e

no_link_fault : (before after : Outside) → IsCalm before after → Rose before.link_faults after.link_faults → before.steady ≡ false → ⊥
no_link_fault before after (inl steady) rose unsteady = not_both before.steady steady unsteady
no_link_fault before after (inr quiet) rose unsteady = quiet.2 rose

no_print_fault : (before after : Outside) → IsCalm before after → Rose before.print_faults after.print_faults → before.steady ≡ false → ⊥
no_print_fault before after (inl steady) rose unsteady = not_both before.steady steady unsteady
no_print_fault before after (inr quiet) rose unsteady = quiet.1 rose

no_write_fault : (before after : Outside) → IsCalm before after → Rose before.file_faults after.file_faults → before.steady ≡ false → ⊥
no_write_fault before after (inl steady) rose unsteady = not_both before.steady steady unsteady
no_write_fault before after (inr quiet) rose unsteady = quiet.0 rose

-- ---- a file that is there

same_function : (f g : Contents) → Some f ≡ Some g → (at : ℕ) → f at ≡ g at
same_function f g e at = let same : f ≡ g = cc e in ap (λ (h : Contents). h at) same

-- the file of a word in told files
in_files : (o : Option Files) (words : List (List ℕ)) (word : ℕ) (bytes : List ℕ) → HasBytes (told o words) word bytes
    → (files : Files) × (o ≡ Some files) × (files (word_at words word) ≡ Some bytes)
in_files None words word bytes h = let e = h.1 in cc e
in_files (Some files) words word bytes h = (files, refl, same_function (λ at. files (word_at words at)) h.0 h.1 word ∙ h.2)

not_missing : (o : Option Files) (words : List (List ℕ)) (word : ℕ) (bytes : List ℕ) → HasBytes (told o words) word bytes → LacksFile o (word_at words word) → ⊥
not_missing o words word bytes has lacks =
    let there = in_files o words word bytes has in
    let none : there.0 (word_at words word) ≡ None = subst (λ (x : Option Files). LacksFile x (word_at words word)) there.1 lacks in
    let e : Some bytes ≡ None = sym there.2 ∙ none in cc e

same_some : (a b : List ℕ) → Some a ≡ Some b → a ≡ b
same_some a b e = cc e

not_long : (o : Option Files) (words : List (List ℕ)) (word limit taken : ℕ) (bytes : List ℕ) → HasBytes (told o words) word bytes → length bytes ≤ limit → limit < taken
    → HasAtLeast o (word_at words word) taken → ⊥
not_long o words word limit taken bytes has within over least =
    let there = in_files o words word bytes has in
    let more : HasAtLeast (Some there.0) (word_at words word) taken = subst (λ (x : Option Files). HasAtLeast x (word_at words word) taken) there.1 least in
    let same : bytes ≡ more.0 = same_some bytes more.0 (sym there.2 ∙ more.1) in
    let long : taken ≤ length bytes = subst (λ (b : List ℕ). taken ≤ length b) (sym same) more.2 in
    omega arith

-- a read of a file that is there
read_done : (known : Known) (words : List (List ℕ)) (word limit : ℕ) (bytes : List ℕ) (before : Outside) (why : ReadFault) (after : Outside)
    → HasBytes (told before.files words) word bytes → length bytes ≤ limit → IsCalm before after → Reads known before (word_at words word) limit (Err why) after
    → IsDone (read_status word why)
read_done known words word limit bytes before read.Failed after has within (inl steady) h = absurd (not_missing before.files words word bytes has (h.missing steady))
read_done known words word limit bytes before read.Failed after has within (inr quiet) h = absurd (quiet.0 h.rose)
read_done known words word limit bytes before (read.TooLong taken) after has within calm h = absurd (not_long before.files words word limit taken bytes has within h.0 h.1)
read_done known words word limit bytes before read.NoMemory after has within calm h = inr refl

-- what a read gave is what the file has
read_gave : (o : Option Files) (words : List (List ℕ)) (word : ℕ) (bytes given : List ℕ) → HasBytes (told o words) word bytes → HasFile o (word_at words word) given → bytes ≡ given
read_gave o words word bytes given has file =
    let there = in_files o words word bytes has in
    let same : there.0 (word_at words word) ≡ Some given = subst (λ (x : Option Files). HasFile x (word_at words word) given) there.1 file in
    same_some bytes given (sym there.2 ∙ same)

-- ---- the link

open_done : (known : Known) (link : Link) (before : Outside) (why : Fault) (after : Outside) → IsCalm before after → Opens known before link (Err why) after
    → IsDone (open_status why)
open_done known link before fault.Failed after calm h = absurd (no_link_fault before after calm h.1.rose h.1.unsteady)
open_done known link before fault.NoMemory after calm h = inr refl

reads_all : (d : Dialogue) (o : Option (List ℕ)) (incoming taken : List ℕ) (r : Reading) → o ≡ Some incoming → ReadSo d o taken r → d.reads_as incoming ≡ r
reads_all d o incoming taken r e h = subst (λ (x : Option (List ℕ)). IfSome x (λ bytes. d.reads_as bytes ≡ r)) e h.all

same_good : (a b : List ℕ) → good a ≡ good b → a ≡ b
same_good a b e = cc e

-- a session with a peer whose bytes begin with a whole stream
talk_done : (known : Known) (d : Dialogue) (incoming taken : List ℕ) (before : Outside) (why : EndFault) (after : Outside) → before.incoming ≡ Some incoming
    → d.reads_as incoming ≡ good taken → IsCalm before after → Talks known d before (Err why) after → IsDone (talk_status why)
talk_done known d incoming taken before (peer.Bad frame) after is whole calm h =
    absurd (let e : good taken ≡ bad frame = sym whole ∙ reads_all d before.incoming incoming h.taken (bad frame) is h.reads in cc e)
talk_done known d incoming taken before (peer.PeerEnded offset) after is whole calm h =
    absurd (let e : good taken ≡ short offset = sym whole ∙ reads_all d before.incoming incoming h.taken (short offset) is h.reads in cc e)
talk_done known d incoming taken before peer.Link after is whole calm h = absurd (no_link_fault before after calm h.why.rose h.why.unsteady)
talk_done known d incoming taken before peer.NoMemory after is whole calm h = inr refl

-- ---- the walk

done_so : (end : End) (why : Status) (after : Outside) → end ≡ stopped why after → IsDone why → IsDone end.status
done_so end why after e h = subst (λ (d : End). IsDone d.status) (sym e) h

call_done : {A E : Type 0} (taken : Bool) (Calls : Result A E → Outside → Type 0) (status_of : E → Status) (before : Outside) (end : End)
    (Rest : A → Outside → Type 0) → IsCalm before end.left
    → ((why : E) (after : Outside) → IsCalm before after → Calls (Err why) after → IsDone (status_of why))
    → ((x : A) (after : Outside) → Calls (Ok x) after → Rest x after → IsDone end.status)
    → AtCall taken Calls status_of before end Rest → IsDone end.status
call_done taken Calls status_of before end Rest calm err ok (starved t e) = done_so end status.NoMemory before e (inr refl)
call_done taken Calls status_of before end Rest calm err ok (cut why after h e) =
    done_so end (status_of why) after e (err why after (subst (λ (d : End). IsCalm before d.left) e calm) h)
call_done taken Calls status_of before end Rest calm err ok (passed x after h more) = ok x after h more

print_done : (text : List ℕ) (before : Outside) (why : Fault) (after : Outside) → IsCalm before after → PrintsAll before text (Err why) after → IsDone (print_status why)
print_done text before fault.Failed after calm h = absurd (no_print_fault before after calm h.2.rose h.2.unsteady)
print_done text before fault.NoMemory after calm h = inr refl

write_done : (known : Known) (name : List ℕ) (word : ℕ) (bytes : List ℕ) (before : Outside) (why : Fault) (after : Outside) → IsCalm before after
    → Writes known before name bytes (Err why) after → IsDone (write_status word why)
write_done known name word bytes before fault.Failed after calm h = absurd (no_write_fault before after calm h.rose h.unsteady)
write_done known name word bytes before fault.NoMemory after calm h = inr refl

end_done : (taken : Bool) (wire : Option (List ℕ)) (before : Outside) (end : End) → AtEnd taken wire before end → IsDone end.status
end_done taken wire before end (gave_up t e) = inr (ap (λ (d : End). d.status) e)
end_done taken wire before end (all_done e) = inl (ap (λ (d : End). d.status) e)

-- counts and steadiness do not tell of files and of what was printed
abbrev IsSteadyAs : Outside → Outside → Type 0
IsSteadyAs before mid =
    (mid.steady ≡ before.steady) × (mid.file_faults ≡ before.file_faults) × (mid.print_faults ≡ before.print_faults) × (mid.link_faults ≡ before.link_faults)

calm_after : (before mid after : Outside) → IsSteadyAs before mid → IsCalm before after → IsCalm mid after
calm_after before mid after k (inl steady) = inl (k.0 ∙ steady)
calm_after before mid after k (inr quiet) = inr (
  λ rose. quiet.0 (subst (λ (n : ℕ). Rose n after.file_faults) k.1 rose),
  λ rose. quiet.1 (subst (λ (n : ℕ). Rose n after.print_faults) k.2 rose),
  λ rose. quiet.2 (subst (λ (n : ℕ). Rose n after.link_faults) k.3 rose),
)

steady_as : (before mid other : Outside) → mid ≡ other → IsSteadyAs before other → IsSteadyAs before mid
steady_as before mid other e h = subst (λ (o : Outside). IsSteadyAs before o) (sym e) h

does_done : (known : Known) (words : List (List ℕ)) (taken : Bool) (wire : Option (List ℕ)) (effects : List Effect) (before : Outside) (end : End) → IsCalm before end.left
    → Does known words taken wire effects before end → IsDone end.status
unfolding Does
does_done known words taken wire [] before end calm h = end_done taken wire before end h
does_done known words taken wire (says text ∷ rest) before end calm h =
    call_done taken (PrintsAll before text) print_status before end (λ _ after. Does known words taken wire rest after end) calm
    (λ why after still cut_off. print_done text before why after still cut_off)
    (λ x after was more. does_done known words taken wire rest after end (calm_after before after end.left (steady_as before after _ was (refl, refl, refl, refl)) calm) more) h
does_done known words taken wire (puts word bytes ∷ rest) before end calm h =
    call_done taken (Writes known before (word_at words word) bytes) (write_status word) before end (λ _ after. Does known words taken wire rest after end) calm
    (λ why after still cut_off. write_done known (word_at words word) word bytes before why after still cut_off)
    (λ x after was more. does_done known words taken wire rest after end (calm_after before after end.left (steady_as before after _ was (refl, refl, refl, refl)) calm) more) h

place_done : (taken : Bool) (word : ℕ) (set : Placing) (before : Outside) (end : End) (Rest : List Slot → End → Type 0)
    → ((slots : List Slot) × IsPlacement set.stash set.bins set.candidates slots) → IsCalm before end.left
    → ((slots : List Slot) (later : End) → IsPicked set slots → IsCalm before later.left → Rest slots later → IsDone later.status)
    → AtPlace taken word set before end Rest → IsDone end.status
place_done taken word set before end Rest has calm ok (hungry t e) = done_so end status.NoMemory before e (inr refl)
place_done taken word set before end Rest has calm ok (crowded items h e) = absurd (no_placement set.stash set.bins set.candidates items has.0 h.0 has.1)
place_done taken word set before end Rest has calm ok (placed slots later h e more) =
    subst (λ (d : End). IsDone d.status) (sym e) (ok slots later h (subst (λ (d : End). IsCalm before d.left) e calm) more)

pub runs_through : (known : Known) (words : List (List ℕ)) (taken : Bool) (tree : Tree) (before : Outside) (end : End) → Follows known words taken tree before end
    → ComesThrough words tree before end
unfolding Follows
runs_through known words taken (reads word limit next) before end h = λ ready calm.
    call_done taken (Gives known before (word_at words word) limit) (read_status word) before end (λ bytes after. Follows known words taken (next bytes) after end) calm
    (λ why after still cut_off. read_done known words word limit ready.0 before why after ready.1 ready.2 still cut_off)
    (λ bytes after was more.
    let same : ready.0 ≡ bytes = read_gave before.files words word ready.0 bytes ready.1 was.1.1 in
    runs_through known words taken (next bytes) before end (subst (λ (o : Outside). Follows known words taken (next bytes) o end) was.1.3 more)
    (subst (λ (b : List ℕ). IsReady (told before.files words) before (next b)) same ready.3) calm) h
runs_through known words taken (refuses why) before end h = λ ready calm. absurd ready
runs_through known words taken (places word set next) before end h = λ ready calm.
    place_done taken word set before end (λ slots later. Follows known words taken (next slots) before later) ready.0 calm
    (λ slots later is still more. runs_through known words taken (next slots) before later more (ready.1 slots is.0) still) h
runs_through known words taken (opens link next) before end h = λ ready calm.
    call_done taken (Opens known before link) open_status before end (λ _ after. Follows known words taken next after end) calm
    (λ why after still cut_off. open_done known link before why after still cut_off)
    (λ x after was more.
    runs_through known words taken next (linked before link) end (subst (λ (o : Outside). Follows known words taken next o end) was more) ready
    (calm_after before (linked before link) end.left (refl, refl, refl, refl) calm)) h
runs_through known words taken (talks d next) before end h = λ ready calm.
    call_done taken (Talks known d before) talk_status before end (λ bytes after. Follows known words taken (next bytes) after end) calm
    (λ why after still cut_off. talk_done known d ready.0 ready.1 before why after ready.2 ready.3 still cut_off)
    (λ bytes after was more.
    let same : ready.1 ≡ bytes = same_good ready.1 bytes (sym ready.3 ∙ reads_all d before.incoming ready.0 bytes (good bytes) ready.2 was.1) in
    let mid = talked before (d.owes bytes) bytes in
    runs_through known words taken (next bytes) mid end (subst (λ (o : Outside). Follows known words taken (next bytes) o end) was.2 more)
    (subst (λ (b : List ℕ). IsReady (told before.files words) (talked before (d.owes b) b) (next b)) same ready.4)
    (calm_after before mid end.left (refl, refl, refl, refl) calm)) h
runs_through known words taken (holds next) before end h = runs_through known words true next before end h
runs_through known words taken (ends wire effects) before end h = λ ready calm. does_done known words taken wire effects before end calm h
