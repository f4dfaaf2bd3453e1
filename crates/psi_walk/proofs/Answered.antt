-- The status of a run comes from a step of its tree, along contents that were read, and no more was sent than along it.
use Rattle.std.proofs.Common.{◌≡◌, ◌⊎◌, inl, inr, ℕ, Bool, true, List, [], ◌∷◌, suc, Option, Some, None, Ok, Err, refl, sym, ap, ◌∙◌, subst}
use Rattle.std.specs.declared.result.Result.{Result}
use Rattle.psi_spec.specs.Placement.{Slot}
use Rattle.psi_words.specs.Words.{word_at}
use Rattle.psi_base.specs.Outside.{Known, Link, Outside, Reads, Rose, Writes, PrintsAll, Opens, linked, partly_written, printed_too, written}
use Rattle.psi_base.specs.declared.faults.Fault.{Fault}
use Rattle.psi_base.specs.declared.faults.Fault.TheVariants as fault
use Rattle.psi_base.specs.declared.faults.ReadFault.{ReadFault}
use Rattle.psi_base.specs.declared.faults.ReadFault.TheVariants as read
use Rattle.psi_frames.specs.declared.turns.EndFault.{EndFault}
use Rattle.psi_frames.specs.declared.turns.EndFault.TheVariants as peer
use Rattle.psi_frames.specs.Dialogue.{Dialogue, Talks, talked}
use Rattle.psi_walk.specs.Promises.{IsAnswered, IsHungry, IsNotTalked, IsOfEnd, IsSilent, IsUnopened, IsUnread}
use Rattle.psi_walk.specs.Tree.{Effect, says, puts, Placing, Tree, reads, refuses, places, opens, talks, holds, ends, End, stopped, carried_by}
use Rattle.psi_walk.specs.Walk.{AtCall, AtPlace, AtRefusal, AtEnd, IsNotPlaced, starved, cut, passed, hungry, crowded, placed, given_up, refused, gave_up, all_done, IsPicked, IsVerdict, Does, Follows, Gives, read_status, write_status, print_status, open_status, talk_status}
use Rattle.psi_texts.specs.declared.status.Status.{Status}
use Rattle.psi_texts.specs.declared.status.Status.TheVariants as status

-- a run that ended so, of which a fact holds
ended_so : (P : Status → Outside → Type 0) (end : End) (why : Status) (after : Outside) → end ≡ stopped why after → P why after → P end.status end.left
ended_so P end why after e h = subst (λ (d : End). P d.status d.left) (sym e) h

-- the same with no placement
stopped_so : (P : List (List Slot) → Status → Outside → Type 0) (end : End) (why : Status) (after : Outside) → end ≡ stopped why after → P [] why after
    → P end.placed end.status end.left
stopped_so P end why after e h = subst (λ (d : End). P d.placed d.status d.left) (sym e) h

-- ---- what leaves the link alone

silent : (o : Outside) → IsSilent o o
silent o = record { incoming = refl; outgoing = refl; opened = refl }

silent_as : (before after : Outside) → (other : Outside) → after ≡ other → IsSilent before other → IsSilent before after
silent_as before after other e h = subst (λ (o : Outside). IsSilent before o) (sym e) h

read_silent : (known : Known) (name : List ℕ) (limit : ℕ) (before : Outside) (why : ReadFault) (after : Outside)
    → Reads known before name limit (Err why) after → IsSilent before after
read_silent known name limit before read.Failed after h = silent_as before after _ h.left (record { incoming = refl; outgoing = refl; opened = refl })
read_silent known name limit before (read.TooLong taken) after h = silent_as before after before h.2 (silent before)
read_silent known name limit before read.NoMemory after h = silent_as before after before h (silent before)

open_silent : (known : Known) (link : Link) (before : Outside) (why : Fault) (after : Outside) → Opens known before link (Err why) after → IsSilent before after
open_silent known link before fault.Failed after h = silent_as before after _ h.1.left (record { incoming = refl; outgoing = refl; opened = refl })
open_silent known link before fault.NoMemory after h = silent_as before after _ h.left (record { incoming = refl; outgoing = refl; opened = refl })

print_silent : (before : Outside) (text : List ℕ) (why : Fault) (after : Outside) → PrintsAll before text (Err why) after → IsSilent before after
print_silent before text fault.Failed after h = silent_as before after _ h.2.left (record { incoming = refl; outgoing = refl; opened = refl })
print_silent before text fault.NoMemory after h = silent_as before after _ h.2.left (record { incoming = refl; outgoing = refl; opened = refl })

part_silent : (before mid : Outside) (name bytes : List ℕ) (part : Option ℕ) → IsSilent before mid → IsSilent before (partly_written mid name bytes part)
part_silent before mid name bytes None h = h
part_silent before mid name bytes (Some count) h = record { incoming = h.incoming; outgoing = h.outgoing; opened = h.opened }

write_silent : (known : Known) (before : Outside) (name bytes : List ℕ) (why : Fault) (after : Outside) → Writes known before name bytes (Err why) after → IsSilent before after
write_silent known before name bytes fault.Failed after h =
    silent_as before after _ h.left (part_silent before (record before { file_faults = after.file_faults }) name bytes h.part (record { incoming = refl; outgoing = refl; opened = refl }))
write_silent known before name bytes fault.NoMemory after h =
    silent_as before after _ h.left (part_silent before (record before { refusals = after.refusals }) name bytes h.part (record { incoming = refl; outgoing = refl; opened = refl }))

silent_on : (before mid after : Outside) → IsSilent before mid → IsSilent mid after → IsSilent before after
silent_on before mid after first second = record { incoming = second.incoming ∙ first.incoming; outgoing = second.outgoing ∙ first.outgoing; opened = second.opened ∙ first.opened }

-- ---- what is left to do

of_later : (known : Known) (words : List (List ℕ)) (taken : Bool) (why : Status) (effect : Effect) (rest : List Effect) → IsOfEnd known words taken why rest
    → IsOfEnd known words taken why (effect ∷ rest)
of_later known words taken status.Done effect rest h = h
of_later known words taken status.NoMemory effect rest (inl e) = inl e
of_later known words taken status.NoMemory effect rest (inr h) = inr (suc h.0, h.1, h.2, h.3)
of_later known words taken _ effect rest h = (suc h.0, h.1, h.2, h.3)

-- a status of these effects, with nothing sent
abbrev OfEffects : Known → List (List ℕ) → Bool → List Effect → Outside → Status → Outside → Type 0
OfEffects known words taken effects before why after = IsOfEnd known words taken why effects × IsSilent before after × IsHungry taken before why after

effect_call : {E : Type 0} (known : Known) (words : List (List ℕ)) (taken : Bool) (Calls : Result (Unit {0}) E → Outside → Type 0) (status_of : E → Status) (before : Outside) (end : End)
    (Rest : Unit {0} → Outside → Type 0) (effect : Effect) (rest : List Effect)
    → ((why : E) (after : Outside) → Calls (Err why) after → OfEffects known words taken (effect ∷ rest) before (status_of why) after)
    → ((x : Unit {0}) (after : Outside) → Calls (Ok x) after → Rest x after → OfEffects known words taken rest before end.status end.left)
    → AtCall taken Calls status_of before end Rest → OfEffects known words taken (effect ∷ rest) before end.status end.left
effect_call known words taken Calls status_of before end Rest effect rest err ok (starved t e) = ended_so (OfEffects known words taken (effect ∷ rest) before) end status.NoMemory before e (inl t, silent before, inl t)
effect_call known words taken Calls status_of before end Rest effect rest err ok (cut why after h e) = ended_so (OfEffects known words taken (effect ∷ rest) before) end (status_of why) after e (err why after h)
effect_call known words taken Calls status_of before end Rest effect rest err ok (passed x after h more) =
    let later = ok x after h more in (of_later known words taken end.status effect rest later.0, later.1, later.2)

of_print : (known : Known) (words : List (List ℕ)) (taken : Bool) (text : List ℕ) (rest : List Effect) (before : Outside) (why : Fault) (after : Outside) → PrintsAll before text (Err why) after
    → OfEffects known words taken (says text ∷ rest) before (print_status why) after
of_print known words taken text rest before fault.Failed after h = ((0, says text, refl, tt), print_silent before text fault.Failed after h, tt)
of_print known words taken text rest before fault.NoMemory after h = (inr (0, says text, refl, tt), print_silent before text fault.NoMemory after h, inr h.2.rose)

of_write : (known : Known) (words : List (List ℕ)) (taken : Bool) (word : ℕ) (bytes : List ℕ) (rest : List Effect) (before : Outside) (why : Fault) (after : Outside)
    → Writes known before (word_at words word) bytes (Err why) after → OfEffects known words taken (puts word bytes ∷ rest) before (write_status word why) after
of_write known words taken word bytes rest before fault.Failed after h =
    ((0, puts word bytes, refl, (refl, h.failed)), write_silent known before (word_at words word) bytes fault.Failed after h, tt)
of_write known words taken word bytes rest before fault.NoMemory after h =
    (inr (0, puts word bytes, refl, tt), write_silent known before (word_at words word) bytes fault.NoMemory after h, inr h.rose)

of_done : (known : Known) (words : List (List ℕ)) (taken : Bool) (wire : Option (List ℕ)) (before : Outside) (end : End) → AtEnd taken wire before end → OfEffects known words taken [] before end.status end.left
of_done known words taken wire before end (gave_up t e) = ended_so (OfEffects known words taken [] before) end status.NoMemory before e (inl t, silent before, inl t)
of_done known words taken wire before end (all_done e) = subst (λ (d : End). OfEffects known words taken [] before d.status d.left) (sym e) (tt, silent before, tt)

hungry_on : (taken : Bool) (before mid : Outside) (why : Status) (after : Outside) → mid.refusals ≡ before.refusals → IsHungry taken mid why after
    → IsHungry taken before why after
hungry_on taken before mid status.NoMemory after same (inl e) = inl e
hungry_on taken before mid status.NoMemory after same (inr rose) = inr (subst (λ (n : ℕ). Rose n after.refusals) same rose)
hungry_on taken before mid _ after same h = tt

-- what the rest of the effects come to, after one that sent nothing
effect_on : (known : Known) (words : List (List ℕ)) (taken : Bool) (rest : List Effect) (before mid after : Outside) (end : End) → after ≡ mid → IsSilent before mid → mid.refusals ≡ before.refusals
    → OfEffects known words taken rest after end.status end.left → OfEffects known words taken rest before end.status end.left
effect_on known words taken rest before mid after end was quiet same later = (
  later.0,
  silent_on before after end.left (silent_as before after mid was quiet) later.1,
  hungry_on taken before after end.status end.left (ap (λ (o : Outside). o.refusals) was ∙ same) later.2,
)

does_answer : (known : Known) (words : List (List ℕ)) (taken : Bool) (wire : Option (List ℕ)) (effects : List Effect) (before : Outside) (end : End)
    → Does known words taken wire effects before end → OfEffects known words taken effects before end.status end.left
unfolding Does
does_answer known words taken wire [] before end h = of_done known words taken wire before end h
does_answer known words taken wire (says text ∷ rest) before end h =
    effect_call known words taken (PrintsAll before text) print_status before end (λ _ after. Does known words taken wire rest after end) (says text) rest
    (of_print known words taken text rest before)
    (λ x after was more. effect_on known words taken rest before (printed_too before text) after end was (record { incoming = refl; outgoing = refl; opened = refl }) refl (does_answer known words taken wire rest after end more)) h
does_answer known words taken wire (puts word bytes ∷ rest) before end h =
    effect_call known words taken (Writes known before (word_at words word) bytes) (write_status word) before end (λ _ after. Does known words taken wire rest after end) (puts word bytes) rest
    (of_write known words taken word bytes rest before)
    (λ x after was more. effect_on known words taken rest before (written before (word_at words word) bytes) after end was (record { incoming = refl; outgoing = refl; opened = refl }) refl (does_answer known words taken wire rest after end more)) h

-- ---- the walk

call_answer : {A E : Type 0} (taken : Bool) (Calls : Result A E → Outside → Type 0) (status_of : E → Status) (before : Outside) (end : End)
    (Rest : A → Outside → Type 0) (P : List (List Slot) → Status → Outside → Type 0) → P [] status.NoMemory before
    → ((why : E) (after : Outside) → Calls (Err why) after → P [] (status_of why) after)
    → ((x : A) (after : Outside) → Calls (Ok x) after → Rest x after → P end.placed end.status end.left)
    → AtCall taken Calls status_of before end Rest → P end.placed end.status end.left
call_answer taken Calls status_of before end Rest P none err ok (starved t e) = stopped_so P end status.NoMemory before e none
call_answer taken Calls status_of before end Rest P none err ok (cut why after h e) = stopped_so P end (status_of why) after e (err why after h)
call_answer taken Calls status_of before end Rest P none err ok (passed x after h more) = ok x after h more

unread : (known : Known) (words : List (List ℕ)) (word limit : ℕ) (before : Outside) (why : ReadFault) (after : Outside)
    → Reads known before (word_at words word) limit (Err why) after → IsUnread known words word limit (read_status word why)
unread known words word limit before read.Failed after h = (refl, h.failed)
unread known words word limit before (read.TooLong taken) after h = (refl, h.0)
unread known words word limit before read.NoMemory after h = tt

unopened : (known : Known) (link : Link) (before : Outside) (why : Fault) (after : Outside) → Opens known before link (Err why) after
    → IsUnopened known link (open_status why)
unopened known link before fault.Failed after h = h.0
unopened known link before fault.NoMemory after h = tt

untalked : (known : Known) (d : Dialogue) (before : Outside) (why : EndFault) (after : Outside)
    → Talks known d before (Err why) after → IsNotTalked known d before (talk_status why) after
untalked known d before (peer.Bad frame) after h = h
untalked known d before (peer.PeerEnded offset) after h = h
untalked known d before peer.Link after h = h
untalked known d before peer.NoMemory after h = inr h

refusal_answers : (taken : Bool) (verdict : Status) (before : Outside) (end : End) → AtRefusal taken verdict before end
    → ((end.status ≡ status.NoMemory) ⊎ ((end.status ≡ verdict) × IsVerdict verdict)) × IsSilent before end.left × (end.placed ≡ [])
refusal_answers taken verdict before end (given_up t e) =
    (inl (ap (λ (d : End). d.status) e), silent_as before end.left before (ap (λ (d : End). d.left) e) (silent before), ap (λ (d : End). d.placed) e)
refusal_answers taken verdict before end (refused v e) =
    (inr (ap (λ (d : End). d.status) e, v), silent_as before end.left before (ap (λ (d : End). d.left) e) (silent before), ap (λ (d : End). d.placed) e)

place_answers : (taken : Bool) (word : ℕ) (set : Placing) (before : Outside) (end : End) (Rest : List Slot → End → Type 0)
    (P : List (List Slot) → Status → Outside → Type 0)
    → ((why : Status) → IsNotPlaced word set why → P [] why before)
    → ((slots : List Slot) (later : End) → IsPicked set slots → Rest slots later → P (carried_by later.status slots later.placed) later.status later.left)
    → AtPlace taken word set before end Rest → P end.placed end.status end.left
place_answers taken word set before end Rest P not rest (hungry t e) = stopped_so P end status.NoMemory before e (not status.NoMemory tt)
place_answers taken word set before end Rest P not rest (crowded items h e) = stopped_so P end _ before e (not _ (refl, h, refl))
place_answers taken word set before end Rest P not rest (placed slots later h e more) =
    subst (λ (d : End). P d.placed d.status d.left) (sym e) (rest slots later h more)

-- ---- which placements a run carries at its end: none

call_carries : {A E : Type 0} (taken : Bool) (Calls : Result A E → Outside → Type 0) (status_of : E → Status) (before : Outside) (end : End)
    (Rest : A → Outside → Type 0)
    → ((x : A) (after : Outside) → Rest x after → end.placed ≡ []) → AtCall taken Calls status_of before end Rest → end.placed ≡ []
call_carries taken Calls status_of before end Rest ok (starved t e) = ap (λ (d : End). d.placed) e
call_carries taken Calls status_of before end Rest ok (cut why after h e) = ap (λ (d : End). d.placed) e
call_carries taken Calls status_of before end Rest ok (passed x after h more) = ok x after more

end_carries : (taken : Bool) (wire : Option (List ℕ)) (before : Outside) (end : End) → AtEnd taken wire before end → end.placed ≡ []
end_carries taken wire before end (gave_up t e) = ap (λ (d : End). d.placed) e
end_carries taken wire before end (all_done e) = ap (λ (d : End). d.placed) e

does_carry : (known : Known) (words : List (List ℕ)) (taken : Bool) (wire : Option (List ℕ)) (effects : List Effect) (before : Outside) (end : End)
    → Does known words taken wire effects before end → end.placed ≡ []
unfolding Does
does_carry known words taken wire [] before end h = end_carries taken wire before end h
does_carry known words taken wire (says text ∷ rest) before end h =
    call_carries taken (PrintsAll before text) print_status before end (λ _ after. Does known words taken wire rest after end)
    (λ x after more. does_carry known words taken wire rest after end more) h
does_carry known words taken wire (puts word bytes ∷ rest) before end h =
    call_carries taken (Writes known before (word_at words word) bytes) (write_status word) before end (λ _ after. Does known words taken wire rest after end)
    (λ x after more. does_carry known words taken wire rest after end more) h

-- ---- the whole walk

pub follows_answers : (known : Known) (words : List (List ℕ)) (taken : Bool) (tree : Tree) (before : Outside) (end : End)
    → Follows known words taken tree before end → IsAnswered known words taken tree before end.placed end.status end.left
unfolding Follows
follows_answers known words taken (reads word limit next) before end h =
    call_answer taken (Gives known before (word_at words word) limit) (read_status word) before end (λ bytes after. Follows known words taken (next bytes) after end)
    (IsAnswered known words taken (reads word limit next) before) (inl (tt, silent before, refl))
    (λ why after was. inl (unread known words word limit before why after was, read_silent known (word_at words word) limit before why after was, refl))
    (λ bytes after was more. inr (
      bytes,
      record { file = was.1.1; given = was.1.2; are_bytes = was.0; short = was.1.0 },
      follows_answers known words taken (next bytes) before end (subst (λ (o : Outside). Follows known words taken (next bytes) o end) was.1.3 more),
    )) h
follows_answers known words taken (refuses verdict) before end h = refusal_answers taken verdict before end h
follows_answers known words taken (places word set next) before end h =
    place_answers taken word set before end (λ slots later. Follows known words taken (next slots) before later)
    (IsAnswered known words taken (places word set next) before) (λ why not. inl (not, silent before, refl))
    (λ slots later is more. inr (slots, later.placed, is, refl, follows_answers known words taken (next slots) before later more)) h
follows_answers known words taken (opens link next) before end h =
    call_answer taken (Opens known before link) open_status before end (λ _ after. Follows known words taken next after end)
    (IsAnswered known words taken (opens link next) before) (inl (tt, silent before, refl))
    (λ why after was. inl (unopened known link before why after was, open_silent known link before why after was, refl))
    (λ x after was more. inr (follows_answers known words taken next (linked before link) end (subst (λ (o : Outside). Follows known words taken next o end) was more))) h
follows_answers known words taken (talks d next) before end h =
    call_answer taken (Talks known d before) talk_status before end (λ bytes after. Follows known words taken (next bytes) after end)
    (IsAnswered known words taken (talks d next) before) (inl (inl refl, refl)) (λ why after was. inl (untalked known d before why after was, refl))
    (λ bytes after was more. inr (
      bytes,
      was.0,
      was.1,
      follows_answers known words taken (next bytes) (talked before (d.owes bytes) bytes) end (subst (λ (o : Outside). Follows known words taken (next bytes) o end) was.2 more),
    )) h
follows_answers known words taken (holds next) before end h = follows_answers known words true next before end h
follows_answers known words taken (ends wire effects) before end h =
    let does = does_answer known words taken wire effects before end h in
    (does.0, does.1, does.2, does_carry known words taken wire effects before end h)
