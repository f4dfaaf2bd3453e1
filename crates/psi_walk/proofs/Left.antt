-- What a run that is done read, placed, exchanged and left.
use Rattle.std.proofs.Common.{◌≡◌, ℕ, Bool, true, List, [], ◌∷◌, Option, Ok, sym, ap, ◌∙◌, subst}
use Rattle.std.specs.declared.result.Result.{Result}
use Rattle.psi_spec.specs.Placement.{Slot}
use Rattle.psi_words.specs.Words.{word_at}
use Rattle.psi_base.specs.Outside.{Known, Outside, Writes, PrintsAll, Opens, linked, printed_too, written}
use Rattle.psi_base.specs.declared.faults.Fault.{Fault}
use Rattle.psi_base.specs.declared.faults.Fault.TheVariants as fault
use Rattle.psi_base.specs.declared.faults.ReadFault.{ReadFault}
use Rattle.psi_base.specs.declared.faults.ReadFault.TheVariants as read
use Rattle.psi_frames.specs.declared.turns.EndFault.{EndFault}
use Rattle.psi_frames.specs.declared.turns.EndFault.TheVariants as peer
use Rattle.psi_frames.specs.Dialogue.{Talks, talked}
use Rattle.psi_walk.specs.Due.{after_effects}
use Rattle.psi_walk.specs.Promises.{Leaves}
use Rattle.psi_walk.specs.Tree.{Effect, says, puts, Placing, Tree, reads, refuses, places, opens, talks, holds, ends, End, carried_by}
use Rattle.psi_walk.specs.Walk.{AtCall, AtPlace, AtRefusal, AtEnd, starved, cut, passed, hungry, crowded, placed, given_up, refused, gave_up, all_done, IsVerdict, Does, Follows, Gives, read_status, write_status, print_status, open_status, talk_status}
use Rattle.psi_texts.specs.declared.status.Status.{Status}
use Rattle.psi_texts.specs.declared.status.Status.TheVariants as status

-- ---- no fault is Done

read_not_done : (word : ℕ) (why : ReadFault) → read_status word why ≡ status.Done → ⊥
read_not_done word read.Failed e = cc e
read_not_done word (read.TooLong taken) e = cc e
read_not_done word read.NoMemory e = cc e

write_not_done : (word : ℕ) (why : Fault) → write_status word why ≡ status.Done → ⊥
write_not_done word fault.Failed e = cc e
write_not_done word fault.NoMemory e = cc e

print_not_done : (why : Fault) → print_status why ≡ status.Done → ⊥
print_not_done fault.Failed e = cc e
print_not_done fault.NoMemory e = cc e

open_not_done : (why : Fault) → open_status why ≡ status.Done → ⊥
open_not_done fault.Failed e = cc e
open_not_done fault.NoMemory e = cc e

talk_not_done : (why : EndFault) → talk_status why ≡ status.Done → ⊥
talk_not_done (peer.Bad frame) e = cc e
talk_not_done (peer.PeerEnded offset) e = cc e
talk_not_done peer.Link e = cc e
talk_not_done peer.NoMemory e = cc e

starved_not_done : (end : End) (before : Outside) → end.status ≡ status.Done → end.status ≡ status.NoMemory → ⊥
starved_not_done end before done e = let f : status.NoMemory ≡ status.Done = sym e ∙ done in cc f

-- ---- the walk

call_left : {A E : Type 0} (taken : Bool) (Calls : Result A E → Outside → Type 0) (status_of : E → Status) (before : Outside) (end : End)
    (Rest : A → Outside → Type 0) (P : Type 0) → end.status ≡ status.Done
    → ((why : E) → status_of why ≡ status.Done → ⊥) → ((x : A) (after : Outside) → Calls (Ok x) after → Rest x after → P)
    → AtCall taken Calls status_of before end Rest → P
call_left taken Calls status_of before end Rest P done err ok (starved t e) = absurd (starved_not_done end before done (ap (λ (d : End). d.status) e))
call_left taken Calls status_of before end Rest P done err ok (cut why after h e) = absurd (err why (sym (ap (λ (d : End). d.status) e) ∙ done))
call_left taken Calls status_of before end Rest P done err ok (passed x after h more) = ok x after h more

end_left : (taken : Bool) (wire : Option (List ℕ)) (before : Outside) (end : End) → end.status ≡ status.Done → AtEnd taken wire before end
    → end ≡ record { status = status.Done; placed = []; wire = wire; left = before }
end_left taken wire before end done (gave_up t e) = absurd (starved_not_done end before done (ap (λ (d : End). d.status) e))
end_left taken wire before end done (all_done e) = e

does_left : (known : Known) (words : List (List ℕ)) (taken : Bool) (wire : Option (List ℕ)) (effects : List Effect) (before : Outside) (end : End)
    → end.status ≡ status.Done → Does known words taken wire effects before end
    → end ≡ record { status = status.Done; placed = []; wire = wire; left = after_effects words before effects }
unfolding Does
does_left known words taken wire [] before end done h = end_left taken wire before end done h
does_left known words taken wire (says text ∷ rest) before end done h =
    call_left taken (PrintsAll before text) print_status before end (λ _ after. Does known words taken wire rest after end) _ done print_not_done
    (λ x after was more. does_left known words taken wire rest (printed_too before text) end done (subst (λ (o : Outside). Does known words taken wire rest o end) was more)) h
does_left known words taken wire (puts word bytes ∷ rest) before end done h =
    call_left taken (Writes known before (word_at words word) bytes) (write_status word) before end (λ _ after. Does known words taken wire rest after end) _ done (write_not_done word)
    (λ x after was more. does_left known words taken wire rest (written before (word_at words word) bytes) end done (subst (λ (o : Outside). Does known words taken wire rest o end) was more)) h

refusal_left : (taken : Bool) (why : Status) (before : Outside) (end : End) → end.status ≡ status.Done → AtRefusal taken why before end → ⊥
refusal_left taken why before end done (given_up t e) = starved_not_done end before done (ap (λ (d : End). d.status) e)
refusal_left taken why before end done (refused v e) =
    let f : IsVerdict status.Done = subst IsVerdict (sym (ap (λ (d : End). d.status) e) ∙ done) v in f

place_left : (known : Known) (words : List (List ℕ)) (taken : Bool) (word : ℕ) (set : Placing) (next : List Slot → Tree) (before : Outside) (end : End)
    (Rest : List Slot → End → Type 0) → end.status ≡ status.Done
    → ((slots : List Slot) (later : End) → later.status ≡ status.Done → Rest slots later → Leaves known words (next slots) before later)
    → AtPlace taken word set before end Rest → Leaves known words (places word set next) before end
place_left known words taken word set next before end Rest done ok (hungry t e) = absurd (starved_not_done end before done (ap (λ (d : End). d.status) e))
place_left known words taken word set next before end Rest done ok (crowded items h e) =
    absurd (let f : status.NoPlacement word items _ ≡ status.Done = sym (ap (λ (d : End). d.status) e) ∙ done in cc f)
place_left known words taken word set next before end Rest done ok (placed slots later h e more) =
    let later_done : later.status ≡ status.Done = sym (ap (λ (d : End). d.status) e) ∙ done in
    (slots, later, h, e ∙ carries_all slots later later_done, ok slots later later_done more)
  where
    carries_all : (slots : List Slot) (later : End) → later.status ≡ status.Done
        → record later { placed = carried_by later.status slots later.placed } ≡ record later { placed = slots ∷ later.placed }
    carries_all slots later e = ap (λ (s : Status). record later { placed = carried_by s slots later.placed }) e

pub follows_leaves : (known : Known) (words : List (List ℕ)) (taken : Bool) (tree : Tree) (before : Outside) (end : End) → end.status ≡ status.Done
    → Follows known words taken tree before end → Leaves known words tree before end
unfolding Follows
follows_leaves known words taken (reads word limit next) before end done h =
    call_left taken (Gives known before (word_at words word) limit) (read_status word) before end (λ bytes after. Follows known words taken (next bytes) after end) _ done (read_not_done word)
    (λ bytes after was more. (
      bytes,
      record { file = was.1.1; given = was.1.2; are_bytes = was.0; short = was.1.0 },
      follows_leaves known words taken (next bytes) before end done (subst (λ (o : Outside). Follows known words taken (next bytes) o end) was.1.3 more),
    )) h
follows_leaves known words taken (refuses why) before end done h = absurd (refusal_left taken why before end done h)
follows_leaves known words taken (places word set next) before end done h =
    place_left known words taken word set next before end (λ slots later. Follows known words taken (next slots) before later) done
    (λ slots later ended more. follows_leaves known words taken (next slots) before later ended more) h
follows_leaves known words taken (opens link next) before end done h =
    call_left taken (Opens known before link) open_status before end (λ _ after. Follows known words taken next after end) _ done open_not_done
    (λ x after was more. follows_leaves known words taken next (linked before link) end done (subst (λ (o : Outside). Follows known words taken next o end) was more)) h
follows_leaves known words taken (talks d next) before end done h =
    call_left taken (Talks known d before) talk_status before end (λ bytes after. Follows known words taken (next bytes) after end) _ done talk_not_done
    (λ bytes after was more. (
      bytes,
      was.0,
      was.1,
      follows_leaves known words taken (next bytes) (talked before (d.owes bytes) bytes) end done (subst (λ (o : Outside). Follows known words taken (next bytes) o end) was.2 more),
    )) h
follows_leaves known words taken (holds next) before end done h = follows_leaves known words true next before end done h
follows_leaves known words taken (ends wire effects) before end done h = does_left known words taken wire effects before end done h
