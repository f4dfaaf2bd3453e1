-- Which count a run changes: that of its status's cause, and no other.
use Rattle.std.proofs.Common.{◌≡◌, ◌≤◌, ◌⊎◌, inl, inr, ℕ, Bool, true, false, List, [], ◌∷◌, take, Option, Some, None, Ok, Err, refl, sym, ap, ◌∙◌, subst, arith, length}
use Rattle.std.specs.declared.result.Result.{Result}
use Rattle.psi_spec.specs.Placement.{Slot}
use Rattle.psi_words.specs.Words.{word_at}
use Rattle.psi_base.specs.Outside.{Known, Link, Outside, Files, LacksFile, Rose, Reads, Writes, PrintsAll, Opens, Starved, partly_written}
use Rattle.psi_base.specs.declared.faults.Fault.{Fault}
use Rattle.psi_base.specs.declared.faults.Fault.TheVariants as fault
use Rattle.psi_base.specs.declared.faults.ReadFault.{ReadFault}
use Rattle.psi_base.specs.declared.faults.ReadFault.TheVariants as read
use Rattle.psi_frames.specs.declared.turns.EndFault.{EndFault}
use Rattle.psi_frames.specs.declared.turns.EndFault.TheVariants as peer
use Rattle.psi_frames.specs.Dialogue.{Dialogue, Talks, talked}
use Rattle.psi_walk.specs.Promises.{Counts, counts_of, IsCounted}
use Rattle.psi_walk.specs.Tree.{Effect, says, puts, Placing, Tree, reads, refuses, places, opens, talks, holds, ends, End, stopped}
use Rattle.psi_walk.specs.Walk.{AtCall, AtPlace, AtRefusal, AtEnd, starved, cut, passed, hungry, crowded, placed, given_up, refused, gave_up, all_done, IsVerdict, Does, Follows, Gives, read_status, write_status, print_status, open_status, talk_status}
use Rattle.psi_texts.specs.declared.status.Status.{Status}
use Rattle.psi_texts.specs.declared.status.Status.TheVariants as status

-- ---- carrying it back over a step

-- a step was passed: counts and files stay, and the world is as steady as before
pub record Kept (before mid : Outside) : Type 0 where
  pub counts : counts_of mid ≡ counts_of before
  pub files : mid.files ≡ before.files
  pub steady : mid.steady ≡ before.steady

pub kept_same : (before mid : Outside) → mid ≡ before → Kept before mid
kept_same before mid e = record { counts = ap counts_of e; files = ap (λ (o : Outside). o.files) e; steady = ap (λ (o : Outside). o.steady) e }

rose_on : (a b c : ℕ) → b ≡ a → Rose b c → Rose a c
rose_on a b c e r = subst (λ (n : ℕ). Rose n c) e r

counted_on : (words : List (List ℕ)) (before mid : Outside) (why : Status) (after : Outside) → Kept before mid
    → IsCounted words mid why after → IsCounted words before why after
counted_on words before mid (status.FileFault word) after k h = (
  rose_on before.file_faults mid.file_faults after.file_faults (ap (λ (c : Counts). c.file_faults) k.counts) h.0,
  λ was. subst (λ (f : Option Files). LacksFile f (word_at words word)) k.files (h.1 (k.steady ∙ was)),
  h.2 ∙ ap (λ (c : Counts). record c { file_faults = after.file_faults }) k.counts,
)
counted_on words before mid status.PrintFault after k h = (
  rose_on before.print_faults mid.print_faults after.print_faults (ap (λ (c : Counts). c.print_faults) k.counts) h.0,
  sym k.steady ∙ h.1,
  h.2 ∙ ap (λ (c : Counts). record c { print_faults = after.print_faults }) k.counts,
)
counted_on words before mid status.LinkFault after k h = (
  rose_on before.link_faults mid.link_faults after.link_faults (ap (λ (c : Counts). c.link_faults) k.counts) h.0,
  sym k.steady ∙ h.1,
  h.2 ∙ ap (λ (c : Counts). record c { link_faults = after.link_faults }) k.counts,
)
counted_on words before mid (status.PeerEnded offset) after k h = (
  rose_on before.ends mid.ends after.ends (ap (λ (c : Counts). c.ends) k.counts) h.0,
  h.1 ∙ ap (λ (c : Counts). record c { ends = after.ends }) k.counts,
)
counted_on words before mid status.NoMemory after k h = (
  subst (λ (n : ℕ). n ≤ after.refusals) (ap (λ (c : Counts). c.refusals) k.counts) h.0,
  h.1 ∙ ap (λ (c : Counts). record c { refusals = after.refusals }) k.counts,
)
counted_on words before mid _ after k h = h ∙ k.counts

-- want of memory here
starved_here : (words : List (List ℕ)) (before : Outside) → IsCounted words before status.NoMemory before
starved_here words before = (omega arith, refl)

ended_counted : (words : List (List ℕ)) (before : Outside) (end : End) (why : Status) (after : Outside) → end ≡ stopped why after
    → IsCounted words before why after → IsCounted words before end.status end.left
ended_counted words before end why after e h = subst (λ (d : End). IsCounted words before d.status d.left) (sym e) h

-- ---- calls that were refused

refusals_rose : (words : List (List ℕ)) (before after : Outside) → before.refusals ≤ after.refusals
    → counts_of after ≡ record (counts_of before) { refusals = after.refusals } → IsCounted words before status.NoMemory after
refusals_rose words before after rose e = (rose, e)

cut_read : (known : Known) (words : List (List ℕ)) (word limit : ℕ) (before : Outside) (why : ReadFault) (after : Outside)
    → Reads known before (word_at words word) limit (Err why) after → IsCounted words before (read_status word why) after
cut_read known words word limit before read.Failed after h = (h.rose, h.missing, ap counts_of h.left)
cut_read known words word limit before (read.TooLong taken) after h = ap counts_of h.2
cut_read known words word limit before read.NoMemory after h =
    subst (λ (o : Outside). IsCounted words before status.NoMemory o) (sym h) (starved_here words before)

cut_open : (known : Known) (words : List (List ℕ)) (link : Link) (before : Outside) (why : Fault) (after : Outside) → Opens known before link (Err why) after
    → IsCounted words before (open_status why) after
cut_open known words link before fault.Failed after h = (h.1.rose, h.1.unsteady, ap counts_of h.1.left)
cut_open known words link before fault.NoMemory after h = refusals_rose words before after h.rose.no_lower (ap counts_of h.left)

-- memory was wanting in a session
talk_starved : (words : List (List ℕ)) (before mid after : Outside) (P : Type 0) → Kept before mid
    → Starved mid after ⊎ (P × (after ≡ mid)) → IsCounted words before status.NoMemory after
talk_starved words before mid after P k (inl h) =
    counted_on words before mid status.NoMemory after k (refusals_rose words mid after h.rose.no_lower (ap counts_of h.left))
talk_starved words before mid after P k (inr h) =
    counted_on words before mid status.NoMemory after k (subst (λ (o : Outside). IsCounted words mid status.NoMemory o) (sym h.1) (starved_here words mid))

cut_talk : (known : Known) (words : List (List ℕ)) (d : Dialogue) (before : Outside) (why : EndFault) (after : Outside)
    → Talks known d before (Err why) after → IsCounted words before (talk_status why) after
cut_talk known words d before (peer.Bad frame) after h = ap counts_of h.left
cut_talk known words d before (peer.PeerEnded offset) after h = (h.rose, ap counts_of h.left)
cut_talk known words d before peer.Link after h = (h.why.rose, h.why.unsteady, ap counts_of h.why.left)
cut_talk known words d before peer.NoMemory after h =
    let mid = talked before (take h.sent (d.owes h.taken)) h.taken in
    talk_starved words before mid after (h.sent ≤ length (d.owes [])) (record { counts = refl; files = refl; steady = refl }) h.why

-- ---- effects: a file that is written fails in no steady world

-- what is counted once nothing more is read
EffectCounted : Outside → Status → Outside → Type 0
EffectCounted before (status.FileFault word) after =
    Rose before.file_faults after.file_faults × (before.steady ≡ false)
    × (counts_of after ≡ record (counts_of before) { file_faults = after.file_faults })
EffectCounted before status.PrintFault after =
    Rose before.print_faults after.print_faults × (before.steady ≡ false)
    × (counts_of after ≡ record (counts_of before) { print_faults = after.print_faults })
EffectCounted before status.NoMemory after =
    (before.refusals ≤ after.refusals) × (counts_of after ≡ record (counts_of before) { refusals = after.refusals })
EffectCounted before status.Done after = counts_of after ≡ counts_of before
EffectCounted before _ after = ⊥

effect_counted : (words : List (List ℕ)) (before : Outside) (why : Status) (after : Outside) → EffectCounted before why after → IsCounted words before why after
unfolding EffectCounted
effect_counted words before (status.FileFault word) after h = (h.0, λ was. absurd (let e : true ≡ false = sym was ∙ h.1 in cc e), h.2)
effect_counted words before status.PrintFault after h = h
effect_counted words before status.NoMemory after h = h
effect_counted words before status.Done after h = h
effect_counted words before _ after h = absurd h

effect_on : (before mid : Outside) (why : Status) (after : Outside) → counts_of mid ≡ counts_of before → mid.steady ≡ before.steady
    → EffectCounted mid why after → EffectCounted before why after
unfolding EffectCounted
effect_on before mid (status.FileFault word) after k s h = (
  rose_on before.file_faults mid.file_faults after.file_faults (ap (λ (c : Counts). c.file_faults) k) h.0,
  sym s ∙ h.1,
  h.2 ∙ ap (λ (c : Counts). record c { file_faults = after.file_faults }) k,
)
effect_on before mid status.PrintFault after k s h = (
  rose_on before.print_faults mid.print_faults after.print_faults (ap (λ (c : Counts). c.print_faults) k) h.0,
  sym s ∙ h.1,
  h.2 ∙ ap (λ (c : Counts). record c { print_faults = after.print_faults }) k,
)
effect_on before mid status.NoMemory after k s h = (
  subst (λ (n : ℕ). n ≤ after.refusals) (ap (λ (c : Counts). c.refusals) k) h.0,
  h.1 ∙ ap (λ (c : Counts). record c { refusals = after.refusals }) k,
)
effect_on before mid status.Done after k s h = h ∙ k
effect_on before mid _ after k s h = absurd h

effect_here : (before : Outside) → EffectCounted before status.NoMemory before
unfolding EffectCounted
effect_here before = (omega arith, refl)

effect_ended : (before : Outside) (end : End) (why : Status) (after : Outside) → end ≡ stopped why after
    → EffectCounted before why after → EffectCounted before end.status end.left
effect_ended before end why after e h = subst (λ (d : End). EffectCounted before d.status d.left) (sym e) h

cut_print : (text : List ℕ) (before : Outside) (why : Fault) (after : Outside) → PrintsAll before text (Err why) after
    → EffectCounted before (print_status why) after
unfolding EffectCounted
cut_print text before fault.Failed after h = (h.2.rose, h.2.unsteady, ap counts_of h.2.left)
cut_print text before fault.NoMemory after h = (h.2.rose.no_lower, ap counts_of h.2.left)

part_counts : (old : Outside) (name bytes : List ℕ) (part : Option ℕ) → counts_of (partly_written old name bytes part) ≡ counts_of old
part_counts old name bytes None = refl
part_counts old name bytes (Some count) = refl

cut_write : (known : Known) (word : ℕ) (name bytes : List ℕ) (before : Outside) (why : Fault) (after : Outside) → Writes known before name bytes (Err why) after
    → EffectCounted before (write_status word why) after
unfolding EffectCounted
cut_write known word name bytes before fault.Failed after h =
    (h.rose, h.unsteady, ap counts_of h.left ∙ part_counts (record before { file_faults = after.file_faults }) name bytes h.part)
cut_write known word name bytes before fault.NoMemory after h =
    (h.rose.no_lower, ap counts_of h.left ∙ part_counts (record before { refusals = after.refusals }) name bytes h.part)

effect_call : {E : Type 0} (taken : Bool) (Calls : Result (Unit {0}) E → Outside → Type 0) (status_of : E → Status) (before : Outside) (end : End)
    (Rest : Unit {0} → Outside → Type 0)
    → ((why : E) (after : Outside) → Calls (Err why) after → EffectCounted before (status_of why) after)
    → ((x : Unit {0}) (after : Outside) → Calls (Ok x) after → (counts_of after ≡ counts_of before) × (after.steady ≡ before.steady))
    → ((x : Unit {0}) (after : Outside) → Rest x after → EffectCounted after end.status end.left)
    → AtCall taken Calls status_of before end Rest → EffectCounted before end.status end.left
effect_call taken Calls status_of before end Rest err ok rest (starved t e) = effect_ended before end status.NoMemory before e (effect_here before)
effect_call taken Calls status_of before end Rest err ok rest (cut why after h e) = effect_ended before end (status_of why) after e (err why after h)
effect_call taken Calls status_of before end Rest err ok rest (passed x after h more) =
    effect_on before after end.status end.left (ok x after h).0 (ok x after h).1 (rest x after more)

effects_done : (taken : Bool) (wire : Option (List ℕ)) (before : Outside) (end : End) → AtEnd taken wire before end → EffectCounted before end.status end.left
unfolding EffectCounted
effects_done taken wire before end (gave_up t e) = effect_ended before end status.NoMemory before e (omega arith, refl)
effects_done taken wire before end (all_done e) = subst (λ (d : End). EffectCounted before d.status d.left) (sym e) refl

does_counted : (known : Known) (words : List (List ℕ)) (taken : Bool) (wire : Option (List ℕ)) (effects : List Effect) (before : Outside) (end : End)
    → Does known words taken wire effects before end → EffectCounted before end.status end.left
unfolding Does
does_counted known words taken wire [] before end h = effects_done taken wire before end h
does_counted known words taken wire (says text ∷ rest) before end h =
    effect_call taken (PrintsAll before text) print_status before end (λ _ after. Does known words taken wire rest after end) (cut_print text before)
    (λ x after e. (ap counts_of e, ap (λ (o : Outside). o.steady) e)) (λ x after later. does_counted known words taken wire rest after end later) h
does_counted known words taken wire (puts word bytes ∷ rest) before end h =
    effect_call taken (Writes known before (word_at words word) bytes) (write_status word) before end (λ _ after. Does known words taken wire rest after end)
    (cut_write known word (word_at words word) bytes before)
    (λ x after e. (ap counts_of e, ap (λ (o : Outside). o.steady) e)) (λ x after later. does_counted known words taken wire rest after end later) h

-- ---- the walk

call_counted : {A E : Type 0} (words : List (List ℕ)) (taken : Bool) (Calls : Result A E → Outside → Type 0) (status_of : E → Status)
    (before : Outside) (end : End) (Rest : A → Outside → Type 0)
    → ((why : E) (after : Outside) → Calls (Err why) after → IsCounted words before (status_of why) after)
    → ((x : A) (after : Outside) → Calls (Ok x) after → Kept before after)
    → ((x : A) (after : Outside) → Rest x after → IsCounted words after end.status end.left)
    → AtCall taken Calls status_of before end Rest → IsCounted words before end.status end.left
call_counted words taken Calls status_of before end Rest err ok rest (starved t e) =
    ended_counted words before end status.NoMemory before e (starved_here words before)
call_counted words taken Calls status_of before end Rest err ok rest (cut why after h e) =
    ended_counted words before end (status_of why) after e (err why after h)
call_counted words taken Calls status_of before end Rest err ok rest (passed x after h more) =
    counted_on words before after end.status end.left (ok x after h) (rest x after more)

-- a verdict has no cause of the outside
verdict_counted : (words : List (List ℕ)) (before : Outside) (why : Status) → IsVerdict why → IsCounted words before why before
verdict_counted words before (status.FileFault word) v = absurd v
verdict_counted words before status.PrintFault v = absurd v
verdict_counted words before status.LinkFault v = absurd v
verdict_counted words before (status.PeerEnded offset) v = absurd v
verdict_counted words before status.NoMemory v = absurd v
verdict_counted words before _ v = refl

refusal_counted : (words : List (List ℕ)) (taken : Bool) (verdict : Status) (before : Outside) (end : End)
    → AtRefusal taken verdict before end → IsCounted words before end.status end.left
refusal_counted words taken verdict before end (given_up t e) = ended_counted words before end status.NoMemory before e (starved_here words before)
refusal_counted words taken verdict before end (refused v e) = ended_counted words before end verdict before e (verdict_counted words before verdict v)

place_counted : (words : List (List ℕ)) (taken : Bool) (word : ℕ) (set : Placing) (before : Outside) (end : End) (Rest : List Slot → End → Type 0)
    → ((slots : List Slot) (later : End) → Rest slots later → IsCounted words before later.status later.left)
    → AtPlace taken word set before end Rest → IsCounted words before end.status end.left
place_counted words taken word set before end Rest rest (hungry t e) = ended_counted words before end status.NoMemory before e (starved_here words before)
place_counted words taken word set before end Rest rest (crowded items h e) = ended_counted words before end _ before e refl
place_counted words taken word set before end Rest rest (placed slots later h e more) =
    subst (λ (d : End). IsCounted words before d.status d.left) (sym e) (rest slots later more)

pub follows_counted : (known : Known) (words : List (List ℕ)) (taken : Bool) (tree : Tree) (before : Outside) (end : End)
    → Follows known words taken tree before end → IsCounted words before end.status end.left
unfolding Follows
follows_counted known words taken (reads word limit next) before end h =
    call_counted words taken (Gives known before (word_at words word) limit) (read_status word) before end (λ bytes after. Follows known words taken (next bytes) after end)
    (cut_read known words word limit before) (λ x after e. kept_same before after e.1.3) (λ x after later. follows_counted known words taken (next x) after end later) h
follows_counted known words taken (refuses verdict) before end h = refusal_counted words taken verdict before end h
follows_counted known words taken (places word set next) before end h =
    place_counted words taken word set before end (λ slots later. Follows known words taken (next slots) before later)
    (λ slots later more. follows_counted known words taken (next slots) before later more) h
follows_counted known words taken (opens link next) before end h =
    call_counted words taken (Opens known before link) open_status before end (λ _ after. Follows known words taken next after end) (cut_open known words link before)
    (λ x after e. record { counts = ap counts_of e; files = ap (λ (o : Outside). o.files) e; steady = ap (λ (o : Outside). o.steady) e })
    (λ x after later. follows_counted known words taken next after end later) h
follows_counted known words taken (talks d next) before end h =
    call_counted words taken (Talks known d before) talk_status before end (λ bytes after. Follows known words taken (next bytes) after end) (cut_talk known words d before)
    (λ x after e. record { counts = ap counts_of e.2; files = ap (λ (o : Outside). o.files) e.2; steady = ap (λ (o : Outside). o.steady) e.2 })
    (λ x after later. follows_counted known words taken (next x) after end later) h
follows_counted known words taken (holds next) before end h = follows_counted known words true next before end h
follows_counted known words taken (ends wire effects) before end h =
    effect_counted words before end.status end.left (does_counted known words taken wire effects before end h)
