-- How a run met what its tree comes to, where what decides it is told.
use Rattle.std.proofs.Common.{◌≡◌, ◌<◌, ◌≤◌, ◌==◌, ◌⊎◌, inl, inr, ℕ, Bool, IsTrue, true, false, nat_lt, List, [], take, length, Option, Some, None, Ok, Err, refl, sym, ap, ◌∙◌, subst, arith}
use Rattle.std.specs.declared.result.Result.{Result}
use Rattle.std.specs.Option.{IfSome}
use Rattle.std.proofs.lemmas.Bool.Decides.{nat_tests}
use Rattle.psi_spec.specs.CrowdedLists.{IsCrowded, touched_by}
use Rattle.psi_spec.specs.Placement.{Slot}
use Rattle.psi_words.specs.Words.{word_at}
use Rattle.psi_base.specs.Outside.{Known, Link, Outside, Files, HasFile, HasAtLeast, LacksFile, Rose, Reads, Opens, Starved, linked}
use Rattle.psi_base.specs.declared.faults.Fault.{Fault}
use Rattle.psi_base.specs.declared.faults.Fault.TheVariants as fault
use Rattle.psi_base.specs.declared.faults.ReadFault.{ReadFault}
use Rattle.psi_base.specs.declared.faults.ReadFault.TheVariants as read
use Rattle.psi_frames.specs.declared.reasons.BadFrame.{BadFrame}
use Rattle.psi_frames.specs.declared.turns.EndFault.{EndFault}
use Rattle.psi_frames.specs.declared.turns.EndFault.TheVariants as peer
use Rattle.psi_frames.specs.Dialogue.{Dialogue, Reading, ReadSo, Talks, good, bad, short, talked}
use Rattle.psi_walk.specs.Due.{Contents, Due, lacks, long, refusal, unplaced, reached, IsTold, by_told, due, told, lacking, without, judged, given, heard}
use Rattle.psi_walk.specs.Promises.{HasSoMany, Untouched, Stands}
use Rattle.psi_walk.specs.Tree.{Effect, Placing, slots_for, Tree, reads, refuses, places, opens, talks, holds, ends, End, stopped}
use Rattle.psi_walk.specs.Walk.{AtCall, AtPlace, AtRefusal, starved, cut, passed, hungry, crowded, placed, given_up, refused, IsVerdict, Follows, Gives, read_status, open_status, talk_status}
use Rattle.psi_texts.specs.declared.status.Status.{Status}
use Rattle.psi_texts.specs.declared.status.Status.TheVariants as status
use Rattle.psi_walk.proofs.Standing.{does_stands}

-- only the link was used
unfoldable pub OnlyTalked : Outside → Outside → Type 0
OnlyTalked before mid = mid ≡ record before { incoming = mid.incoming; outgoing = mid.outgoing; ready = mid.ready; opened = mid.opened }

-- why a run ended before anything was printed or written
pub data Early (d : Option Contents → Due) (contents : Option Contents) (before : Outside) (why : Status) (after : Outside) : Type 0 where
  verdict : IsVerdict why → d contents ≡ refusal why → Early d contents before why after
  unheard : (frame : BadFrame) → why ≡ status.BadFrame frame → d contents ≡ refusal (status.BadFrame frame) → Early d contents before why after
  short_of : (offset : ℕ) → why ≡ status.PeerEnded offset → d contents ≡ refusal (status.PeerEnded offset) → Early d contents before why after
  missing : (word : ℕ) → why ≡ status.FileFault word → d (without word contents) ≡ lacks word → Rose before.file_faults after.file_faults
      → (IsTrue before.steady → (all : Contents) × (contents ≡ Some all) × (all word ≡ None)) → Early d contents before why after
  longer : (word taken : ℕ) → why ≡ status.TooLong word taken → d contents ≡ long word → HasSoMany contents word taken → Early d contents before why after
  excluded : (word : ℕ) (set : Placing) (items : List ℕ) → why ≡ status.NoPlacement word items (touched_by set.candidates items) → d contents ≡ unplaced word set
      → IsCrowded set.stash set.candidates items → Early d contents before why after
  unlinked : why ≡ status.LinkFault → Rose before.link_faults after.link_faults → before.steady ≡ false → Early d contents before why after
  wanting : why ≡ status.NoMemory → Early d contents before why after

-- how a run ended: early, with nothing printed or written, or at what was to do in the end
pub data Met (words : List (List ℕ)) (d : Option Contents → Due) (contents : Option Contents) (before : Outside) (why : Status) (after : Outside) : Type 0 where
  early : Untouched before after → Early d contents before why after → Met words d contents before why after
  late : (mid : Outside) (effects : List Effect) → OnlyTalked before mid → d contents ≡ reached mid effects → Stands words effects mid why after
      → Met words d contents before why after

-- ---- carrying it back over a step

-- what is due at a tree, from what is due at the next one
record Leads (d e : Option Contents → Due) (contents : Option Contents) : Type 0 where
  same : d contents ≡ e contents
  lacking : (word : ℕ) → e (without word contents) ≡ lacks word → d (without word contents) ≡ lacks word

carry_early : (d e : Option Contents → Due) (contents : Option Contents) (before mid : Outside) (why : Status) (after : Outside) → Leads d e contents → OnlyTalked before mid
    → Early e contents mid why after → Early d contents before why after
unfolding OnlyTalked
carry_early d e contents before mid why after l t (verdict v h) = verdict v (l.same ∙ h)
carry_early d e contents before mid why after l t (unheard frame s h) = unheard frame s (l.same ∙ h)
carry_early d e contents before mid why after l t (short_of offset s h) = short_of offset s (l.same ∙ h)
carry_early d e contents before mid why after l t (missing word s h rose steady) =
    missing word s (l.lacking word h) (subst (λ (n : ℕ). Rose n after.file_faults) (ap (λ (o : Outside). o.file_faults) t) rose)
    (λ was. steady (ap (λ (o : Outside). o.steady) t ∙ was))
carry_early d e contents before mid why after l t (longer word taken s h many) = longer word taken s (l.same ∙ h) many
carry_early d e contents before mid why after l t (excluded word set items s h c) = excluded word set items s (l.same ∙ h) c
carry_early d e contents before mid why after l t (unlinked s rose unsteady) =
    unlinked s (subst (λ (n : ℕ). Rose n after.link_faults) (ap (λ (o : Outside). o.link_faults) t) rose) (sym (ap (λ (o : Outside). o.steady) t) ∙ unsteady)
carry_early d e contents before mid why after l t (wanting s) = wanting s

talked_on : (before mid last : Outside) → OnlyTalked before mid → OnlyTalked mid last → OnlyTalked before last
unfolding OnlyTalked
talked_on before mid last a b = b ∙ ap (λ (o : Outside). record o { incoming = last.incoming; outgoing = last.outgoing; ready = last.ready; opened = last.opened }) a

carry : (words : List (List ℕ)) (d e : Option Contents → Due) (contents : Option Contents) (before mid : Outside) (why : Status) (after : Outside) → Leads d e contents
    → OnlyTalked before mid → Met words e contents mid why after → Met words d contents before why after
unfolding OnlyTalked
carry words d e contents before mid why after l t (early u h) =
    early (record { files = u.files ∙ ap (λ (o : Outside). o.files) t; printed = u.printed ∙ ap (λ (o : Outside). o.printed) t })
    (carry_early d e contents before mid why after l t h)
carry words d e contents before mid why after l t (late last effects more h stands) = late last effects (talked_on before mid last t more) (l.same ∙ h) stands

same_leads : (d : Option Contents → Due) (contents : Option Contents) → Leads d d contents
same_leads d contents = record { same = refl; lacking = λ word h. h }

unchanged : (before after : Outside) → after ≡ before → Untouched before after
unchanged before after e = record { files = ap (λ (o : Outside). o.files) e; printed = ap (λ (o : Outside). o.printed) e }

-- a run that ended with a status here
met_end : (words : List (List ℕ)) (d : Option Contents → Due) (contents : Option Contents) (before : Outside) (end : End) (why : Status) (after : Outside)
    → end ≡ stopped why after → Met words d contents before why after → Met words d contents before end.status end.left
met_end words d contents before end why after e h = subst (λ (x : End). Met words d contents before x.status x.left) (sym e) h

starved_here : (words : List (List ℕ)) (d : Option Contents → Due) (contents : Option Contents) (before : Outside) → Met words d contents before status.NoMemory before
starved_here words d contents before = early (unchanged before before refl) (wanting refl)

-- ---- files

lacking_same : (word : ℕ) (all : Contents) → lacking word all word ≡ None
lacking_same word all = let t : (word == word) ≡ true = grind (arith, nat_tests) in rw t refl

judged_long : (word limit : ℕ) (content : Option (List ℕ)) (bytes : List ℕ) (next : List ℕ → Due) → content ≡ Some bytes → limit < length bytes
    → judged word limit content next ≡ long word
judged_long word limit content bytes next e over =
    let t : nat_lt limit (length bytes) ≡ true = grind (arith, nat_tests) in
    ap (λ (o : Option (List ℕ)). judged word limit o next) e ∙ (rw t refl)

judged_read : (word limit : ℕ) (content : Option (List ℕ)) (bytes : List ℕ) (next : List ℕ → Due) → content ≡ Some bytes → length bytes ≤ limit
    → judged word limit content next ≡ next bytes
judged_read word limit content bytes next e within =
    let t : nat_lt limit (length bytes) ≡ false = grind (arith, nat_tests) in
    ap (λ (o : Option (List ℕ)). judged word limit o next) e ∙ (rw t refl)

-- a file that was read leads on to what comes next
read_leads : (d : Option Contents → List ℕ → Due) (all : Contents) (word limit : ℕ) (bytes : List ℕ) → all word ≡ Some bytes → length bytes ≤ limit
    → Leads (λ c. by_told c (λ all. judged word limit (all word) (d c))) (λ c. d c bytes) (Some all)
read_leads d all word limit bytes e within = record {
  same = judged_read word limit (all word) bytes (d (Some all)) e within;
  lacking = λ other h. by_word other (word == other) refl h;
}
  where
    by_word : (other : ℕ) (b : Bool) → (word == other) ≡ b → d (Some (lacking other all)) bytes ≡ lacks other
        → judged word limit (lacking other all word) (d (Some (lacking other all))) ≡ lacks other
    by_word other true t h =
        let same : word ≡ other = grind (arith, nat_tests) in
        let none : lacking other all word ≡ None = rw t refl in
        ap (λ (o : Option (List ℕ)). judged word limit o (d (Some (lacking other all)))) none ∙ ap lacks same
    by_word other false t h =
        let there : lacking other all word ≡ Some bytes = rw t e in
        judged_read word limit (lacking other all word) bytes (d (Some (lacking other all))) there within ∙ h

told_file : (o : Option Files) (files : Files) (name bytes : List ℕ) → o ≡ Some files → HasFile o name bytes → files name ≡ Some bytes
told_file o files name bytes e h = subst (λ (x : Option Files). HasFile x name bytes) e h

told_least : (o : Option Files) (files : Files) (name : List ℕ) (count : ℕ) → o ≡ Some files → HasAtLeast o name count → HasAtLeast (Some files) name count
told_least o files name count e h = subst (λ (x : Option Files). HasAtLeast x name count) e h

told_missing : (o : Option Files) (files : Files) (name : List ℕ) → o ≡ Some files → LacksFile o name → files name ≡ None
told_missing o files name e h = subst (λ (x : Option Files). LacksFile x name) e h

-- the contents of files that are told
abbrev contents_in : Files → List (List ℕ) → Contents
contents_in files words = λ at. files (word_at words at)

read_cut : (known : Known) (words : List (List ℕ)) (word limit : ℕ) (d : Option Contents → List ℕ → Due) (files : Files) (before : Outside) (why : ReadFault) (after : Outside)
    → before.files ≡ Some files → Reads known before (word_at words word) limit (Err why) after
    → Met words (λ c. by_told c (λ all. judged word limit (all word) (d c))) (Some (contents_in files words)) before (read_status word why) after
read_cut known words word limit d files before read.Failed after is h =
    let all = contents_in files words in
    early (record { files = ap (λ (o : Outside). o.files) h.left; printed = ap (λ (o : Outside). o.printed) h.left })
    (missing word refl (ap (λ (o : Option (List ℕ)). judged word limit o (d (Some (lacking word all)))) (lacking_same word all)) h.rose
    (λ steady. (all, refl, told_missing before.files files (word_at words word) is (h.missing steady))))
read_cut known words word limit d files before (read.TooLong taken) after is h =
    let least = told_least before.files files (word_at words word) taken is h.1 in
    let over : limit < length least.0 = let a = h.0 in let b = least.2 in omega arith in
    early (unchanged before after h.2)
    (longer word taken refl (judged_long word limit (files (word_at words word)) least.0 (d (Some (contents_in files words))) least.1 over)
    (contents_in files words, least.0, refl, least.1, least.2))
read_cut known words word limit d files before read.NoMemory after is h = early (unchanged before after h) (wanting refl)

-- ---- the link

open_cut : (known : Known) (link : Link) (words : List (List ℕ)) (d : Option Contents → Due) (contents : Option Contents) (before : Outside) (why : Fault) (after : Outside)
    → Opens known before link (Err why) after → Met words d contents before (open_status why) after
open_cut known link words d contents before fault.Failed after h =
    early (record { files = ap (λ (o : Outside). o.files) h.1.left; printed = ap (λ (o : Outside). o.printed) h.1.left }) (unlinked refl h.1.rose h.1.unsteady)
open_cut known link words d contents before fault.NoMemory after h =
    early (record { files = ap (λ (o : Outside). o.files) h.left; printed = ap (λ (o : Outside). o.printed) h.left }) (wanting refl)

-- all of the peer's bytes read so, where they are told
told_reading : (d : Dialogue) (o : Option (List ℕ)) (incoming taken : List ℕ) (r : Reading) → o ≡ Some incoming → ReadSo d o taken r → d.reads_as incoming ≡ r
told_reading d o incoming taken r e h = subst (λ (x : Option (List ℕ)). IfSome x (λ bytes. d.reads_as bytes ≡ r)) e h.all

starved_talk : (before mid after : Outside) (P : Type 0) → Untouched before mid → Starved mid after ⊎ (P × (after ≡ mid)) → Untouched before after
starved_talk before mid after P u (inl h) = record { files = ap (λ (o : Outside). o.files) h.left ∙ u.files; printed = ap (λ (o : Outside). o.printed) h.left ∙ u.printed }
starved_talk before mid after P u (inr h) = record { files = ap (λ (o : Outside). o.files) h.1 ∙ u.files; printed = ap (λ (o : Outside). o.printed) h.1 ∙ u.printed }

-- what is due of a session once its incoming bytes are told
heard_told : (d : Dialogue) (o : Option (List ℕ)) (incoming : List ℕ) (r : Reading) (next : List ℕ → Due) → o ≡ Some incoming → d.reads_as incoming ≡ r
    → by_told o (λ bytes. heard (d.reads_as bytes) next) ≡ heard r next
heard_told d o incoming r next e so = ap (λ (x : Option (List ℕ)). by_told x (λ bytes. heard (d.reads_as bytes) next)) e ∙ ap (λ (x : Reading). heard x next) so

talk_cut : (known : Known) (words : List (List ℕ)) (d : Dialogue) (next : Option Contents → List ℕ → Due) (contents : Option Contents) (incoming : List ℕ) (before : Outside)
    (why : EndFault) (after : Outside) → before.incoming ≡ Some incoming → Talks known d before (Err why) after
    → Met words (λ c. by_told before.incoming (λ bytes. heard (d.reads_as bytes) (next c))) contents before (talk_status why) after
talk_cut known words d next contents incoming before (peer.Bad frame) after is h =
    early (record { files = ap (λ (o : Outside). o.files) h.left; printed = ap (λ (o : Outside). o.printed) h.left })
    (unheard frame refl (heard_told d before.incoming incoming (bad frame) (next contents) is (told_reading d before.incoming incoming h.taken (bad frame) is h.reads)))
talk_cut known words d next contents incoming before (peer.PeerEnded offset) after is h =
    early (record { files = ap (λ (o : Outside). o.files) h.left; printed = ap (λ (o : Outside). o.printed) h.left })
    (short_of offset refl (heard_told d before.incoming incoming (short offset) (next contents) is (told_reading d before.incoming incoming h.taken (short offset) is h.reads)))
talk_cut known words d next contents incoming before peer.Link after is h =
    early (record { files = ap (λ (o : Outside). o.files) h.why.left; printed = ap (λ (o : Outside). o.printed) h.why.left }) (unlinked refl h.why.rose h.why.unsteady)
talk_cut known words d next contents incoming before peer.NoMemory after is h =
    early (starved_talk before (talked before (take h.sent (d.owes h.taken)) h.taken) after (h.sent ≤ length (d.owes [])) (record { files = refl; printed = refl }) h.why) (wanting refl)

-- a peer that was heard leads on to what comes next
heard_leads : (d : Dialogue) (next : Option Contents → List ℕ → Due) (contents : Option Contents) (o : Option (List ℕ)) (incoming taken : List ℕ) → o ≡ Some incoming
    → d.reads_as incoming ≡ good taken → Leads (λ c. by_told o (λ bytes. heard (d.reads_as bytes) (next c))) (λ c. next c taken) contents
heard_leads d next contents o incoming taken e so = record {
  same = heard_told d o incoming (good taken) (next contents) e so;
  lacking = λ other h. heard_told d o incoming (good taken) (next (without other contents)) e so ∙ h;
}

-- ---- the walk

call_met : {A E : Type 0} (taken : Bool) (Calls : Result A E → Outside → Type 0) (status_of : E → Status) (words : List (List ℕ)) (d : Option Contents → Due)
    (contents : Option Contents) (before : Outside) (end : End) (Rest : A → Outside → Type 0)
    → ((why : E) (after : Outside) → Calls (Err why) after → Met words d contents before (status_of why) after)
    → ((x : A) (after : Outside) → Calls (Ok x) after → Rest x after → Met words d contents before end.status end.left)
    → AtCall taken Calls status_of before end Rest → Met words d contents before end.status end.left
call_met taken Calls status_of words d contents before end Rest err ok (starved t e) =
    met_end words d contents before end status.NoMemory before e (starved_here words d contents before)
call_met taken Calls status_of words d contents before end Rest err ok (cut why after h e) = met_end words d contents before end (status_of why) after e (err why after h)
call_met taken Calls status_of words d contents before end Rest err ok (passed x after h more) = ok x after h more

refusal_met : (words : List (List ℕ)) (taken : Bool) (why : Status) (contents : Option Contents) (before : Outside) (end : End) → AtRefusal taken why before end
    → Met words (λ c. refusal why) contents before end.status end.left
refusal_met words taken why contents before end (given_up t e) =
    met_end words (λ c. refusal why) contents before end status.NoMemory before e (starved_here words (λ c. refusal why) contents before)
refusal_met words taken why contents before end (refused v e) =
    met_end words (λ c. refusal why) contents before end why before e (early (unchanged before before refl) (verdict v refl))

-- slots that are picked lead on to what comes next
given_leads : (word : ℕ) (set : Placing) (slots : List Slot) (d : Option Contents → List Slot → Due) (contents : Option Contents) → slots_for set ≡ Some slots
    → Leads (λ c. given word set (slots_for set) (d c)) (λ c. d c slots) contents
given_leads word set slots d contents e = record {
  same = ap (λ (o : Option (List Slot)). given word set o (d contents)) e;
  lacking = λ other h. ap (λ (o : Option (List Slot)). given word set o (d (without other contents))) e ∙ h;
}

place_met : (words : List (List ℕ)) (taken : Bool) (word : ℕ) (set : Placing) (d : Option Contents → List Slot → Due) (contents : Option Contents) (before : Outside)
    (end : End) (Rest : List Slot → End → Type 0)
    → ((slots : List Slot) (later : End) → slots_for set ≡ Some slots → Rest slots later → Met words (λ c. d c slots) contents before later.status later.left)
    → AtPlace taken word set before end Rest → Met words (λ c. given word set (slots_for set) (d c)) contents before end.status end.left
unfolding OnlyTalked
place_met words taken word set d contents before end Rest ok (hungry t e) =
    met_end words (λ c. given word set (slots_for set) (d c)) contents before end status.NoMemory before e
    (starved_here words (λ c. given word set (slots_for set) (d c)) contents before)
place_met words taken word set d contents before end Rest ok (crowded items h e) =
    met_end words (λ c. given word set (slots_for set) (d c)) contents before end _ before e
    (early (unchanged before before refl) (excluded word set items refl (ap (λ (o : Option (List Slot)). given word set o (d contents)) h.1) h.0))
place_met words taken word set d contents before end Rest ok (placed slots later h e more) =
    subst (λ (x : End). Met words (λ c. given word set (slots_for set) (d c)) contents before x.status x.left) (sym e)
    (carry words (λ c. given word set (slots_for set) (d c)) (λ c. d c slots) contents before before later.status later.left
    (given_leads word set slots d contents h.1) refl (ok slots later h.1 more))

pub follows_met : (known : Known) (words : List (List ℕ)) (taken : Bool) (tree : Tree) (before : Outside) (end : End)
    → IsTold (due (told before.files words) before tree) → Follows known words taken tree before end
    → Met words (λ c. due c before tree) (told before.files words) before end.status end.left
unfolding Follows OnlyTalked
follows_met known words taken (reads word limit next) before end is h =
    by_files before.files refl is (λ bytes later more. follows_met known words taken (next bytes) before end later more)
  where
    by_files : (o : Option Files) → before.files ≡ o → IsTold (due (told o words) before (reads word limit next))
        → ((bytes : List ℕ) → IsTold (due (told before.files words) before (next bytes)) → Follows known words taken (next bytes) before end
        → Met words (λ c. due c before (next bytes)) (told before.files words) before end.status end.left)
        → Met words (λ c. due c before (reads word limit next)) (told o words) before end.status end.left
    by_files None e t go_on = absurd t
    by_files (Some files) e t go_on =
        call_met taken (Gives known before (word_at words word) limit) (read_status word) words (λ c. due c before (reads word limit next))
        (Some (contents_in files words)) before end (λ bytes after. Follows known words taken (next bytes) after end)
        (λ why after cut_off. read_cut known words word limit (λ c bytes. due c before (next bytes)) files before why after e cut_off)
        (λ bytes after was more.
        let there : files (word_at words word) ≡ Some bytes = told_file before.files files (word_at words word) bytes e was.1.1 in
        let leads = read_leads (λ c bytes. due c before (next bytes)) (contents_in files words) word limit bytes there was.1.0 in
        let later : IsTold (due (told before.files words) before (next bytes)) =
        subst (λ (o : Option Files). IsTold (due (told o words) before (next bytes))) (sym e) (subst IsTold leads.same t) in
        let met : Met words (λ c. due c before (next bytes)) (told before.files words) before end.status end.left =
        go_on bytes later (subst (λ (o : Outside). Follows known words taken (next bytes) o end) was.1.3 more) in
        carry words (λ c. due c before (reads word limit next)) (λ c. due c before (next bytes)) (Some (contents_in files words)) before before end.status end.left
        leads refl (subst (λ (o : Option Files). Met words (λ c. due c before (next bytes)) (told o words) before end.status end.left) e met))
        h
follows_met known words taken (refuses why) before end is h = refusal_met words taken why (told before.files words) before end h
follows_met known words taken (places word set next) before end is h =
    place_met words taken word set (λ c slots. due c before (next slots)) (told before.files words) before end (λ slots later. Follows known words taken (next slots) before later)
    (λ slots later e more.
    follows_met known words taken (next slots) before later
    (subst IsTold (ap (λ (o : Option (List Slot)). given word set o (λ slots. due (told before.files words) before (next slots))) e) is) more)
    h
follows_met known words taken (opens link next) before end is h =
    let mid = linked before link in
    call_met taken (Opens known before link) open_status words (λ c. due c mid next) (told before.files words) before end (λ _ after. Follows known words taken next after end)
    (λ why after cut_off. open_cut known link words (λ c. due c mid next) (told before.files words) before why after cut_off)
    (λ x after was more.
    carry words (λ c. due c mid next) (λ c. due c mid next) (told before.files words) before mid end.status end.left
    (same_leads (λ c. due c mid next) (told before.files words)) refl
    (follows_met known words taken next mid end is (subst (λ (o : Outside). Follows known words taken next o end) was more)))
    h
follows_met known words taken (talks d next) before end is h =
    by_incoming before.incoming refl is (λ bytes later more. follows_met known words taken (next bytes) (talked before (d.owes bytes) bytes) end later more)
  where
    rest : Option Contents → List ℕ → Due
    rest c bytes = due c (talked before (d.owes bytes) bytes) (next bytes)

    by_incoming : (o : Option (List ℕ)) → before.incoming ≡ o → IsTold (by_told o (λ incoming. heard (d.reads_as incoming) (rest (told before.files words))))
        → ((bytes : List ℕ) → IsTold (rest (told before.files words) bytes) → Follows known words taken (next bytes) (talked before (d.owes bytes) bytes) end
        → Met words (λ c. rest c bytes) (told before.files words) (talked before (d.owes bytes) bytes) end.status end.left)
        → Met words (λ c. due c before (talks d next)) (told before.files words) before end.status end.left
    by_incoming None e t go_on = absurd t
    by_incoming (Some incoming) e t go_on =
        call_met taken (Talks known d before) talk_status words (λ c. due c before (talks d next)) (told before.files words) before end
        (λ bytes after. Follows known words taken (next bytes) after end)
        (λ why after cut_off. talk_cut known words d rest (told before.files words) incoming before why after e cut_off)
        (λ bytes after was more.
        let mid = talked before (d.owes bytes) bytes in
        let so : d.reads_as incoming ≡ good bytes = told_reading d before.incoming incoming bytes (good bytes) e was.1 in
        let later : IsTold (rest (told before.files words) bytes) = subst IsTold (ap (λ (x : Reading). heard x (rest (told before.files words))) so) t in
        carry words (λ c. due c before (talks d next)) (λ c. rest c bytes) (told before.files words) before mid end.status end.left
        (heard_leads d rest (told before.files words) before.incoming incoming bytes e so) refl
        (go_on bytes later (subst (λ (o : Outside). Follows known words taken (next bytes) o end) was.2 more)))
        h
follows_met known words taken (holds next) before end is h = follows_met known words true next before end is h
follows_met known words taken (ends wire effects) before end is h =
    late before effects refl refl (does_stands known words taken wire effects before end h)
