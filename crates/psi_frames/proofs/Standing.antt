-- Where an end stands in its session, between two frames.
use Rattle.std.proofs.Common.{◌≡◌, ◌<◌, ◌≤◌, ◌+◌, ◌-◌, ◌*◌, inl, inr, ◌∙◌, ℕ, Bool, true, false, IsTrue, List, [], ◌∷◌, ◌++◌, length, take, drop, Option, Some, None, IfSome, OnOk, Ok, Err, option_map, refl, sym, ap, ap₂, subst, arith, append_assoc, length-append}
use Rattle.std.specs.declared.result.Result.{Result}
use Rattle.std.specs.List.{flat_map}
use Rattle.std.proofs.lemmas.Grind.{flat_map-append}
use Rattle.std.proofs.lemmas.List.{append-nil, length-take, take-append-drop, take_all, take_at}
use Rattle.psi_spec.specs.Limits.{inbox_room}
use Rattle.psi_spec.specs.Frames.{Frame, layout}
use Rattle.psi_base.specs.Outside.{Known, Outside, LinkFailed, Rose, Starved, sent_too}
use Rattle.psi_frames.specs.declared.expect.Expect.{Expect}
use Rattle.psi_frames.specs.declared.reasons.BadFrame.{BadFrame}
use Rattle.psi_frames.specs.declared.turns.EndFault.{EndFault}
use Rattle.psi_frames.specs.declared.turns.EndFault.TheVariants as fault
use Rattle.psi_frames.specs.Boxes.{InboxState, with_lent}
use Rattle.psi_frames.specs.Converse.{ConversesWith, Heard, Hears, KeepsAll, KeepsFrame, PeerEnded, Refused, SendsAll, Stopped, Took, Unheard, without_front}
use Rattle.psi_frames.specs.Dialogue.{AreInTurn, Dialogue, IsRight, Talks, WereTaken, bad, good, owed_before, short, talked}
use Rattle.psi_frames.specs.Expected.{frame_length}
use Rattle.psi_frames.specs.Script.{AreAwaited, EndState, IsSettled, IsWithin, Keeps, KeepsOn, Script, awaits, dialogue_of, due_after, due_frame, goes_on, over, owed, reading_from, script_of, sends, wanted, wanted_of, wire_for}
use Rattle.psi_frames.proofs.Fed.{take_past}
use Rattle.psi_frames.proofs.Scripts.{awaited-goes_on, new-goes_on, owed-begun, owed-goes_on, owed-whole, reading-begun, reading-goes_on, reading-whole, reading-wrong, settled-goes_on, wanted-goes_on, wanted-least, wanted-whole, wire-goes_on, within-goes_on}
use Rattle.psi_frames.proofs.Sending.{keeps_on-more, keeps_on-none, nothing_wrong}
use Rattle.psi_frames.proofs.Taken.{in_turn-past, talked_none, talked_sent, talked_took, were_taken-more, were_taken-none}

-- the frames that an end took, the bytes that it sent, and what it goes on with: it reads, owes and wants as its whole
-- script does after these frames, so many more are awaited at most, and what it kept went on with these frames and with all that
-- stands on the wire
pub record At {X : Type 0} (first keeps : Keeps X) (known : Known) (script : Script) (before : Outside) (done left : ℕ) (state : EndState) (box : InboxState) (now : Outside) : Type 0 where
  pub frames : List Frame
  pub taken : List ℕ
  pub gone : List ℕ
  pub bytes : taken ≡ flat_map layout frames
  pub reads : (more : List ℕ) → reading_from script [] (taken ++ more) ≡ reading_from state.next taken more
  pub owes : (more : List ℕ) → owed script (taken ++ more) ≡ gone ++ (state.owes ++ owed state.next more)
  pub wants : (more : List ℕ) → wanted script (taken ++ more) ≡ wanted state.next more
  pub due : (rest : List Frame) → AreAwaited state.next rest → AreAwaited script (frames ++ rest)
  pub settled : IsSettled state.next
  pub least : length (owed_before (dialogue_of script) taken) ≤ length gone
  pub were_taken : WereTaken known before.incoming taken
  pub in_turn : AreInTurn (wanted script) [] were_taken.pieces
  pub now_is : now ≡ talked before gone taken
  pub box_is : box ≡ record { room = inbox_room; held = []; offset = length taken; refused = None }
  pub fresh : IsTrue state.is_new → taken ≡ []
  pub few : IsWithin left state.next
  pub long : length taken ≤ done * inbox_room
  pub wire : List ℕ
  pub on_wire : (rest : List Frame) → wire_for script (frames ++ rest) ≡ wire ++ (state.owes ++ wire_for state.next rest)
  pub kept : KeepsOn first keeps frames wire

-- ---- at the start, and after bytes were sent

pub at_start : {X : Type 0} (keeps : Keeps X) (known : Known) (before : Outside) (left : ℕ) (state : EndState) (box : InboxState) → IsSettled state.next → IsWithin left state.next
    → box ≡ record { room = inbox_room; held = []; offset = 0; refused = None } → At keeps keeps known (script_of state) before 0 left state box before
at_start keeps known before left state box settled few empty = record {
  frames = [];
  taken = [];
  gone = [];
  bytes = refl;
  reads = λ more. refl;
  owes = λ more. refl;
  wants = λ more. refl;
  due = λ rest h. h;
  settled = settled;
  least = omega arith;
  were_taken = (were_taken-none known before.incoming (wanted (script_of state)) []).0;
  in_turn = (were_taken-none known before.incoming (wanted (script_of state)) []).1;
  now_is = sym (talked_none before);
  box_is = empty;
  fresh = λ new. refl;
  few = few;
  long = omega arith;
  wire = [];
  on_wire = λ rest. refl;
  kept = keeps_on-none keeps;
}

pub at_sent : {X : Type 0} (first keeps keeps' : Keeps X) (known : Known) (script : Script) (before : Outside) (done left : ℕ) (state state' : EndState) (box : InboxState) (now new : Outside) → At first keeps known script before done left state box now
    → new ≡ sent_too now state.owes → state' ≡ record state { owes = [] } → KeepsOn keeps keeps' [] state.owes → At first keeps' known script before done left state' box new
at_sent first keeps keeps' known script before done left state state' box now new h all_sent after kept =
    subst (λ (s : EndState). At first keeps' known script before done left s box new) (sym after)
    (record {
      frames = h.frames;
      taken = h.taken;
      gone = h.gone ++ state.owes;
      bytes = h.bytes;
      reads = h.reads;
      owes = λ more. h.owes more ∙ sym (append_assoc h.gone state.owes (owed state.next more));
      wants = h.wants;
      due = h.due;
      settled = h.settled;
      least = omega (arith, h.least, length-append h.gone state.owes);
      were_taken = h.were_taken;
      in_turn = h.in_turn;
      now_is = all_sent ∙ ap (λ (o : Outside). sent_too o state.owes) h.now_is ∙ talked_sent before h.gone h.taken state.owes;
      box_is = h.box_is;
      fresh = h.fresh;
      few = h.few;
      long = h.long;
      wire = h.wire ++ state.owes;
      on_wire = λ rest. h.on_wire rest ∙ sym (append_assoc h.wire state.owes (wire_for state.next rest));
      kept =
          subst (λ (fs : List Frame). KeepsOn first keeps' fs (h.wire ++ state.owes)) (append-nil h.frames)
          (keeps_on-more first keeps keeps' h.frames [] h.wire state.owes h.kept kept);
    })

-- nothing is owed before a byte of the frame that is due
settled_owes : (script : Script) → IsSettled script → owed script [] ≡ []
settled_owes over settled = refl
settled_owes (sends out rest) settled = absurd settled
settled_owes (awaits e next) settled = owed-begun e next [] (omega arith)

-- at a settled end no field is wrong yet
settled_right : (script : Script) (taken : List ℕ) → IsSettled script → IsRight (reading_from script taken [])
settled_right over taken settled = tt
settled_right (sends out rest) taken settled = absurd settled
settled_right (awaits e next) taken settled = subst IsRight (sym (reading-begun e next taken [] (record { short = omega arith; right = nothing_wrong e }))) tt

-- nor at an end that took none
new_right : (script : Script) (taken : List ℕ) → IsRight (reading_from script taken [])
new_right script taken =
    subst IsRight (reading-goes_on true script taken []) (settled_right (goes_on true script).next taken (settled-goes_on true script))

-- so none is where bytes read as those that a settled end took
right_here : (script rest : Script) (taken : List ℕ) → IsSettled rest → reading_from script [] (taken ++ []) ≡ reading_from rest taken [] → IsRight (reading_from script [] taken)
right_here script rest taken settled reads =
    subst IsRight (sym (ap (reading_from script []) (sym (append-nil taken)) ∙ reads)) (settled_right rest taken settled)

-- what was owed once these frames were taken
owed_here : {X : Type 0} (first keeps : Keeps X) (known : Known) (script : Script) (before : Outside) (done left : ℕ) (state : EndState) (box : InboxState) (now : Outside) (h : At first keeps known script before done left state box now)
    → owed script h.taken ≡ h.gone ++ state.owes
owed_here first keeps known script before done left state box now h =
    ap (owed script) (sym (append-nil h.taken)) ∙ h.owes [] ∙ ap (λ (xs : List ℕ). h.gone ++ (state.owes ++ xs)) (settled_owes state.next h.settled)
    ∙ ap (λ (xs : List ℕ). h.gone ++ xs) (append-nil state.owes)

-- ---- a send was refused

-- the outside after a front of what is owed was sent
sent_part : {X : Type 0} (first keeps : Keeps X) (known : Known) (script : Script) (before : Outside) (done left : ℕ) (state : EndState) (box : InboxState) (now : Outside) (k : ℕ) (h : At first keeps known script before done left state box now)
    → sent_too now (take k state.owes) ≡ talked before (take (length h.gone + k) (owed script h.taken)) h.taken
sent_part first keeps known script before done left state box now k h =
    let front : take (length h.gone + k) (owed script h.taken) ≡ h.gone ++ take k state.owes =
    ap (take (length h.gone + k)) (owed_here first keeps known script before done left state box now h) ∙ take_past (length h.gone + k) h.gone state.owes k refl in
    ap (λ (o : Outside). sent_too o (take k state.owes)) h.now_is ∙ talked_sent before h.gone h.taken (take k state.owes)
    ∙ ap (λ (xs : List ℕ). talked before xs h.taken) (sym front)

pub at_unsent : {X : Type 0} (first keeps : Keeps X) (known : Known) (script : Script) (before : Outside) (done left : ℕ) (state : EndState) (box : InboxState) (now new : Outside) (why : EndFault) → At first keeps known script before done left state box now
    → SendsAll now state.owes (Err why) new → Talks known (dialogue_of script) before (Err why) new
at_unsent first keeps known script before done left state box now new (fault.Bad frame) h part = absurd part
at_unsent first keeps known script before done left state box now new (fault.PeerEnded offset) h part = absurd part
at_unsent first keeps known script before done left state box now new fault.Link h part =
    let long = length-append h.gone state.owes in
    let most = ap length (owed_here first keeps known script before done left state box now h) in
    record {
      taken = h.taken;
      sent = length h.gone + part.0;
      were_taken = h.were_taken;
      in_turn = h.in_turn;
      right = right_here script state.next h.taken h.settled (h.reads []);
      least = omega (arith, h.least);
      most = omega (arith, long, most, part.1);
      why = subst (λ (o : Outside). LinkFailed o new) (sent_part first keeps known script before done left state box now part.0 h) part.2;
    }
at_unsent first keeps known script before done left state box now new fault.NoMemory h part =
    let long = length-append h.gone state.owes in
    let most = ap length (owed_here first keeps known script before done left state box now h) in
    record {
      taken = h.taken;
      sent = length h.gone + part.0;
      were_taken = h.were_taken;
      in_turn = h.in_turn;
      right = right_here script state.next h.taken h.settled (h.reads []);
      least = omega (arith, h.least);
      most = omega (arith, long, most, part.1);
      why = inl (subst (λ (o : Outside). Starved o new) (sent_part first keeps known script before done left state box now part.0 h) part.2);
    }

-- ---- the frame that is due

due_is_after : (owes : List ℕ) (script : Script) (e : Expect) → due_after owes script ≡ Some e → (owes ≡ []) × (next : Frame → Script) × (script ≡ awaits e next)
due_is_after [] over e is = absurd (cc)
due_is_after [] (sends out rest) e is = absurd (cc)
due_is_after [] (awaits first next) e is = let same : first ≡ e = cc in (refl, next, ap (λ (x : Expect). awaits x next) same)
due_is_after (x ∷ owes) over e is = absurd (cc)
due_is_after (x ∷ owes) (sends out rest) e is = absurd (cc)
due_is_after (x ∷ owes) (awaits first next) e is = absurd (cc)

-- an end at which this frame is due
abbrev waiting : Expect → (Frame → Script) → Bool → EndState
waiting e next new = record { owes = []; next = awaits e next; is_new = new }

pub waits : (state : EndState) (e : Expect) → due_frame state ≡ Some e → (next : Frame → Script) × (state ≡ waiting e next state.is_new)
waits state e is =
    let due = due_is_after state.owes state.next e is in
    (due.1, λ i. record { owes = due.0 i; next = due.2 i; is_new = state.is_new })

-- once nothing is owed or due, all is done
pub is_over : (owes : List ℕ) (script : Script) → owes ≡ [] → IsSettled script → due_after owes script ≡ None → script ≡ over
is_over [] over none settled is = refl
is_over [] (sends out rest) none settled is = absurd settled
is_over [] (awaits e next) none settled is = absurd (cc)
is_over (x ∷ owes) script none settled is = absurd (cc)

pub over_within : (script : Script) → IsSettled script → IsWithin 0 script → script ≡ over
over_within over settled few = refl
over_within (sends out rest) settled few = absurd settled
over_within (awaits e next) settled few = absurd (let more = few.0 in omega arith)

-- what was owed before the last of the bytes b, after a
before_last : (d : Dialogue) (a b : List ℕ) → 0 < length b → owed_before d (a ++ b) ≡ d.owes (a ++ take (length b - 1) b)
before_last d [] [] some = absurd (omega arith)
before_last d [] (x ∷ b) some = refl
before_last d (y ∷ a) b some = ap d.owes (take_past (length (y ∷ (a ++ b)) - 1) (y ∷ a) b (length b - 1) (omega (arith, length-append a b)))

-- what holds of the front of all bytes, where they are told
on_front : (incoming : Option (List ℕ)) (taken : List ℕ) (P : List ℕ → Type 0) → IfSome incoming (λ bytes. take (length taken) bytes ≡ taken) → ((more : List ℕ) → P (taken ++ more))
    → IfSome incoming (λ bytes. P bytes)
on_front None taken P front all = tt
on_front (Some bytes) taken P front all =
    subst P (ap (λ (xs : List ℕ). xs ++ drop (length taken) bytes) (sym front) ∙ take-append-drop (length taken) bytes) (all (drop (length taken) bytes))

-- what holds of all bytes, where they are told and no more are left
on_all : (incoming : Option (List ℕ)) (taken : List ℕ) (P : List ℕ → Type 0) → IfSome incoming (λ bytes. take (length taken) bytes ≡ taken)
    → IfSome (option_map (λ bytes. drop (length taken) bytes) incoming) (λ bytes. bytes ≡ []) → P taken → IfSome incoming (λ bytes. P bytes)
on_all None taken P front none all = tt
on_all (Some bytes) taken P front none all =
    subst P (sym (append-nil taken) ∙ ap₂ (λ (xs ys : List ℕ). xs ++ ys) (sym front) (sym none) ∙ take-append-drop (length taken) bytes) all

-- a session that is done
pub at_over : {X : Type 0} (first keeps : Keeps X) (known : Known) (script : Script) (before : Outside) (done left : ℕ) (state : EndState) (box : InboxState) (now : Outside) (u : Unit {0}) → At first keeps known script before done left state box now
    → state.owes ≡ [] → state.next ≡ over → ConversesWith known script (KeepsAll script first keeps) before (Ok u) now
at_over first keeps known script before done left state box now u h none done_all =
    let reads : (more : List ℕ) → reading_from script [] (h.taken ++ more) ≡ good h.taken =
    λ more. h.reads more ∙ ap (λ (s : Script). reading_from s h.taken more) done_all in
    let owes : owed script h.taken ≡ h.gone =
    owed_here first keeps known script before done left state box now h ∙ ap (λ (xs : List ℕ). h.gone ++ xs) none ∙ append-nil h.gone in
    let wire : wire_for script h.frames ≡ h.wire =
    ap (wire_for script) (sym (append-nil h.frames)) ∙ h.on_wire []
    ∙ ap₂ (λ (xs : List ℕ) (s : Script). h.wire ++ (xs ++ wire_for s [])) none done_all ∙ append-nil h.wire in
    let due : AreAwaited script (h.frames ++ []) = h.due [] (subst (λ (s : Script). AreAwaited s []) (sym done_all) tt) in (
      h.taken,
      (
        h.were_taken,
        record {
          taken_so_far = ap (reading_from script []) (sym (append-nil h.taken)) ∙ reads [];
          all = on_front before.incoming h.taken (λ bytes. reading_from script [] bytes ≡ good h.taken) h.were_taken.next reads;
        },
        h.now_is ∙ ap (λ (xs : List ℕ). talked before xs h.taken) (sym owes),
      ),
      h.frames,
      record { due = subst (AreAwaited script) (append-nil h.frames) due; bytes = h.bytes },
      subst (λ (xs : List ℕ). KeepsOn first keeps h.frames xs) (sym wire) h.kept,
    )

module _ {X : Type 0} (first keeps : Keeps X) (known : Known) (script : Script) (before : Outside) (done left : ℕ) (e : Expect) (next : Frame → Script) (new : Bool) (box : InboxState) (now : Outside) (h : At first keeps known script before done left (waiting e next new) box now) where
  -- while the frame that is due is not whole, no more is owed
  owed_within : (part : List ℕ) → length part < frame_length e → owed script (h.taken ++ part) ≡ h.gone
  owed_within part few = h.owes part ∙ ap (λ (xs : List ℕ). h.gone ++ xs) (owed-begun e next part few) ∙ append-nil h.gone

  owed_now : owed script h.taken ≡ h.gone
  owed_now = owed_here first keeps known script before done left (waiting e next new) box now h ∙ append-nil h.gone

  -- what was owed before the last of the bytes that came
  owed_last : (part : List ℕ) → 0 < length part → length part ≤ frame_length e → owed_before (dialogue_of script) (h.taken ++ part) ≡ h.gone
  owed_last part some within =
      before_last (dialogue_of script) h.taken part some
      ∙ owed_within (take (length part - 1) part) (omega (arith, some, within, length-take (length part - 1) part))

  least_by : (part : List ℕ) → length part ≤ frame_length e → length (owed_before (dialogue_of script) (h.taken ++ part)) ≤ length h.gone
  least_by [] within = subst (λ (xs : List ℕ). length (owed_before (dialogue_of script) xs) ≤ length h.gone) (sym (append-nil h.taken)) h.least
  least_by (x ∷ part) within = let same = ap length (owed_last (x ∷ part) (omega arith) within) in omega (arith, same)

  -- no less is wanted than of the frame that is due
  wanted_more : (part : List ℕ) → wanted_of e part ≤ wanted script (h.taken ++ part)
  wanted_more part = let least = wanted-least e next part in let same = h.wants part in omega (arith, least, same)

  came : (part : List ℕ) (mid : Outside) → Took known e [] now part mid → (all : WereTaken known before.incoming (h.taken ++ part)) × AreInTurn (wanted script) [] all.pieces
  came part mid took =
      let more : Took known e [] (talked before h.gone h.taken) part mid = subst (λ (o : Outside). Took known e [] o part mid) h.now_is took in
      were_taken-more known before.incoming (wanted script) [] h.taken part h.were_taken more.were_taken h.in_turn
      (subst (λ (xs : List ℕ). AreInTurn (wanted script) xs more.were_taken.pieces) (append-nil h.taken) (in_turn-past (wanted_of e) (wanted script) h.taken [] more.were_taken.pieces wanted_more more.in_turn))

  mid_is : (part : List ℕ) (mid : Outside) → Took known e [] now part mid → mid ≡ talked before h.gone (h.taken ++ part)
  mid_is part mid took = took.left ∙ ap (λ (o : Outside). without_front o part) h.now_is ∙ talked_took before h.gone h.taken part

  -- the place of the frame that is due
  place_is : (offset : ℕ) → offset ≡ box.offset → length h.taken ≡ offset
  place_is offset at = sym (at ∙ ap (λ (b : InboxState). b.offset) h.box_is)

  -- the bytes before it, and all that was owed for them
  front_of : (offset : ℕ) (part : List ℕ) → offset ≡ box.offset → owed script (take offset (h.taken ++ part)) ≡ h.gone
  front_of offset part at = ap (owed script) (take_at h.taken part offset (place_is offset at)) ∙ owed_now

  -- a wrong field ends the session
  at_refused : (frame : BadFrame) (after : Outside) → Refused known e box now frame after → Talks known (dialogue_of script) before (Err (fault.Bad frame)) after
  at_refused frame after r =
      let taken : List ℕ = h.taken ++ r.bytes in
      let reads : (more : List ℕ) → reading_from script [] (taken ++ more) ≡ bad frame =
      λ more.
      ap (reading_from script []) (append_assoc h.taken r.bytes more) ∙ h.reads (r.bytes ++ more)
      ∙ reading-wrong e next h.taken r.bytes more frame.reason r.within r.first
      ∙ ap (λ (n : ℕ). bad (record { offset = n; reason = frame.reason })) (place_is frame.offset r.place) in
      let all = came r.bytes after r.took in
      let were_taken = all.0 in
      record {
        taken = taken;
        were_taken = were_taken;
        in_turn = all.1;
        reads = record {
          taken_so_far = ap (reading_from script []) (sym (append-nil taken)) ∙ reads [];
          all = on_front before.incoming taken (λ bytes. reading_from script [] bytes ≡ bad frame) were_taken.next reads;
        };
        left = mid_is r.bytes after r.took ∙ ap (λ (xs : List ℕ). talked before xs taken) (sym (front_of frame.offset r.bytes r.place));
      }

  -- so does the peer's end
  at_end : (offset : ℕ) (after : Outside) → offset ≡ box.offset → Stopped known e now (λ mid. PeerEnded mid after)
      → Talks known (dialogue_of script) before (Err (fault.PeerEnded offset)) after
  at_end offset after at s =
      let taken : List ℕ = h.taken ++ s.bytes in
      let mid = mid_is s.bytes s.mid s.took in
      let reads : reading_from script [] taken ≡ short offset =
      h.reads s.bytes ∙ reading-begun e next h.taken s.bytes s.begun ∙ ap (λ (n : ℕ). short n) (place_is offset at) in
      let all = came s.bytes s.mid s.took in
      let were_taken = all.0 in
      record {
        taken = taken;
        were_taken = were_taken;
        in_turn = all.1;
        reads = record {
          taken_so_far = reads;
          all =
              on_all before.incoming taken (λ bytes. reading_from script [] bytes ≡ short offset) were_taken.next
              (subst (λ (o : Outside). IfSome o.incoming (λ bytes. bytes ≡ [])) mid s.why.none) reads;
        };
        rose = subst (λ (o : Outside). Rose o.ends after.ends) mid s.why.rose;
        left =
            s.why.left ∙ ap (λ (o : Outside). record o { ends = after.ends }) mid
            ∙ ap (λ (xs : List ℕ). record (talked before xs taken) { ends = after.ends }) (sym (front_of offset s.bytes at));
      }

  -- so does a failure of the link
  at_failed : (after : Outside) → Stopped known e now (λ mid. LinkFailed mid after) → Talks known (dialogue_of script) before (Err fault.Link) after
  at_failed after s =
      let taken : List ℕ = h.taken ++ s.bytes in
      let owes : owed script taken ≡ h.gone = owed_within s.bytes s.begun.short in
      let sent : take (length h.gone) (owed script taken) ≡ h.gone = ap (take (length h.gone)) owes ∙ take_all (length h.gone) h.gone (omega arith) in
      record {
        taken = taken;
        sent = length h.gone;
        were_taken = (came s.bytes s.mid s.took).0;
        in_turn = (came s.bytes s.mid s.took).1;
        right = subst IsRight (sym (h.reads s.bytes ∙ reading-begun e next h.taken s.bytes s.begun)) tt;
        least = least_by s.bytes (omega (arith, s.begun.short));
        most = omega (arith, ap length owes);
        why =
            subst (λ (o : Outside). LinkFailed o after)
            (mid_is s.bytes s.mid s.took ∙ ap (λ (xs : List ℕ). talked before xs taken) (sym sent)) s.why;
      }

  -- so does want of memory for the first frame
  at_unheard : (after : Outside) → Unheard known e (waiting e next new) now after → Talks known (dialogue_of script) before (Err fault.NoMemory) after
  at_unheard after u =
      let part : List ℕ = layout u.frame in
      let taken : List ℕ = h.taken ++ part in
      let owes : owed script taken ≡ h.gone ++ owed (awaits e next) part = h.owes part in
      let none : owed script [] ≡ h.gone = ap (owed script) (sym (h.fresh u.early)) ∙ owed_now in
      let sent : take (length h.gone) (owed script taken) ≡ h.gone =
      ap (take (length h.gone)) owes ∙ take_at h.gone (owed (awaits e next) part) (length h.gone) refl in
      record {
        taken = taken;
        sent = length h.gone;
        were_taken = (came part after u.took).0;
        in_turn = (came part after u.took).1;
        right =
            right_here script (goes_on false (next u.frame)).next taken (settled-goes_on false (next u.frame))
            (ap (reading_from script []) (append_assoc h.taken part []) ∙ h.reads (part ++ [])
            ∙ reading-whole e next h.taken u.frame [] u.valid ∙ sym (reading-goes_on false (next u.frame) taken []));
        least = least_by part (omega (arith, u.valid.long));
        most = omega (arith, ap length owes, length-append h.gone (owed (awaits e next) part));
        why = inr (omega (arith, ap length none), mid_is part after u.took ∙ ap (λ (xs : List ℕ). talked before xs taken) (sym sent));
      }

  pub at_stopped : (Told : Frame → Type 0) (why : EndFault) (state' : EndState) (box' : InboxState) (after : Outside) → Hears known e Told (waiting e next new) box now (Err why) state' box' after
      → Talks known (dialogue_of script) before (Err why) after
  at_stopped Told (fault.Bad frame) state' box' after hears = at_refused frame after hears
  at_stopped Told (fault.PeerEnded offset) state' box' after hears = at_end offset after hears.0 hears.1
  at_stopped Told fault.Link state' box' after hears = at_failed after hears
  at_stopped Told fault.NoMemory state' box' after hears = at_unheard after hears

  -- the end took the frame
  pub at_heard : (keeps' : Keeps X) (state' : EndState) (box' : InboxState) (after : Outside) → Heard known e (KeepsFrame keeps keeps') (waiting e next new) box now state' box' after
      → At first keeps' known script before (done + 1) (left - 1) state' box' after
  at_heard keeps' state' box' after d =
      let f : Frame = d.frame in
      let part : List ℕ = layout f in
      let rest : Script = next f in
      let taken : List ℕ = h.taken ++ part in
      let few = h.few in
      subst (λ (s : EndState). At first keeps' known script before (done + 1) (left - 1) s box' after) (sym d.goes_on)
      (record {
        frames = h.frames ++ f ∷ [];
        taken = taken;
        gone = h.gone;
        bytes =
            ap (λ (xs : List ℕ). xs ++ part) h.bytes
            ∙ (ap (λ (xs : List ℕ). flat_map layout h.frames ++ xs) (sym (append-nil part)) ∙ sym (flat_map-append layout h.frames (f ∷ [])));
        reads = λ more.
            ap (reading_from script []) (append_assoc h.taken part more) ∙ h.reads (part ++ more)
            ∙ reading-whole e next h.taken f more d.valid ∙ sym (reading-goes_on false rest taken more);
        owes = λ more.
            ap (owed script) (append_assoc h.taken part more) ∙ h.owes (part ++ more)
            ∙ ap (λ (xs : List ℕ). h.gone ++ xs) (owed-whole e next f more d.valid ∙ sym (owed-goes_on false rest more));
        wants = λ more.
            ap (wanted script) (append_assoc h.taken part more) ∙ h.wants (part ++ more)
            ∙ wanted-whole e next f more d.valid ∙ sym (wanted-goes_on false rest more);
        due = λ frames awaited.
            subst (AreAwaited script) (sym (append_assoc h.frames (f ∷ []) frames))
            (h.due (f ∷ frames) (d.valid, subst (λ (T : Type 0). T) (awaited-goes_on false rest frames) awaited));
        settled = settled-goes_on false rest;
        least = least_by part (omega (arith, d.valid.long));
        were_taken = (came part after d.took).0;
        in_turn = (came part after d.took).1;
        now_is = mid_is part after d.took;
        box_is =
            d.lent ∙ ap (with_lent e) h.box_is
            ∙ ap (λ (n : ℕ). record { room = inbox_room; held = []; offset = n; refused = None }) (sym (length-append h.taken part ∙ ap (λ (n : ℕ). length h.taken + n) d.valid.long));
        fresh = λ is. absurd (let not : false ≡ true = sym (new-goes_on false rest) ∙ is in cc);
        few = within-goes_on false rest (left - 1) (few.2 f d.valid);
        long = let room = few.1 in omega (arith, h.long, d.valid.long, length-append h.taken part, room);
        wire = h.wire ++ part;
        on_wire = λ frames.
            ap (wire_for script) (append_assoc h.frames (f ∷ []) frames) ∙ h.on_wire (f ∷ frames)
            ∙ sym (append_assoc h.wire part ((goes_on false rest).owes ++ wire_for (goes_on false rest).next frames) ∙ ap (λ (xs : List ℕ). h.wire ++ (part ++ xs)) (wire-goes_on false rest frames));
        kept = keeps_on-more first keeps keeps' h.frames (f ∷ []) h.wire part h.kept d.told;
      })

-- ---- the steps of the loop

-- no memory for the inbox
pub not_begun : (known : Known) (script : Script) (before : Outside) → Talks known (dialogue_of script) before (Err fault.NoMemory) before
not_begun known script before = record {
  taken = [];
  sent = 0;
  were_taken = (were_taken-none known before.incoming (wanted script) []).0;
  in_turn = (were_taken-none known before.incoming (wanted script) []).1;
  right = new_right script [];
  least = omega arith;
  most = omega arith;
  why = inr (omega arith, sym (talked_none before));
}

pub at_next : {X : Type 0} (first keeps keeps' : Keeps X) (known : Known) (script : Script) (before : Outside) (done left : ℕ) (state state' : EndState) (box box' : InboxState) (now after : Outside) (e : Expect)
    → At first keeps known script before done left state box now → due_frame state ≡ Some e → Heard known e (KeepsFrame keeps keeps') state box now state' box' after → At first keeps' known script before (done + 1) (left - 1) state' box' after
at_next first keeps keeps' known script before done left state state' box box' now after e h is heard =
    let wait = waits state e is in
    at_heard first keeps known script before done left e wait.0 state.is_new box now (subst (λ (s : EndState). At first keeps known script before done left s box now) wait.1 h) keeps' state' box' after
    (subst (λ (s : EndState). Heard known e (KeepsFrame keeps keeps') s box now state' box' after) wait.1 heard)

pub at_cut : {X : Type 0} (first keeps : Keeps X) (Told : Frame → Type 0) (known : Known) (script : Script) (before : Outside) (done left : ℕ) (state state' : EndState) (box box' : InboxState) (now after : Outside) (e : Expect) (why : EndFault)
    → At first keeps known script before done left state box now → due_frame state ≡ Some e → Hears known e Told state box now (Err why) state' box' after → Talks known (dialogue_of script) before (Err why) after
at_cut first keeps Told known script before done left state state' box box' now after e why h is hears =
    let wait = waits state e is in
    at_stopped first keeps known script before done left e wait.0 state.is_new box now (subst (λ (s : EndState). At first keeps known script before done left s box now) wait.1 h) Told why state' box' after
    (subst (λ (s : EndState). Hears known e Told s box now (Err why) state' box' after) wait.1 hears)

-- all was sent, and no frame is due
pub at_done : {X : Type 0} (first keeps keeps' : Keeps X) (known : Known) (script : Script) (before : Outside) (done left : ℕ) (state state' : EndState) (box : InboxState) (now after : Outside)
    → At first keeps known script before done left state box now → after ≡ sent_too now state.owes → state' ≡ record state { owes = [] } → KeepsOn keeps keeps' [] state.owes → due_frame state' ≡ None
    → ConversesWith known script (KeepsAll script first keeps') before (Ok tt) after
at_done first keeps keeps' known script before done left state state' box now after h all_sent next kept none =
    let here = at_sent first keeps keeps' known script before done left state state' box now after h all_sent next kept in
    let owes : state'.owes ≡ [] = ap (λ (s : EndState). s.owes) next in
    at_over first keeps' known script before done left state' box after tt here owes (is_over state'.owes state'.next owes here.settled none)

-- the last bytes are sent
pub at_last : {X : Type 0} (first keeps keeps' : Keeps X) (known : Known) (script : Script) (before : Outside) (done : ℕ) (state state' : EndState) (box : InboxState) (now after : Outside) (r : Result (Unit {0}) EndFault)
    → At first keeps known script before done 0 state box now → SendsAll now state.owes r after → OnOk r (state' ≡ record state { owes = [] }) → OnOk r (KeepsOn keeps keeps' [] state.owes)
    → ConversesWith known script (KeepsAll script first keeps') before r after
at_last first keeps keeps' known script before done state state' box now after (Ok u) h all_sent next kept =
    let here = at_sent first keeps keeps' known script before done 0 state state' box now after h all_sent next kept in
    at_over first keeps' known script before done 0 state' box after u here (ap (λ (s : EndState). s.owes) next) (over_within state'.next here.settled here.few)
at_last first keeps keeps' known script before done state state' box now after (Err why) h part next kept = at_unsent first keeps known script before done 0 state box now after why h part
