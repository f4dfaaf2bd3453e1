-- Scripts, frame by frame.
use Rattle.std.proofs.Common.{◌≡◌, ◌<◌, ◌≤◌, ◌+◌, ◌-◌, ◌∙◌, ℕ, Bool, true, false, List, [], ◌∷◌, ◌++◌, length, take, drop, nat_lt, Option, Some, None, Ok, Err, subst, refl, ap, ap₂, arith, append_assoc, length-append}
use Rattle.std.specs.declared.result.Result.{Result}
use Rattle.std.proofs.lemmas.Bool.{le-ltb, lt-ltb}
use Rattle.std.proofs.lemmas.List.{drop_at, take_all, take_at}
use Rattle.psi_spec.specs.Frames.{Frame, layout}
use Rattle.psi_base.specs.Outside.{Known, Outside}
use Rattle.psi_frames.specs.declared.expect.Expect.{Expect}
use Rattle.psi_frames.specs.declared.reasons.Reason.{Reason}
use Rattle.psi_frames.specs.declared.turns.EndFault.{EndFault}
use Rattle.psi_frames.specs.Converse.{Converses, ConversesWith}
use Rattle.psi_frames.specs.Dialogue.{Talks, Dialogue, bad, short}
use Rattle.psi_frames.specs.Expected.{IsBegun, IsValid, frame_at, frame_length, wrong}
use Rattle.psi_frames.specs.Script.{AreAwaited, IsRead, IsSettled, IsWithin, Script, awaits, by_fault, by_front, dialogue_of, frames_of, goes_on, over, owed, reading_from, script_of, sends, wanted, wanted_of, wire_for}
use Rattle.psi_frames.proofs.Fed.{take_past}
use Rattle.psi_frames.proofs.FrameAt.{frame_at_layout}
use Rattle.psi_frames.proofs.Judged.{wrong_stays}

-- ---- what stands at the front of bytes

-- a whole frame
pub by_front-whole : {A : Type 0} (e : Expect) (bytes : List ℕ) (refused : Reason → A) (begun : A) (whole : Frame → A)
    → wrong e (take (frame_length e) bytes) ≡ None → frame_length e ≤ length bytes → by_front e bytes refused begun whole ≡ whole (frame_at e (take (frame_length e) bytes))
by_front-whole e bytes refused begun whole right long =
    ap₂ (λ (o : Option Reason) (few : Bool). by_fault o few refused begun whole (frame_at e (take (frame_length e) bytes))) right (le-ltb (length bytes) (frame_length e) long)

-- a wrong field
by_front-wrong : {A : Type 0} (e : Expect) (bytes : List ℕ) (refused : Reason → A) (begun : A) (whole : Frame → A) (why : Reason)
    → wrong e (take (frame_length e) bytes) ≡ Some why → by_front e bytes refused begun whole ≡ refused why
by_front-wrong e bytes refused begun whole why found =
    ap (λ (o : Option Reason). by_fault o (nat_lt (length bytes) (frame_length e)) refused begun whole (frame_at e (take (frame_length e) bytes))) found

-- a frame that is only begun
by_front-begun : {A : Type 0} (e : Expect) (bytes : List ℕ) (refused : Reason → A) (begun : A) (whole : Frame → A)
    → wrong e bytes ≡ None → length bytes < frame_length e → by_front e bytes refused begun whole ≡ begun
by_front-begun e bytes refused begun whole right few =
    let all : take (frame_length e) bytes ≡ bytes = take_all (frame_length e) bytes (omega arith) in
    ap₂ (λ (o : Option Reason) (b : Bool). by_fault o b refused begun whole (frame_at e (take (frame_length e) bytes))) (ap (wrong e) all ∙ right) (lt-ltb (length bytes) (frame_length e) few)

same_twice : {A : Type 0} (o : Option Reason) (x : A) (whole : Frame → A) (f : Frame) → by_fault o true (λ why. x) x whole f ≡ x
same_twice None x whole f = refl
same_twice (Some why) x whole f = refl

-- nothing is owed for a frame before it is whole
pub owed-begun : (e : Expect) (next : Frame → Script) (bytes : List ℕ) → length bytes < frame_length e → owed (awaits e next) bytes ≡ []
owed-begun e next bytes few =
    let go : Frame → List ℕ = λ f. owed (next f) (drop (frame_length e) bytes) in
    ap (λ (b : Bool). by_fault (wrong e (take (frame_length e) bytes)) b (λ why. []) [] go (frame_at e (take (frame_length e) bytes))) (lt-ltb (length bytes) (frame_length e) few)
    ∙ same_twice (wrong e (take (frame_length e) bytes)) [] go (frame_at e (take (frame_length e) bytes))

-- ---- how many bytes are wanted

-- of a frame that is only begun, the rest is
pub wanted_of-begun : (e : Expect) (bytes : List ℕ) → IsBegun e bytes → wanted_of e bytes ≡ frame_length e - length bytes
wanted_of-begun e bytes begun = by_front-begun e bytes (λ why. 0) (frame_length e - length bytes) (λ f. 0) begun.right begun.short

none_least : (o : Option Reason) (few : Bool) (n : ℕ) (whole : Frame → ℕ) (f : Frame) → by_fault o few (λ why. 0) n (λ g. 0) f ≤ by_fault o few (λ why. 0) n whole f
none_least (Some why) few n whole f = omega arith
none_least None true n whole f = omega arith
none_least None false n whole f = omega arith

-- a script wants no less than the frame that it awaits does
pub wanted-least : (e : Expect) (next : Frame → Script) (bytes : List ℕ) → wanted_of e bytes ≤ wanted (awaits e next) bytes
wanted-least e next bytes =
    none_least (wrong e (take (frame_length e) bytes)) (nat_lt (length bytes) (frame_length e)) (frame_length e - length bytes) (λ f. wanted (next f) (drop (frame_length e) bytes))
    (frame_at e (take (frame_length e) bytes))

-- ---- a script at the frame that it awaits

-- the frame that is due is whole, and so the bytes after it are read, and owed for, by what comes next
pub reading-whole : (e : Expect) (next : Frame → Script) (taken : List ℕ) (f : Frame) (more : List ℕ) → IsValid e f
    → reading_from (awaits e next) taken (layout f ++ more) ≡ reading_from (next f) (taken ++ layout f) more
reading-whole e next taken f more valid =
    let bytes : List ℕ = layout f ++ more in
    let front : take (frame_length e) bytes ≡ layout f = take_at (layout f) more (frame_length e) valid.long in
    let back : drop (frame_length e) bytes ≡ more = drop_at (layout f) more (frame_length e) valid.long in
    by_front-whole e bytes (λ why. bad (record { offset = length taken; reason = why })) (short (length taken))
    (λ frame. reading_from (next frame) (taken ++ take (frame_length e) bytes) (drop (frame_length e) bytes))
    (ap (wrong e) front ∙ valid.right) (omega (arith, valid.long, length-append (layout f) more))
    ∙ ap (λ (xs : List ℕ). reading_from (next (frame_at e xs)) (taken ++ xs) (drop (frame_length e) bytes)) front
    ∙ ap₂ (λ (frame : Frame) (xs : List ℕ). reading_from (next frame) (taken ++ layout f) xs) (frame_at_layout e f valid) back

pub owed-whole : (e : Expect) (next : Frame → Script) (f : Frame) (more : List ℕ) → IsValid e f → owed (awaits e next) (layout f ++ more) ≡ owed (next f) more
owed-whole e next f more valid =
    let bytes : List ℕ = layout f ++ more in
    let front : take (frame_length e) bytes ≡ layout f = take_at (layout f) more (frame_length e) valid.long in
    let back : drop (frame_length e) bytes ≡ more = drop_at (layout f) more (frame_length e) valid.long in
    by_front-whole e bytes (λ why. []) [] (λ frame. owed (next frame) (drop (frame_length e) bytes))
    (ap (wrong e) front ∙ valid.right) (omega (arith, valid.long, length-append (layout f) more))
    ∙ ap₂ (λ (frame : Frame) (xs : List ℕ). owed (next frame) xs) (ap (frame_at e) front ∙ frame_at_layout e f valid) back

pub frames_of-whole : (e : Expect) (next : Frame → Script) (f : Frame) (more : List ℕ) → IsValid e f → frames_of (awaits e next) (layout f ++ more) ≡ f ∷ frames_of (next f) more
frames_of-whole e next f more valid =
    let bytes : List ℕ = layout f ++ more in
    let front : take (frame_length e) bytes ≡ layout f = take_at (layout f) more (frame_length e) valid.long in
    let back : drop (frame_length e) bytes ≡ more = drop_at (layout f) more (frame_length e) valid.long in
    by_front-whole e bytes (λ why. []) [] (λ frame. frame ∷ frames_of (next frame) (drop (frame_length e) bytes))
    (ap (wrong e) front ∙ valid.right) (omega (arith, valid.long, length-append (layout f) more))
    ∙ ap₂ (λ (frame : Frame) (xs : List ℕ). frame ∷ frames_of (next frame) xs) (ap (frame_at e) front ∙ frame_at_layout e f valid) back

pub wanted-whole : (e : Expect) (next : Frame → Script) (f : Frame) (more : List ℕ) → IsValid e f → wanted (awaits e next) (layout f ++ more) ≡ wanted (next f) more
wanted-whole e next f more valid =
    let bytes : List ℕ = layout f ++ more in
    let front : take (frame_length e) bytes ≡ layout f = take_at (layout f) more (frame_length e) valid.long in
    let back : drop (frame_length e) bytes ≡ more = drop_at (layout f) more (frame_length e) valid.long in
    by_front-whole e bytes (λ why. 0) (frame_length e - length bytes) (λ frame. wanted (next frame) (drop (frame_length e) bytes))
    (ap (wrong e) front ∙ valid.right) (omega (arith, valid.long, length-append (layout f) more))
    ∙ ap₂ (λ (frame : Frame) (xs : List ℕ). wanted (next frame) xs) (ap (frame_at e) front ∙ frame_at_layout e f valid) back

-- a field in its place is wrong, whatever follows
pub reading-wrong : (e : Expect) (next : Frame → Script) (taken bytes more : List ℕ) (why : Reason) → length bytes ≤ frame_length e → wrong e bytes ≡ Some why
    → reading_from (awaits e next) taken (bytes ++ more) ≡ bad (record { offset = length taken; reason = why })
reading-wrong e next taken bytes more why within found =
    let all : List ℕ = bytes ++ more in
    let long : frame_length e ≡ length bytes + (frame_length e - length bytes) = omega arith in
    let front : take (frame_length e) all ≡ bytes ++ take (frame_length e - length bytes) more = take_past (frame_length e) bytes more (frame_length e - length bytes) long in
    by_front-wrong e all (λ w. bad (record { offset = length taken; reason = w })) (short (length taken))
    (λ frame. reading_from (next frame) (taken ++ take (frame_length e) all) (drop (frame_length e) all)) why
    (ap (wrong e) front ∙ wrong_stays e bytes (take (frame_length e - length bytes) more) why found)

-- the bytes end inside the frame
pub reading-begun : (e : Expect) (next : Frame → Script) (taken bytes : List ℕ) → IsBegun e bytes → reading_from (awaits e next) taken bytes ≡ short (length taken)
reading-begun e next taken bytes begun =
    by_front-begun e bytes (λ w. bad (record { offset = length taken; reason = w })) (short (length taken))
    (λ frame. reading_from (next frame) (taken ++ take (frame_length e) bytes) (drop (frame_length e) bytes)) begun.right begun.short

-- ---- an end that goes on with a script

pub reading-goes_on : (new : Bool) (script : Script) (taken bytes : List ℕ) → reading_from (goes_on new script).next taken bytes ≡ reading_from script taken bytes
reading-goes_on new over taken bytes = refl
reading-goes_on new (sends out rest) taken bytes = reading-goes_on new rest taken bytes
reading-goes_on new (awaits e next) taken bytes = refl

pub owed-goes_on : (new : Bool) (script : Script) (bytes : List ℕ) → (goes_on new script).owes ++ owed (goes_on new script).next bytes ≡ owed script bytes
owed-goes_on new over bytes = refl
owed-goes_on new (sends out rest) bytes =
    append_assoc out (goes_on new rest).owes (owed (goes_on new rest).next bytes) ∙ ap (λ (xs : List ℕ). out ++ xs) (owed-goes_on new rest bytes)
owed-goes_on new (awaits e next) bytes = refl

pub wanted-goes_on : (new : Bool) (script : Script) (bytes : List ℕ) → wanted (goes_on new script).next bytes ≡ wanted script bytes
wanted-goes_on new over bytes = refl
wanted-goes_on new (sends out rest) bytes = wanted-goes_on new rest bytes
wanted-goes_on new (awaits e next) bytes = refl

pub wire-goes_on : (new : Bool) (script : Script) (frames : List Frame) → (goes_on new script).owes ++ wire_for (goes_on new script).next frames ≡ wire_for script frames
wire-goes_on new over frames = refl
wire-goes_on new (sends out rest) frames =
    append_assoc out (goes_on new rest).owes (wire_for (goes_on new rest).next frames) ∙ ap (λ (xs : List ℕ). out ++ xs) (wire-goes_on new rest frames)
wire-goes_on new (awaits e next) frames = refl

pub awaited-goes_on : (new : Bool) (script : Script) (frames : List Frame) → AreAwaited (goes_on new script).next frames ≡ AreAwaited script frames
awaited-goes_on new over frames = refl
awaited-goes_on new (sends out rest) frames = awaited-goes_on new rest frames
awaited-goes_on new (awaits e next) frames = refl

pub settled-goes_on : (new : Bool) (script : Script) → IsSettled (goes_on new script).next
settled-goes_on new over = tt
settled-goes_on new (sends out rest) = settled-goes_on new rest
settled-goes_on new (awaits e next) = tt

pub within-goes_on : (new : Bool) (script : Script) (n : ℕ) → IsWithin n script → IsWithin n (goes_on new script).next
within-goes_on new over n h = h
within-goes_on new (sends out rest) n h = within-goes_on new rest n h
within-goes_on new (awaits e next) n h = h

pub new-goes_on : (new : Bool) (script : Script) → (goes_on new script).is_new ≡ new
new-goes_on new over = refl
new-goes_on new (sends out rest) = new-goes_on new rest
new-goes_on new (awaits e next) = refl

-- an end that begins with a script is a dialogue of that script
pub dialogue-goes_on : (new : Bool) (script : Script) → dialogue_of (script_of (goes_on new script)) ≡ dialogue_of script
dialogue-goes_on new script = λ i. record {
  reads_as = λ bytes. reading-goes_on new script [] bytes i;
  owes = λ bytes. owed-goes_on new script bytes i;
  wants = λ bytes. wanted-goes_on new script bytes i;
}

-- what is awaited at most is so for any greater number too
pub within_more : (script : Script) (n m : ℕ) → n ≤ m → IsWithin n script → IsWithin m script
within_more over n m few h = tt
within_more (sends out rest) n m few h = within_more rest n m few h
within_more (awaits e next) n m few h = (let some = h.0 in omega arith, h.1, λ f valid. within_more (next f) (n - 1) (m - 1) (omega arith) (h.2 f valid))

-- the frames that an end awaits which begins with a script are those of that script
pub read-goes_on : (new : Bool) (script : Script) (frames : List Frame) (taken : List ℕ) → IsRead (script_of (goes_on new script)) frames taken → IsRead script frames taken
read-goes_on new script frames taken h = record { due = subst (λ (T : Type 0). T) (awaited-goes_on new script frames) h.due; bytes = h.bytes }

-- and its session is one of that script
pub converses-goes_on : (known : Known) (new : Bool) (script : Script) (before : Outside) (r : Result (Unit {0}) EndFault) (after : Outside)
    → Converses known (script_of (goes_on new script)) before r after → Converses known script before r after
converses-goes_on known new script before (Ok u) after h = (
  h.0,
  subst (λ (d : Dialogue). Talks known d before (Ok h.0) after) (dialogue-goes_on new script) h.1,
  h.2,
  read-goes_on new script h.2 h.0 h.3,
)
converses-goes_on known new script before (Err why) after h = subst (λ (d : Dialogue). Talks known d before (Err why) after) (dialogue-goes_on new script) h

-- a session of which more is told
pub converses_so : (known : Known) (script : Script) (Told : List Frame → Type 0) (before : Outside) (r : Result (Unit {0}) EndFault) (after : Outside)
    → ConversesWith known script Told before r after → Converses known script before r after
converses_so known script Told before (Ok u) after h = (h.0, h.1, h.2, h.3)
converses_so known script Told before (Err why) after h = h
