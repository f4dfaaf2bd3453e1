-- How bytes read by a script, and what is owed for them.
use Rattle.std.proofs.Common.{◌≡◌, ◌<◌, ◌≤◌, ◌-◌, ◌∙◌, ℕ, Bool, true, false, List, [], ◌∷◌, ◌++◌, length, take, drop, nat_lt, Option, Some, None, refl, sym, ap, ap₂, subst, arith, append_assoc, length-append}
use Rattle.std.specs.List.{flat_map}
use Rattle.std.proofs.lemmas.Bool.{le-ltb, ltb-false, ltb-true}
use Rattle.std.proofs.lemmas.List.{append-nil, drop-append-le, length-take-le, take-append-drop, take-append-le, take_all}
use Rattle.psi_spec.specs.Frames.{AreBytes, Frame, layout}
use Rattle.psi_spec.proofs.Frames.{AreBytes-drop, AreBytes-take}
use Rattle.psi_frames.specs.declared.expect.Expect.{Expect}
use Rattle.psi_frames.specs.declared.reasons.Reason.{Reason}
use Rattle.psi_frames.specs.Dialogue.{Reading, bad, good, short}
use Rattle.psi_frames.specs.Expected.{IsValid, IsWhole, frame_at, frame_length, wrong}
use Rattle.psi_frames.specs.Script.{AreAwaited, Script, awaits, by_fault, frames_of, over, owed, owed_for, reading_from, sends}
use Rattle.psi_frames.specs.ScriptLaws.{AreDue, IsFinal, OwedGrows, OwesAll, OwesOn, ReadingStays, ReadsAs, ReadsAwaited, ReadsFrames, ReadsOn, TakesAwaited, reached}
use Rattle.psi_frames.proofs.Fed.{take_past}
use Rattle.psi_frames.proofs.Judged.{wrong_stays}
use Rattle.psi_frames.proofs.Scripts.{frames_of-whole, owed-whole, reading-begun, reading-whole}
use Rattle.psi_frames.proofs.Sending.{valid_of}
use Rattle.psi_frames.proofs.Spelled.{whole_at}

-- ---- frames that are due

pub reads_on : ReadsOn
reads_on over [] taken more due = ap (λ (xs : List ℕ). good xs) (sym (append-nil taken))
reads_on over (f ∷ frames) taken more due = absurd due
reads_on (sends out rest) frames taken more due = reads_on rest frames taken more due
reads_on (awaits e next) [] taken more due = ap (λ (xs : List ℕ). reading_from (awaits e next) xs more) (sym (append-nil taken))
reads_on (awaits e next) (f ∷ frames) taken more due =
    let rest : List ℕ = flat_map layout frames in
    ap (reading_from (awaits e next) taken) (append_assoc (layout f) rest more)
    ∙ reading-whole e next taken f (rest ++ more) due.0
    ∙ reads_on (next f) frames (taken ++ layout f) more due.1
    ∙ ap (λ (xs : List ℕ). reading_from (reached (next f) frames) xs more) (append_assoc taken (layout f) rest)

pub owes_on : OwesOn
owes_on over [] more due = refl
owes_on over (f ∷ frames) more due = absurd due
owes_on (sends out rest) frames more due =
    ap (λ (xs : List ℕ). out ++ xs) (owes_on rest frames more due) ∙ sym (append_assoc out (owed_for rest frames) (owed (reached rest frames) more))
owes_on (awaits e next) [] more due = refl
owes_on (awaits e next) (f ∷ frames) more due =
    ap (owed (awaits e next)) (append_assoc (layout f) (flat_map layout frames) more)
    ∙ owed-whole e next f (flat_map layout frames ++ more) due.0
    ∙ owes_on (next f) frames more due.1

-- all that a script awaits are due, and lead to its end
pub awaited_due : (script : Script) (frames : List Frame) → AreAwaited script frames → AreDue script frames × (reached script frames ≡ over)
awaited_due over [] h = (tt, refl)
awaited_due over (f ∷ frames) h = absurd h
awaited_due (sends out rest) frames h = awaited_due rest frames h
awaited_due (awaits e next) [] h = absurd h
awaited_due (awaits e next) (f ∷ frames) h = let rest = awaited_due (next f) frames h.1 in ((h.0, rest.0), rest.1)

-- and those that lead to its end are all
pub due_awaited : (script : Script) (frames : List Frame) → AreDue script frames → reached script frames ≡ over → AreAwaited script frames
due_awaited over [] due end = tt
due_awaited over (f ∷ frames) due end = due
due_awaited (sends out rest) frames due end = due_awaited rest frames due end
due_awaited (awaits e next) [] due end = absurd (cc)
due_awaited (awaits e next) (f ∷ frames) due end = (due.0, due_awaited (next f) frames due.1 end)

pub owes_all : OwesAll
owes_all script frames more awaited =
    let due = awaited_due script frames awaited in
    owes_on script frames more due.0 ∙ ap (λ (s : Script). owed_for script frames ++ owed s more) due.1 ∙ append-nil (owed_for script frames)

-- all frames that are awaited, behind the bytes before them
awaited_good : (script : Script) (frames : List Frame) (before more : List ℕ) → AreAwaited script frames → reading_from script before (flat_map layout frames ++ more) ≡ good (before ++ flat_map layout frames)
awaited_good script frames before more awaited =
    let due = awaited_due script frames awaited in
    reads_on script frames before more due.0 ∙ ap (λ (s : Script). reading_from s (before ++ flat_map layout frames) more) due.1

pub reads_awaited : ReadsAwaited
reads_awaited script frames taken more read =
    ap (λ (xs : List ℕ). reading_from script [] (xs ++ more)) read.bytes ∙ awaited_good script frames [] more read.due ∙ ap (λ (xs : List ℕ). good xs) (sym read.bytes)

-- the frames that are taken of them
frames_awaited : (script : Script) (frames : List Frame) (more : List ℕ) → AreAwaited script frames → frames_of script (flat_map layout frames ++ more) ≡ frames
frames_awaited over [] more due = refl
frames_awaited over (f ∷ frames) more due = absurd due
frames_awaited (sends out rest) frames more due = frames_awaited rest frames more due
frames_awaited (awaits e next) [] more due = absurd due
frames_awaited (awaits e next) (f ∷ frames) more due =
    ap (frames_of (awaits e next)) (append_assoc (layout f) (flat_map layout frames) more)
    ∙ frames_of-whole e next f (flat_map layout frames ++ more) due.0
    ∙ ap (λ (fs : List Frame). f ∷ fs) (frames_awaited (next f) frames more due.1)

pub takes_awaited : TakesAwaited
takes_awaited script frames taken more read =
    ap (λ (xs : List ℕ). frames_of script (xs ++ more)) read.bytes ∙ frames_awaited script frames more read.due

-- ---- bytes that follow

-- a front of bytes that is longer than they are goes on into those that follow
front_of_more : (n : ℕ) (bytes more : List ℕ) (short : Bool) → nat_lt (length bytes) n ≡ short → (rest : List ℕ) × (take n (bytes ++ more) ≡ take n bytes ++ rest)
front_of_more n bytes more true is =
    let few : length bytes < n = ltb-true (length bytes) n is in
    let j : ℕ = n - length bytes in
    (take j more, take_past n bytes more j (omega arith) ∙ ap (λ (xs : List ℕ). xs ++ take j more) (sym (take_all n bytes (omega arith))))
front_of_more n bytes more false is =
    let long : n ≤ length bytes = ltb-false (length bytes) n is in
    ([], take-append-le n bytes more long ∙ sym (append-nil (take n bytes)))

-- by what stands at the front of the bytes, and of more
data Front (e : Expect) (bytes more : List ℕ) : Type 0 where
  refused : (why : Reason) → wrong e (take (frame_length e) bytes) ≡ Some why → wrong e (take (frame_length e) (bytes ++ more)) ≡ Some why → Front e bytes more
  begun : wrong e (take (frame_length e) bytes) ≡ None → nat_lt (length bytes) (frame_length e) ≡ true → Front e bytes more
  whole : wrong e (take (frame_length e) bytes) ≡ None → nat_lt (length bytes) (frame_length e) ≡ false → frame_length e ≤ length bytes → Front e bytes more

front_by : (e : Expect) (bytes more : List ℕ) (o : Option Reason) (few : Bool) → wrong e (take (frame_length e) bytes) ≡ o → nat_lt (length bytes) (frame_length e) ≡ few → Front e bytes more
front_by e bytes more (Some why) few found is =
    let front = front_of_more (frame_length e) bytes more few is in
    refused why found (ap (wrong e) front.1 ∙ wrong_stays e (take (frame_length e) bytes) front.0 why found)
front_by e bytes more None true found is = begun found is
front_by e bytes more None false found is = whole found is (ltb-false (length bytes) (frame_length e) is)

front : (e : Expect) (bytes more : List ℕ) → Front e bytes more
front e bytes more = front_by e bytes more (wrong e (take (frame_length e) bytes)) (nat_lt (length bytes) (frame_length e)) refl refl

-- ---- one frame of a script

module _ (e : Expect) (next : Frame → Script) (taken bytes : List ℕ) where
  abbrev go : Frame → Reading
  go f = reading_from (next f) (taken ++ take (frame_length e) bytes) (drop (frame_length e) bytes)

  abbrev owe : Frame → List ℕ
  owe f = owed (next f) (drop (frame_length e) bytes)

  abbrev at_front : Frame
  at_front = frame_at e (take (frame_length e) bytes)

  abbrev refusal : Reason → Reading
  refusal why = bad (record { offset = length taken; reason = why })

  reading_refused : (why : Reason) → wrong e (take (frame_length e) bytes) ≡ Some why → reading_from (awaits e next) taken bytes ≡ refusal why
  reading_refused why found = ap (λ (o : Option Reason). by_fault o (nat_lt (length bytes) (frame_length e)) refusal (short (length taken)) go at_front) found

  reading_few : wrong e (take (frame_length e) bytes) ≡ None → nat_lt (length bytes) (frame_length e) ≡ true → reading_from (awaits e next) taken bytes ≡ short (length taken)
  reading_few right few = ap₂ (λ (o : Option Reason) (b : Bool). by_fault o b refusal (short (length taken)) go at_front) right few

  reading_one : wrong e (take (frame_length e) bytes) ≡ None → nat_lt (length bytes) (frame_length e) ≡ false → reading_from (awaits e next) taken bytes ≡ go at_front
  reading_one right few = ap₂ (λ (o : Option Reason) (b : Bool). by_fault o b refusal (short (length taken)) go at_front) right few

  owed_refused : (why : Reason) → wrong e (take (frame_length e) bytes) ≡ Some why → owed (awaits e next) bytes ≡ []
  owed_refused why found = ap (λ (o : Option Reason). by_fault o (nat_lt (length bytes) (frame_length e)) (λ w. []) [] owe at_front) found

  owed_few : wrong e (take (frame_length e) bytes) ≡ None → nat_lt (length bytes) (frame_length e) ≡ true → owed (awaits e next) bytes ≡ []
  owed_few right few = ap₂ (λ (o : Option Reason) (b : Bool). by_fault o b (λ w. []) [] owe at_front) right few

  owed_one : wrong e (take (frame_length e) bytes) ≡ None → nat_lt (length bytes) (frame_length e) ≡ false → owed (awaits e next) bytes ≡ owe at_front
  owed_one right few = ap₂ (λ (o : Option Reason) (b : Bool). by_fault o b (λ w. []) [] owe at_front) right few

-- a whole frame at the front stands there too where more follows
module _ (e : Expect) (bytes more : List ℕ) (long : frame_length e ≤ length bytes) where
  same_front : take (frame_length e) (bytes ++ more) ≡ take (frame_length e) bytes
  same_front = take-append-le (frame_length e) bytes more long

  same_rest : drop (frame_length e) (bytes ++ more) ≡ drop (frame_length e) bytes ++ more
  same_rest = drop-append-le (frame_length e) bytes more long

  still_long : nat_lt (length (bytes ++ more)) (frame_length e) ≡ false
  still_long = le-ltb (length (bytes ++ more)) (frame_length e) (omega (arith, long, length-append bytes more))

-- ---- readings that stay

stays_at : (e : Expect) (next : Frame → Script) (taken bytes more : List ℕ) → Front e bytes more
    → ((f : Frame) (t b : List ℕ) → IsFinal (reading_from (next f) t b) → reading_from (next f) t (b ++ more) ≡ reading_from (next f) t b)
    → IsFinal (reading_from (awaits e next) taken bytes) → reading_from (awaits e next) taken (bytes ++ more) ≡ reading_from (awaits e next) taken bytes
stays_at e next taken bytes more (refused why found still) again final =
    reading_refused e next taken (bytes ++ more) why still ∙ sym (reading_refused e next taken bytes why found)
stays_at e next taken bytes more (begun right few) again final = absurd (subst IsFinal (reading_few e next taken bytes right few) final)
stays_at e next taken bytes more (whole right few long) again final =
    let front : List ℕ = take (frame_length e) bytes in
    let rest : List ℕ = drop (frame_length e) bytes in
    let here = reading_one e next taken bytes right few in
    reading_one e next taken (bytes ++ more) (ap (wrong e) (same_front e bytes more long) ∙ right) (still_long e bytes more long)
    ∙ ap₂ (λ (xs ys : List ℕ). reading_from (next (frame_at e xs)) (taken ++ xs) ys) (same_front e bytes more long) (same_rest e bytes more long)
    ∙ again (frame_at e front) (taken ++ front) rest (subst IsFinal here final) ∙ sym here

pub reading_stays : ReadingStays
reading_stays over taken bytes more final = refl
reading_stays (sends out rest) taken bytes more final = reading_stays rest taken bytes more final
reading_stays (awaits e next) taken bytes more final =
    stays_at e next taken bytes more (front e bytes more) (λ f t b h. reading_stays (next f) t b more h) final

grows_at : (e : Expect) (next : Frame → Script) (bytes more : List ℕ) → Front e bytes more
    → ((f : Frame) (b : List ℕ) → take (length (owed (next f) b)) (owed (next f) (b ++ more)) ≡ owed (next f) b)
    → take (length (owed (awaits e next) bytes)) (owed (awaits e next) (bytes ++ more)) ≡ owed (awaits e next) bytes
grows_at e next bytes more (refused why found still) again =
    subst (λ (xs : List ℕ). take (length xs) (owed (awaits e next) (bytes ++ more)) ≡ xs) (sym (owed_refused e next [] bytes why found)) refl
grows_at e next bytes more (begun right few) again =
    subst (λ (xs : List ℕ). take (length xs) (owed (awaits e next) (bytes ++ more)) ≡ xs) (sym (owed_few e next [] bytes right few)) refl
grows_at e next bytes more (whole right few long) again =
    let front : List ℕ = take (frame_length e) bytes in
    let rest : List ℕ = drop (frame_length e) bytes in
    let here = owed_one e next [] bytes right few in
    let there : owed (awaits e next) (bytes ++ more) ≡ owed (next (frame_at e front)) (rest ++ more) =
    owed_one e next [] (bytes ++ more) (ap (wrong e) (same_front e bytes more long) ∙ right) (still_long e bytes more long)
    ∙ ap₂ (λ (xs ys : List ℕ). owed (next (frame_at e xs)) ys) (same_front e bytes more long) (same_rest e bytes more long) in
    ap₂ (λ (xs ys : List ℕ). take (length xs) ys) here there ∙ again (frame_at e front) rest ∙ sym here

pub owed_grows : OwedGrows
owed_grows over bytes more = refl
owed_grows (sends out rest) bytes more =
    take_past (length (out ++ owed rest bytes)) out (owed rest (bytes ++ more)) (length (owed rest bytes)) (length-append out (owed rest bytes))
    ∙ ap (λ (xs : List ℕ). out ++ xs) (owed_grows rest bytes more)
owed_grows (awaits e next) bytes more = grows_at e next bytes more (front e bytes more) (λ f b. owed_grows (next f) b more)

-- ---- readings, frame by frame

past_sends : (out : List ℕ) (rest : Script) (before bytes : List ℕ) (r : Reading) → ReadsAs rest before bytes r → ReadsAs (sends out rest) before bytes r
past_sends out rest before bytes (good taken) h = record { frames = h.frames; rest = h.rest; due = h.due; split = h.split; taken_is = h.taken_is }
past_sends out rest before bytes (bad frame) h = record {
  frames = h.frames;
  rest = h.rest;
  e = h.e;
  next = h.next;
  led = record { due = h.led.due; split = h.led.split };
  awaited = h.awaited;
  first = h.first;
  place = h.place;
}
past_sends out rest before bytes (short offset) h = record {
  frames = h.frames;
  rest = h.rest;
  e = h.e;
  next = h.next;
  led = record { due = h.led.due; split = h.led.split };
  awaited = h.awaited;
  begun = h.begun;
  place = h.place;
}

module _ (e : Expect) (next : Frame → Script) (f : Frame) (before bytes rest : List ℕ) (valid : IsValid e f) (split : bytes ≡ layout f ++ rest) where
  split_on : (frames : List Frame) (more : List ℕ) → rest ≡ flat_map layout frames ++ more → bytes ≡ flat_map layout (f ∷ frames) ++ more
  split_on frames more h = split ∙ ap (λ (xs : List ℕ). layout f ++ xs) h ∙ sym (append_assoc (layout f) (flat_map layout frames) more)

  place_on : (offset : ℕ) (frames : List Frame) → offset ≡ length ((before ++ layout f) ++ flat_map layout frames) → offset ≡ length (before ++ flat_map layout (f ∷ frames))
  place_on offset frames h = h ∙ ap length (append_assoc before (layout f) (flat_map layout frames))

  past_frame : (r : Reading) → ReadsAs (next f) (before ++ layout f) rest r → ReadsAs (awaits e next) before bytes r
  past_frame (good taken) h = record {
    frames = f ∷ h.frames;
    rest = h.rest;
    due = (valid, h.due);
    split = split_on h.frames h.rest h.split;
    taken_is = h.taken_is ∙ append_assoc before (layout f) (flat_map layout h.frames);
  }
  past_frame (bad frame) h = record {
    frames = f ∷ h.frames;
    rest = h.rest;
    e = h.e;
    next = h.next;
    led = record { due = (valid, h.led.due); split = split_on h.frames h.rest h.led.split };
    awaited = h.awaited;
    first = h.first;
    place = place_on frame.offset h.frames h.place;
  }
  past_frame (short offset) h = record {
    frames = f ∷ h.frames;
    rest = h.rest;
    e = h.e;
    next = h.next;
    led = record { due = (valid, h.led.due); split = split_on h.frames h.rest h.led.split };
    awaited = h.awaited;
    begun = h.begun;
    place = place_on offset h.frames h.place;
  }

no_more : (before : List ℕ) → length before ≡ length (before ++ [])
no_more before = ap length (sym (append-nil before))

reads_at : (e : Expect) (next : Frame → Script) (before bytes : List ℕ) → AreBytes bytes → Front e bytes []
    → ((f : Frame) (b rest : List ℕ) → AreBytes rest → ReadsAs (next f) b rest (reading_from (next f) b rest))
    → ReadsAs (awaits e next) before bytes (reading_from (awaits e next) before bytes)
reads_at e next before bytes small (refused why found still) again =
    subst (ReadsAs (awaits e next) before bytes) (sym (reading_refused e next before bytes why found))
    (record { frames = []; rest = bytes; e = e; next = next; led = record { due = tt; split = refl }; awaited = refl; first = found; place = no_more before })
reads_at e next before bytes small (begun right few) again =
    let less : length bytes < frame_length e = ltb-true (length bytes) (frame_length e) few in
    let all : take (frame_length e) bytes ≡ bytes = take_all (frame_length e) bytes (omega arith) in
    subst (ReadsAs (awaits e next) before bytes) (sym (reading_few e next before bytes right few))
    (record {
      frames = [];
      rest = bytes;
      e = e;
      next = next;
      led = record { due = tt; split = refl };
      awaited = refl;
      begun = record { short = less; right = ap (wrong e) (sym all) ∙ right };
      place = no_more before;
    })
reads_at e next before bytes small (whole right few long) again =
    let front : List ℕ = take (frame_length e) bytes in
    let rest : List ℕ = drop (frame_length e) bytes in
    let f : Frame = frame_at e front in
    let is_whole : IsWhole e front f = whole_at e front (AreBytes-take (frame_length e) bytes small) (length-take-le (frame_length e) bytes long) right in
    let valid : IsValid e f = valid_of e front f is_whole in
    let split : bytes ≡ layout f ++ rest = sym (ap (λ (xs : List ℕ). xs ++ rest) is_whole.values ∙ take-append-drop (frame_length e) bytes) in
    let before_is : before ++ layout f ≡ before ++ front = ap (λ (xs : List ℕ). before ++ xs) is_whole.values in
    let later : ReadsAs (next f) (before ++ layout f) rest (reading_from (next f) (before ++ front) rest) =
    subst (λ (xs : List ℕ). ReadsAs (next f) xs rest (reading_from (next f) (before ++ front) rest)) (sym before_is) (again f (before ++ front) rest (AreBytes-drop (frame_length e) bytes small)) in
    subst (ReadsAs (awaits e next) before bytes) (sym (reading_one e next before bytes right few)) (past_frame e next f before bytes rest valid split _ later)

reads_frames_of : (script : Script) (before bytes : List ℕ) → AreBytes bytes → ReadsAs script before bytes (reading_from script before bytes)
reads_frames_of over before bytes small = record { frames = []; rest = bytes; due = tt; split = refl; taken_is = sym (append-nil before) }
reads_frames_of (sends out rest) before bytes small = past_sends out rest before bytes _ (reads_frames_of rest before bytes small)
reads_frames_of (awaits e next) before bytes small = reads_at e next before bytes small (front e bytes []) (λ f b rest h. reads_frames_of (next f) b rest h)

frames_read : (script : Script) (before bytes : List ℕ) (r : Reading) → ReadsAs script before bytes r → reading_from script before bytes ≡ r
frames_read script before bytes (good taken) h =
    ap (reading_from script before) h.split ∙ awaited_good script h.frames before h.rest h.due ∙ ap (λ (xs : List ℕ). good xs) (sym h.taken_is)
frames_read script before bytes (bad frame) h =
    let taken : List ℕ = before ++ flat_map layout h.frames in
    ap (reading_from script before) h.led.split ∙ reads_on script h.frames before h.rest h.led.due
    ∙ ap (λ (s : Script). reading_from s taken h.rest) h.awaited ∙ reading_refused h.e h.next taken h.rest frame.reason h.first
    ∙ ap (λ (offset : ℕ). bad (record { offset = offset; reason = frame.reason })) (sym h.place)
frames_read script before bytes (short offset) h =
    let taken : List ℕ = before ++ flat_map layout h.frames in
    ap (reading_from script before) h.led.split ∙ reads_on script h.frames before h.rest h.led.due
    ∙ ap (λ (s : Script). reading_from s taken h.rest) h.awaited ∙ reading-begun h.e h.next taken h.rest h.begun
    ∙ ap (λ (o : ℕ). short o) (sym h.place)

pub reads_frames : ReadsFrames
reads_frames script before bytes r small = (
  (λ is. subst (ReadsAs script before bytes) is (reads_frames_of script before bytes small)),
  frames_read script before bytes r,
)
