-- What a sender owes, by what came.
use Rattle.std.proofs.Common.{◌≡◌, ◌∙◌, ℕ, suc, zero, List, [], ◌∷◌, ◌++◌, length, take, drop, nat_lt, Option, Some, refl, sym, ap, subst, arith, append_assoc, length-append}
use Rattle.std.specs.List.{flat_map}
use Rattle.std.proofs.lemmas.Grind.{flat_map-append}
use Rattle.std.proofs.lemmas.List.{append-nil, take_at}
use Rattle.psi_spec.specs.Deals.{SenderDeal, IsSenderDeal, sender_columns}
use Rattle.psi_spec.specs.Frames.{AreBytes, Frame, layout, receiver_hello, sender_hello, done_frame}
use Rattle.psi_spec.specs.Limits.{rows_for}
use Rattle.psi_spec.specs.Streams.{layouts, column_frames, columns_stream, sender_stream}
use Rattle.psi_spec.specs.ColumnSets.{opened_column}
use Rattle.psi_spec.specs.Bits.{bit_of}
use Rattle.psi_spec.proofs.CodeBytes.{AreBytes-append}
use Rattle.psi_frames.specs.Dialogue.{Reading, bad, good, short}
use Rattle.psi_frames.specs.declared.expect.Expect.{Expect}
use Rattle.psi_frames.specs.declared.expect.Expect.TheVariants as expect
use Rattle.psi_frames.specs.declared.reasons.Reason.{Reason}
use Rattle.psi_frames.specs.Expected.{IsValid, frame_at, frame_length, wrong}
use Rattle.psi_frames.specs.Script.{AreAwaited, Script, awaits, by_fault, owed, owed_for, reading_from}
use Rattle.psi_frames.specs.ScriptLaws.{AreDue, ReadsAs, reached}
use Rattle.psi_frames.proofs.Parts.{valid_from_parts}
use Rattle.psi_frames.proofs.Readings.{awaited_due, owes_all, owes_on, reads_frames}
use Rattle.psi_frames.proofs.Scripts.{owed-begun}
use Rattle.psi_sender.specs.Laws.{BeginWith, IsStreamFor, OwesByWhatCame, OwesFor, sender_dialogue, for_nothing, for_hello, for_columns}
use Rattle.psi_sender.specs.Script.{bytes_in, count_in, opens_columns, sender_script}
use Rattle.psi_sender.proofs.Awaited.{bytes-left}
use Rattle.psi_sender.proofs.Serving.{hello_read, serves_streams, were_stream}

-- ---- frames that are due

-- bytes are those of frames that are due, and a rest for which nothing more is owed
record Frames (script : Script) (bytes : List ℕ) : Type 0 where
  frames : List Frame
  rest : List ℕ
  due : AreDue script frames
  split : bytes ≡ flat_map layout frames ++ rest
  owes : owed script bytes ≡ owed_for script frames

-- nothing is owed where a field is wrong
owed-wrong : (e : Expect) (next : Frame → Script) (bytes : List ℕ) (why : Reason) → wrong e (take (frame_length e) bytes) ≡ Some why → owed (awaits e next) bytes ≡ []
owed-wrong e next bytes why found =
    ap (λ (o : Option Reason). by_fault o (nat_lt (length bytes) (frame_length e)) (λ w. []) [] (λ f. owed (next f) (drop (frame_length e) bytes)) (frame_at e (take (frame_length e) bytes))) found

frames_from : (script : Script) (bytes : List ℕ) (frames : List Frame) (rest : List ℕ) (left : Script) → AreDue script frames → bytes ≡ flat_map layout frames ++ rest
    → reached script frames ≡ left → owed left rest ≡ [] → Frames script bytes
frames_from script bytes frames rest left due split at none = record {
  frames = frames;
  rest = rest;
  due = due;
  split = split;
  owes = ap (owed script) split ∙ owes_on script frames rest due ∙ ap (λ (s : Script). owed_for script frames ++ owed s rest) at
      ∙ ap (λ (xs : List ℕ). owed_for script frames ++ xs) none ∙ append-nil (owed_for script frames);
}

frames_read : (script : Script) (bytes : List ℕ) (reading : Reading) → ReadsAs script [] bytes reading → Frames script bytes
frames_read script bytes (good taken) h = record {
  frames = h.frames;
  rest = h.rest;
  due = (awaited_due script h.frames h.due).0;
  split = h.split;
  owes = ap (owed script) h.split ∙ owes_all script h.frames h.rest h.due;
}
frames_read script bytes (bad frame) h =
    frames_from script bytes h.frames h.rest (awaits h.e h.next) h.led.due h.led.split h.awaited (owed-wrong h.e h.next h.rest frame.reason h.first)
frames_read script bytes (short offset) h =
    frames_from script bytes h.frames h.rest (awaits h.e h.next) h.led.due h.led.split h.awaited (owed-begun h.e h.next h.rest h.begun.short)

frames_of : (script : Script) (bytes : List ℕ) → AreBytes bytes → Frames script bytes
frames_of script bytes small =
    frames_read script bytes (reading_from script [] bytes) ((reads_frames script [] bytes (reading_from script [] bytes) small).0 refl)

-- ---- columns

-- not all columns came, and nothing is owed for them; or all came, with the end or but for the end
data Came (script : Script) (frames : List Frame) : Type 0 where
  some : owed_for script frames ≡ [] → Came script frames
  whole : AreAwaited script frames → Came script frames
  all : AreAwaited script (frames ++ done_frame ∷ []) → owed_for script frames ≡ owed_for script (frames ++ done_frame ∷ []) → Came script frames

-- one frame more
came_more : (e : Expect) (next : Frame → Script) (f : Frame) (frames : List Frame) → IsValid e f → Came (next f) frames → Came (awaits e next) (f ∷ frames)
came_more e next f frames valid (some none) = some none
came_more e next f frames valid (whole due) = whole (valid, due)
came_more e next f frames valid (all due same) = all (valid, due) same

columns_came : (deal : SenderDeal) (ys : List (List ℕ)) (count : ℕ) (opened chosen : List (List ℕ)) (frames : List Frame)
    → AreDue (opens_columns deal ys count opened chosen) frames → Came (opens_columns deal ys count opened chosen) frames
columns_came deal ys count opened [] [] due = all (valid_from_parts expect.Done done_frame (omega arith) tt tt, tt) refl
columns_came deal ys count opened [] (f ∷ []) due = whole (due.0, tt)
columns_came deal ys count opened [] (f ∷ g ∷ frames) due = absurd due.1
columns_came deal ys count opened (column ∷ chosen) [] due = some refl
columns_came deal ys count opened (column ∷ chosen) (f ∷ frames) due =
    let c : ℕ = length opened in
    came_more (expect.Column c (rows_for deal.stash count)) (λ g. opens_columns deal ys count (opened ++ opened_column (bit_of deal.choice c) column (bytes_in g) ∷ []) chosen) f frames due.0
    (columns_came deal ys count (opened ++ opened_column (bit_of deal.choice c) column (bytes_in f) ∷ []) chosen frames due.1)

-- ---- streams

begin_with : (front rest bytes : List ℕ) → bytes ≡ front ++ rest → BeginWith front bytes
begin_with front rest bytes e = ap (take (length front)) e ∙ take_at front rest (length front) refl

-- equal ends leave equal fronts
same_fronts : (a b end : List ℕ) → a ++ end ≡ b ++ end → a ≡ b
same_fronts a b end e =
    let long : length b ≡ length a = omega (arith, ap length e, length-append a end, length-append b end) in
    sym (take_at a end (length a) refl) ∙ ap (take (length a)) e ∙ take_at b end (length a) long

-- all frames that are awaited, of which a front is in the bytes: hello and columns
from_stream : (deal : SenderDeal) (ys : List (List ℕ)) (taken sent : List ℕ) (frames : List Frame) → IsSenderDeal deal → AreBytes (flat_map layout frames)
    → AreAwaited (sender_script deal ys) frames → sent ≡ owed_for (sender_script deal ys) frames
    → ((front : List ℕ) → flat_map layout frames ≡ front ++ layout done_frame → BeginWith front taken) → OwesFor deal ys taken sent
unfolding sender_dialogue columns_stream
from_stream deal ys taken sent frames is small due owes begins =
    let stream : List ℕ = flat_map layout frames in
    let were = were_stream deal ys frames is small due in
    let count : ℕ = were.0 in
    let columns : List (List ℕ) = were.1 in
    let are : IsStreamFor deal count columns stream = were.2 in
    let answer : owed (sender_script deal ys) stream ≡ sender_stream deal count columns ys = (serves_streams deal ys count columns stream is are).sends in
    let all : owed (sender_script deal ys) stream ≡ owed_for (sender_script deal ys) frames =
    ap (owed (sender_script deal ys)) (sym (append-nil stream)) ∙ owes_all (sender_script deal ys) frames [] due in
    for_columns count columns are.few are.column_set (begins (layout (receiver_hello deal.id deal.session count) ++ layouts (column_frames 0 columns)) are.is) (owes ∙ sym all ∙ answer)

-- the bytes of the end
end_bytes : AreBytes (layout done_frame)
end_bytes zero = omega arith
end_bytes (suc zero) = omega arith
end_bytes (suc (suc zero)) = omega arith
end_bytes (suc (suc (suc zero))) = omega arith
end_bytes (suc (suc (suc (suc zero)))) = omega arith
end_bytes (suc (suc (suc (suc (suc i))))) = omega arith

with_end : (frames : List Frame) → flat_map layout (frames ++ done_frame ∷ []) ≡ flat_map layout frames ++ layout done_frame
with_end frames = flat_map-append layout frames (done_frame ∷ []) ∙ ap (λ (xs : List ℕ). flat_map layout frames ++ xs) (append-nil (layout done_frame))

module _ (deal : SenderDeal) (ys : List (List ℕ)) (taken sent : List ℕ) (is : IsSenderDeal deal) where
  -- a hello came, and these frames behind it
  from_columns : (f : Frame) (frames : List Frame) (rest : List ℕ) → AreBytes (flat_map layout (f ∷ frames)) → IsValid (expect.ReceiverHello deal.id deal.session) f
      → taken ≡ flat_map layout (f ∷ frames) ++ rest → sent ≡ owed_for (sender_script deal ys) (f ∷ frames)
      → Came (opens_columns deal ys (count_in f) [] (sender_columns deal (rows_for deal.stash (count_in f)))) frames → OwesFor deal ys taken sent
  from_columns f frames rest small valid split owes (some none) =
      let hello = hello_read deal f (bytes-left (layout f) (flat_map layout frames) small) valid in
      let own : List ℕ = layout (sender_hello deal.id deal.session (length ys)) in
      for_hello hello.0
      (subst (λ (g : Frame). BeginWith (layout g) taken) hello.1 (begin_with (layout f) (flat_map layout frames ++ rest) taken (split ∙ append_assoc (layout f) (flat_map layout frames) rest)))
      (owes ∙ ap (λ (xs : List ℕ). own ++ xs) none ∙ append-nil own)
  from_columns f frames rest small valid split owes (whole due) =
      from_stream deal ys taken sent (f ∷ frames) is small (valid, due) owes
      (λ front e. begin_with front (layout done_frame ++ rest) taken (split ∙ ap (λ (xs : List ℕ). xs ++ rest) e ∙ append_assoc front (layout done_frame) rest))
  from_columns f frames rest small valid split owes (all due same) =
      let came : List Frame = f ∷ frames in
      let ended : AreBytes (flat_map layout (came ++ done_frame ∷ [])) =
      subst AreBytes (sym (with_end came)) (AreBytes-append (flat_map layout came) (layout done_frame) small end_bytes) in
      let own : List ℕ = layout (sender_hello deal.id deal.session (length ys)) in
      from_stream deal ys taken sent (came ++ done_frame ∷ []) is ended (valid, due) (owes ∙ ap (λ (xs : List ℕ). own ++ xs) same)
      (λ front e. begin_with front rest taken (split ∙ ap (λ (xs : List ℕ). xs ++ rest) (same_fronts (flat_map layout came) front (layout done_frame) (sym (with_end came) ∙ e))))

  from_frames : (frames : List Frame) (rest : List ℕ) → AreBytes (flat_map layout frames) → AreDue (sender_script deal ys) frames → taken ≡ flat_map layout frames ++ rest
      → sent ≡ owed_for (sender_script deal ys) frames → OwesFor deal ys taken sent
  from_frames [] rest small due split owes = for_nothing owes
  from_frames (f ∷ frames) rest small due split owes =
      from_columns f frames rest small due.0 split owes
      (columns_came deal ys (count_in f) [] (sender_columns deal (rows_for deal.stash (count_in f))) frames due.1)

pub owes_by_what_came : OwesByWhatCame
unfolding sender_dialogue
owes_by_what_came deal ys taken is small =
    let read = frames_of (sender_script deal ys) taken small in
    let front : AreBytes (flat_map layout read.frames) = bytes-left (flat_map layout read.frames) read.rest (subst AreBytes read.split small) in
    from_frames deal ys taken (owed (sender_script deal ys) taken) is read.frames read.rest front read.due read.split read.owes
