-- What goes over the wire at most, and the room that the record of a session has for it.
use Rattle.std.proofs.Common.{◌≡◌, ◌≤◌, ◌+◌, ◌-◌, ◌*◌, ◌∙◌, ℕ, zero, suc, Bool, true, false, IsTrue, cond, nat_lt, List, [], ◌∷◌, length, drop, Option, Some, None, refl, sym, ap, subst, arith, length-append}
use Rattle.std.specs.List.{AllByRecursion}
use Rattle.std.proofs.lemmas.List.{length-drop}
use Rattle.std.proofs.lemmas.Nat.{mul-le}
use Rattle.std.proofs.Math.Nat.{suc-mul}
use Rattle.psi_spec.specs.Deals.{ReceiverDeal}
use Rattle.psi_spec.specs.Frames.{Frame, layout, column_frame, sender_hello}
use Rattle.psi_spec.specs.Meeting.{Placed}
use Rattle.psi_spec.specs.Sessions.{dealt_masked}
use Rattle.psi_spec.specs.Streams.{layouts, blocks_for, column_frames}
use Rattle.psi_spec.proofs.StreamSizes.{length-column_frame}
use Rattle.psi_frames.specs.declared.expect.Expect.{Expect}
use Rattle.psi_frames.specs.declared.expect.Expect.TheVariants as expect
use Rattle.psi_frames.specs.Boxes.{OutboxState}
use Rattle.psi_frames.specs.Column.{columns_size}
use Rattle.psi_frames.specs.Expected.{IsValid, frame_at, frame_length}
use Rattle.psi_frames.specs.Script.{EndState, IsWithin, MayCome, Script, after_sending, after_taking, awaits, due_after, due_frame, goes_on, over, script_of, sends, wire_for}
use Rattle.psi_frames.specs.ScriptLaws.{AreDue}
use Rattle.psi_frames.proofs.FrameAt.{frame_at_layout}
use Rattle.psi_frames.proofs.Scripts.{wire-goes_on, within-goes_on}
use Rattle.psi_frames.proofs.Standing.{waits}
use Rattle.psi_receiver.specs.Logging.{HasRoomFor, IsLogging, IsMost, answer_size, rest_size}
use Rattle.psi_receiver.specs.Running.{ReceiverState, Stage, answers, awaits_from, ends, greets, is_new_at, is_over, merges, next_of, state_of}
use Rattle.psi_receiver.specs.Script.{answers_hello, awaits_blocks, awaits_lists, count_in, floor_after, no_floor, tags_at}

-- ---- any script

-- no frames are always due
pub none_due : (script : Script) → AreDue script []
none_due over = tt
none_due (sends out rest) = none_due rest
none_due (awaits e next) = tt

due-goes_on : (new : Bool) (script : Script) (frames : List Frame) → AreDue (goes_on new script).next frames ≡ AreDue script frames
due-goes_on new over frames = refl
due-goes_on new (sends out rest) frames = due-goes_on new rest frames
due-goes_on new (awaits e next) frames = refl

pub most-goes_on : (new : Bool) (script : Script) (most : ℕ) → IsMost script most → IsMost (script_of (goes_on new script)) most
most-goes_on new script most h frames due =
    let all = h frames (subst (λ (T : Type 0). T) (due-goes_on new script frames) due) in
    subst (λ (xs : List ℕ). length xs ≤ most) (sym (wire-goes_on new script frames)) all

pub most_more : (script : Script) (few most : ℕ) → few ≤ most → IsMost script few → IsMost script most
most_more script few most l h frames due = let all = h frames due in omega (arith, all, l)

-- the rest, once some of the owed bytes were sent
pub most_sent : (state : EndState) (n spare spare' : ℕ) → n ≤ length state.owes → spare ≤ spare' + n → IsMost (script_of state) spare → IsMost (script_of (after_sending n state)) spare'
most_sent state n spare spare' few left h frames due =
    let all = h frames due in
    let wire : List ℕ = wire_for state.next frames in
    omega (arith, all, few, left, length-append state.owes wire, length-append (drop n state.owes) wire, length-drop n state.owes)

-- an end at which this frame is due
abbrev waiting : Expect → (Frame → Script) → Bool → EndState
waiting e next new = record { owes = []; next = awaits e next; is_new = new }

waiting_room : (e : Expect) (next : Frame → Script) (new : Bool) (f : Frame) (spare : ℕ) → IsValid e f → IsMost (script_of (waiting e next new)) spare → HasRoomFor (waiting e next new) f spare
waiting_room e next new f spare valid h = record {
  frame = let one = h (f ∷ []) (valid, none_due (next f)) in omega (arith, one, length-append (layout f) (wire_for (next f) []));
  rest = most-goes_on false (next f) (spare - length (layout f)) (λ frames due.
      let all = h (f ∷ frames) (valid, due) in omega (arith, all, length-append (layout f) (wire_for (next f) frames)));
}

-- which frame is due where one comes
pub due_is : (due : Option Expect) (f : Frame) → MayCome due f → (e : Expect) × (due ≡ Some e) × IsValid e f
due_is None f may = absurd may
due_is (Some e) f may = (e, refl, may)

-- where there is room for all, there is for the frame that comes and for the rest
pub room_for : (state : EndState) (f : Frame) (spare : ℕ) → MayCome (due_frame state) f → IsMost (script_of state) spare → HasRoomFor state f spare
room_for state f spare may h =
    let due = due_is (due_frame state) f may in
    let wait = waits state due.0 due.1 in
    subst (λ (s : EndState). HasRoomFor s f spare) (sym wait.1)
    (waiting_room due.0 wait.0 state.is_new f spare due.2 (subst (λ (s : EndState). IsMost (script_of s) spare) wait.1 h))

-- ---- the record of a logged end

-- it goes on with a frame
pub logging_taken : (state : EndState) (f : Frame) (before spare spare' : ℕ) (box box' : OutboxState) → MayCome (due_frame state) f → IsLogging state before box → HasRoomFor state f spare
    → spare ≤ spare' + length (layout f) → box' ≡ box → IsLogging (after_taking f state) spare' box'
logging_taken state f before spare spare' box box' may h room left same =
    let due = due_is (due_frame state) f may in
    let e : Expect = due.0 in
    let wait = waits state e due.1 in
    let next : Frame → Script = wait.0 in
    let after : EndState = after_taking f state in
    let few : IsWithin h.most_frames (awaits e next) = subst (λ (s : EndState). IsWithin h.most_frames s.next) wait.1 h.within in
    let most : IsMost (script_of after) spare' = most_more (script_of after) (spare - length (layout f)) spare' (omega arith) room.rest in
    let none = most [] (none_due after.next) in
    record {
      owed = omega (arith, none, length-append after.owes (wire_for after.next []));
      all = λ new. most;
      most_frames = h.most_frames - 1;
      within =
          subst (λ (s : EndState). IsWithin (h.most_frames - 1) (after_taking f s).next) (sym wait.1)
          (within-goes_on false (next f) (h.most_frames - 1) (few.2 f due.2));
      free = same ∙ h.free;
    }

-- ---- lists of tags

-- the tags of a block, and of those behind it
tags_step : (width count block : ℕ) → width * tags_at count block + width * (count - 1024 * (block + 1)) ≤ width * (count - 1024 * block)
tags_step width count block =
    let tags : ℕ = tags_at count block in
    let rest : ℕ = count - 1024 * (block + 1) in
    let all : tags + rest ≤ count - 1024 * block = omega arith in
    let by_width = mul-le width (tags + rest) width (count - 1024 * block) (omega arith) all in
    grind (arith, by_width)

most_blocks : (width count list block left : ℕ) (floor : List ℕ) (rest : Script) (most : ℕ) → IsMost rest most
    → IsMost (awaits_blocks width count list block left floor rest) (10 * left + width * (count - 1024 * block) + most)
most_blocks width count list block zero floor rest most h frames due = let all = h frames due in omega (arith, all)
most_blocks width count list block (suc left) floor rest most h [] due = omega arith
most_blocks width count list block (suc left) floor rest most h (f ∷ frames) due =
    let after : Script = awaits_blocks width count list (block + 1) left (floor_after width (tags_at count block) f) rest in
    let more = most_blocks width count list (block + 1) left (floor_after width (tags_at count block) f) rest most h frames due.1 in
    let long = due.0.long in
    let same : tags_at count block * width ≡ width * tags_at count block = grind arith in
    omega (arith, more, long, same, tags_step width count block, length-append (layout f) (wire_for after frames))

most_lists : (width count list left : ℕ) → IsMost (awaits_lists width count list left) (rest_size width count left)
most_lists width count list zero [] due = omega arith
most_lists width count list zero (f ∷ frames) due = absurd due
most_lists width count list (suc left) frames due =
    let all = most_blocks width count list 0 (blocks_for count) no_floor (awaits_lists width count (list + 1) left) (rest_size width count left) (most_lists width count (list + 1) left) frames due in
    let rest : count - 1024 * 0 ≡ count = omega arith in
    let tags : width * (count - 1024 * 0) ≡ width * count = ap (λ (n : ℕ). width * n) rest in
    omega (arith, all, tags, suc-mul left (10 * blocks_for count + width * count))

-- what goes over the wire after the sender's hello
pub most_answer : (deal : ReceiverDeal) (placed : List Placed) (count rows : ℕ) → length (layouts (column_frames 0 (dealt_masked deal placed))) ≡ columns_size rows
    → IsMost (answers_hello deal placed count) (answer_size rows deal.tag_length count (3 + deal.stash))
most_answer deal placed count rows long frames due =
    let columns : List ℕ = layouts (column_frames 0 (dealt_masked deal placed)) in
    let lists : Script = awaits_lists deal.tag_length count 0 (3 + deal.stash) in
    let all = most_lists deal.tag_length count 0 (3 + deal.stash) frames due in
    omega (arith, long, all, length-append columns (wire_for lists frames))

-- ---- the sender's hello

-- a frame that is due is seen as one of its kind
hello_at : (e : Expect) (bytes : List ℕ) (id : List ℕ) (session count : ℕ) → frame_at e bytes ≡ sender_hello id session count
    → (own_id : List ℕ) × (own_session : ℕ) × (e ≡ expect.SenderHello own_id own_session)
hello_at (expect.SenderHello own_id own_session) bytes id session count is = (own_id, own_session, refl)
hello_at (expect.ReceiverHello own_id own_session) bytes id session count is = absurd (cc)
hello_at (expect.Column index rows) bytes id session count is = absurd (cc)
hello_at (expect.Tags list block tags width floor) bytes id session count is = absurd (cc)
hello_at (expect.Values block tags tag_length) bytes id session count is = absurd (cc)
hello_at expect.Done bytes id session count is = absurd (cc)

-- a hello is not due among lists
abbrev NoHello : Script → Type 0
NoHello script = (id : List ℕ) (session : ℕ) → due_after [] script ≡ Some (expect.SenderHello id session) → ⊥

no_hello-over : NoHello over
no_hello-over id session is = cc

no_hello-blocks : (width count list block left : ℕ) (floor : List ℕ) (rest : Script) → NoHello rest → NoHello (awaits_blocks width count list block left floor rest)
no_hello-blocks width count list block zero floor rest none id session is = none id session is
no_hello-blocks width count list block (suc left) floor rest none id session is = cc

no_hello-lists : (width count list left : ℕ) → NoHello (awaits_lists width count list left)
no_hello-lists width count list zero id session is = cc
no_hello-lists width count list (suc left) id session is =
    no_hello-blocks width count list 0 (blocks_for count) no_floor (awaits_lists width count (list + 1) left) (no_hello-lists width count (list + 1) left) id session is

either : (b : Bool) (x y : Script) → NoHello x → NoHello y → NoHello (cond b x y)
either true x y first second = first
either false x y first second = second

-- it is due first
greets_at : (deal : ReceiverDeal) (placed : List Placed) (stage : Stage) (id : List ℕ) (session : ℕ) → due_after [] (next_of deal placed stage) ≡ Some (expect.SenderHello id session) → stage ≡ greets
greets_at deal placed greets id session is = refl
greets_at deal placed (answers count) id session is =
    absurd (either (nat_lt 0 count) (awaits_from deal 0 0 no_floor count) over
    (no_hello-blocks deal.tag_length count 0 0 (blocks_for count - 0) no_floor (awaits_lists deal.tag_length count (0 + 1) (2 + deal.stash - 0)) (no_hello-lists deal.tag_length count (0 + 1) (2 + deal.stash - 0))) no_hello-over id session is)
greets_at deal placed (merges list block floor count) id session is =
    absurd (no_hello-blocks deal.tag_length count list block (blocks_for count - block) floor (awaits_lists deal.tag_length count (list + 1) (2 + deal.stash - list))
    (no_hello-lists deal.tag_length count (list + 1) (2 + deal.stash - list)) id session is)
greets_at deal placed ends id session is = absurd (cc)
greets_at deal placed is_over id session is = absurd (cc)

-- a frame that is a hello comes first
first_hello : (s : ReceiverState) (f : Frame) (id : List ℕ) (session count : ℕ) (e : Expect) → due_frame (state_of s) ≡ Some e → IsValid e f → f ≡ sender_hello id session count
    → (s.stage ≡ greets) × (length (layout f) ≡ 34)
first_hello s f id session count e is valid hello =
    let kind = hello_at e (layout f) id session count (frame_at_layout e f valid ∙ hello) in
    let wait = waits (state_of s) e is in
    let none : (state_of s).owes ≡ [] = ap (λ (state : EndState). state.owes) wait.1 in
    let due : due_after [] (next_of s.deal s.placed s.stage) ≡ Some (expect.SenderHello kind.0 kind.1) =
    ap (λ (owes : List ℕ). due_after owes (next_of s.deal s.placed s.stage)) (sym none) ∙ is ∙ ap (λ (x : Expect). Some x) kind.2 in
    let long : frame_length e ≡ 34 = ap frame_length kind.2 in (greets_at s.deal s.placed s.stage kind.0 kind.1 due, valid.long ∙ long)

pub hello_is_first : (s : ReceiverState) (f : Frame) (id : List ℕ) (session count : ℕ) → MayCome (due_frame (state_of s)) f → f ≡ sender_hello id session count → IsTrue (state_of s).is_new
hello_is_first s f id session count may hello =
    let due = due_is (due_frame (state_of s)) f may in
    ap is_new_at (first_hello s f id session count due.0 due.1 due.2 hello).0

-- a record with room for a hello and for what is sent and taken after it
pub hello_room : (s : ReceiverState) (f : Frame) (id : List ℕ) (session count rows spare : ℕ) → MayCome (due_frame (state_of s)) f → f ≡ sender_hello id session count
    → length (layouts (column_frames 0 (dealt_masked s.deal s.placed))) ≡ columns_size rows → 34 + answer_size rows s.deal.tag_length count (3 + s.deal.stash) ≤ spare → HasRoomFor (state_of s) f spare
hello_room s f id session count rows spare may hello columns room =
    let due = due_is (due_frame (state_of s)) f may in
    let first = first_hello s f id session count due.0 due.1 due.2 hello in
    let said : count_in f ≡ count = ap count_in hello in
    let long = first.1 in
    let most : IsMost (answers_hello s.deal s.placed (count_in f)) (spare - length (layout f)) =
    most_more (answers_hello s.deal s.placed (count_in f)) (answer_size rows s.deal.tag_length (count_in f) (3 + s.deal.stash)) (spare - length (layout f))
    (subst (λ (n : ℕ). answer_size rows s.deal.tag_length n (3 + s.deal.stash) ≤ spare - length (layout f)) (sym said) (omega (arith, room, long)))
    (most_answer s.deal s.placed (count_in f) rows columns) in
    record {
      frame = omega (arith, room, long);
      rest =
          subst (λ (stage : Stage). IsMost (script_of (after_taking f (state_of (record s { stage = stage })))) (spare - length (layout f))) (sym first.0)
          (most-goes_on false (answers_hello s.deal s.placed (count_in f)) (spare - length (layout f)) most);
    }

-- a frame that is none does not come first
pub not_first : (s : ReceiverState) (f : Frame) → MayCome (due_frame (state_of s)) f → ((id : List ℕ) (session count : ℕ) → f ≡ sender_hello id session count → ⊥) → (state_of s).is_new ≡ false
not_first s f may other =
    let due = due_is (due_frame (state_of s)) f may in
    by_stage due.0 due.1 due.2 s.stage refl
  where
    by_stage : (e : Expect) → due_frame (state_of s) ≡ Some e → IsValid e f → (stage : Stage) → s.stage ≡ stage → is_new_at s.stage ≡ false
    by_stage e due valid greets is =
        let wait = waits (state_of s) e due in
        let own : Some (expect.SenderHello s.deal.id s.deal.session) ≡ Some e =
        ap (λ (at : Stage). due_after [] (next_of s.deal s.placed at)) (sym is) ∙ ap (λ (state : EndState). due_after [] state.next) wait.1 in
        let same : e ≡ expect.SenderHello s.deal.id s.deal.session = cc in
        absurd (other s.deal.id s.deal.session _ (sym (ap (λ (x : Expect). frame_at x (layout f)) (sym same) ∙ frame_at_layout e f valid)))
    by_stage e due valid (answers count) is = ap is_new_at is
    by_stage e due valid (merges list block floor count) is = ap is_new_at is
    by_stage e due valid ends is = ap is_new_at is
    by_stage e due valid is_over is = ap is_new_at is

-- ---- columns

pub columns_long : (column c : ℕ) (us : List (List ℕ)) → AllByRecursion (λ u. length u ≡ column) us → length (layouts (column_frames c us)) ≡ length us * (7 + column)
columns_long column c [] are = omega arith
columns_long column c (u ∷ us) are =
    let long = are.0 in
    let rest = columns_long column (c + 1) us are.1 in
    omega (
      arith,
      long,
      rest,
      length-append (layout (column_frame c u)) (layouts (column_frames (c + 1) us)),
      length-column_frame c u,
      suc-mul (length us) (7 + column),
    )
