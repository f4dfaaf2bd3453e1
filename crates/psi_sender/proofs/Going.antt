-- How a session goes on: what is left of an answer after a frame, and after a column.
use Rattle.std.proofs.lemmas.Grind.{flat_map-append}
use Rattle.std.proofs.Common.{◌≡◌, ◌+◌, ◌-◌, ◌<◌, ◌≤◌, ◌==◌, ◌∙◌, ℕ, zero, suc, Bool, true, false, cond, nat_lt, List, [], ◌∷◌, ◌++◌, length, map, take, drop, get_or, slice_set, Option, Some, None, refl, sym, ap, ap₂, subst, arith}
use Rattle.std.specs.List.{range_with_len}
use Rattle.std.proofs.lemmas.Bool.{ltb-true, ltb-false, eqb-true, eqb-false, le-ltb}
use Rattle.std.proofs.lemmas.List.{append-nil, append_assoc, length-map, length-take-le, drop_more, drop_all, take_more_set, drop-set-lt, take_all, length-set, length-drop}
use Rattle.psi_spec.specs.TagLists.{SenderSide, tag_in_list, tag_list, tag_lists}
use Rattle.psi_spec.specs.Streams.{layouts, blocks_for, block_frame, list_frames, lists_frames, sender_answer}
use Rattle.psi_spec.specs.Deals.{SenderDeal, sender_columns}
use Rattle.psi_spec.proofs.Rising.{length-rising}
use Rattle.psi_spec.proofs.StreamSteps.{list_frames_are}
use Rattle.psi_spec.specs.Bits.{bit_of}
use Rattle.psi_spec.specs.Columns.{column, row_of}
use Rattle.psi_spec.specs.ColumnSets.{opened_column}
use Rattle.psi_spec.specs.Frames.{Frame, layout, sender_hello}
use Rattle.psi_spec.specs.Limits.{rows_for}
use Rattle.psi_frames.specs.Script.{Script, over, sends, awaits, EndState, owes_first, after_frame as after_frame_of, goes_on, due_after, due_frame, after_taking, next_turn, MayCome}
use Rattle.psi_frames.specs.declared.turns.Turn.TheVariants as turn
use Rattle.psi_frames.specs.Boxes.{OutboxState, with_sent}
use Rattle.psi_frames.specs.Expected.{IsValid}
use Rattle.psi_frames.specs.declared.expect.Expect.{Expect}
use Rattle.psi_frames.specs.declared.expect.Expect.TheVariants as expect
use Rattle.psi_sender.specs.declared.memory.Memory.{Memory}
use Rattle.psi_sender.specs.declared.phase.Phase.{Phase}
use Rattle.psi_sender.specs.declared.phase.Phase.TheVariants as phase
use Rattle.psi_sender.specs.Script.{awaits_done, bytes_in, count_in, opens_columns}
use Rattle.psi_sender.specs.Phases.{next_phase, phase_after_column}
use Rattle.psi_sender.specs.Answering.{answer_from}
use Rattle.psi_sender.specs.Running.{Running, running, rest_in, stage_in, next_of, side_over, mid_state, state_in, begun}

-- ---- lists

length-tag_list : (s : SenderSide) (ys : List (List ℕ)) (list : ℕ) → length (tag_list s ys list) ≡ length ys
unfolding tag_list
length-tag_list s ys list = length-rising (map (tag_in_list s list) ys) ∙ length-map ys (tag_in_list s list)

module _ (stash : ℕ) (s : SenderSide) (ys : List (List ℕ)) where
  abbrev tags : ℕ → List (List ℕ)
  tags list = tag_list s ys list

  abbrev blocks : ℕ
  blocks = blocks_for (length ys)

  -- the frames of a list from a block on
  abbrev blocks_from : ℕ → ℕ → List ℕ
  blocks_from list n = layouts (map (block_frame list (tags list)) (range_with_len n (blocks - n)))

  -- the frames of n lists
  abbrev lists_from : ℕ → ℕ → List ℕ
  lists_from list n = layouts (lists_frames list (map (tag_list s ys) (range_with_len list n)))

  one_block : (list block : ℕ) → block < blocks → blocks_from list block ≡ layout (block_frame list (tags list) block) ++ blocks_from list (block + 1)
  one_block list block l =
      let more : blocks - block ≡ suc (blocks - (block + 1)) = omega arith in
      ap (λ (n : ℕ). layouts (map (block_frame list (tags list)) (range_with_len block n))) more

  no_block : (list block : ℕ) → blocks ≤ block → blocks_from list block ≡ []
  no_block list block l =
      let none : blocks - block ≡ 0 = omega arith in
      ap (λ (n : ℕ). layouts (map (block_frame list (tags list)) (range_with_len block n))) none

  whole_list : (list : ℕ) → layouts (list_frames list (tags list)) ≡ blocks_from list 0
  whole_list list =
      let same : blocks_for (length (tags list)) ≡ blocks - 0 = ap blocks_for (length-tag_list s ys list) ∙ omega arith in
      list_frames_are list (tags list) ∙ ap (λ (n : ℕ). layouts (map (block_frame list (tags list)) (range_with_len 0 n))) same

  one_list : (list n : ℕ) → lists_from list (suc n) ≡ layouts (list_frames list (tags list)) ++ lists_from (list + 1) n
  one_list list n =
      flat_map-append layout (list_frames list (tags list)) (lists_frames (list + 1) (map (tag_list s ys) (range_with_len (list + 1) n)))

  begins_list : (list : ℕ) → list < 3 + stash → lists_from list (3 + stash - list) ≡ answer_from stash s ys list 0
  unfolding answer_from
  begins_list list l =
      let more : 3 + stash - list ≡ suc (2 + stash - list) = omega arith in
      ap (lists_from list) more
      ∙ one_list list (2 + stash - list)
      ∙ ap (λ (front : List ℕ). front ++ lists_from (list + 1) (2 + stash - list)) (whole_list list)

  -- what is left once a frame was put
  pub after_frame : (list block : ℕ) → list < 3 + stash → block < blocks
      → answer_from stash s ys list block ≡ layout (block_frame list (tags list) block) ++ rest_in stash s ys (next_phase list block (3 + stash) blocks)
  unfolding answer_from
  after_frame list block l m = by_block (nat_lt (block + 1) blocks) refl
    where
      frame : List ℕ
      frame = layout (block_frame list (tags list) block)

      by_list : (b : Bool) → nat_lt (list + 1) (3 + stash) ≡ b
          → lists_from (list + 1) (2 + stash - list) ≡ rest_in stash s ys (cond b (phase.Tags (list + 1) 0) phase.Done)
      by_list true e =
          let left : 2 + stash - list ≡ 3 + stash - (list + 1) = omega arith in
          ap (lists_from (list + 1)) left ∙ begins_list (list + 1) (ltb-true (list + 1) (3 + stash) e)
      by_list false e =
          let high = ltb-false (list + 1) (3 + stash) e in
          let none : 2 + stash - list ≡ 0 = omega arith in
          ap (lists_from (list + 1)) none

      by_block : (b : Bool) → nat_lt (block + 1) blocks ≡ b
          → answer_from stash s ys list block
          ≡ layout (block_frame list (tags list) block) ++ rest_in stash s ys (cond b (phase.Tags list (block + 1)) (cond (nat_lt (list + 1) (3 + stash)) (phase.Tags (list + 1) 0) phase.Done))
      by_block true e =
          ap (λ (front : List ℕ). front ++ lists_from (list + 1) (2 + stash - list)) (one_block list block m)
          ∙ append_assoc (layout (block_frame list (tags list) block)) (blocks_from list (block + 1)) (lists_from (list + 1) (2 + stash - list))
      by_block false e =
          let last = no_block list (block + 1) (ltb-false (block + 1) blocks e) in
          ap (λ (front : List ℕ). front ++ lists_from (list + 1) (2 + stash - list))
          (one_block list block m ∙ (ap (λ (rest : List ℕ). layout (block_frame list (tags list) block) ++ rest) last ∙ append-nil (layout (block_frame list (tags list) block))))
          ∙ ap (λ (rest : List ℕ). layout (block_frame list (tags list) block) ++ rest) (by_list (nat_lt (list + 1) (3 + stash)) refl)

  no_lists : (list n : ℕ) → blocks ≡ 0 → lists_from list n ≡ []
  no_lists list zero none = refl
  no_lists list (suc n) none =
      one_list list n
      ∙ ap (λ (front : List ℕ). front ++ lists_from (list + 1) n) (whole_list list ∙ no_block list 0 (omega arith))
      ∙ no_lists (list + 1) n none

  -- what is owed after the last column
  pub whole_answer : layouts (lists_frames 0 (tag_lists stash s ys)) ≡ rest_in stash s ys (cond (nat_lt 0 (length ys)) (phase.Tags 0 0) phase.Done)
  unfolding tag_lists
  whole_answer = by_count (nat_lt 0 (length ys)) refl
    where
      by_count : (b : Bool) → nat_lt 0 (length ys) ≡ b → lists_from 0 (3 + stash) ≡ rest_in stash s ys (cond b (phase.Tags 0 0) phase.Done)
      by_count true e =
          let all : 3 + stash ≡ 3 + stash - 0 = omega arith in
          ap (lists_from 0) all ∙ begins_list 0 (omega arith)
      by_count false e = no_lists 0 (3 + stash) (let none = ltb-false 0 (length ys) e in omega arith)

-- ---- the frame that is due

due_some : (x : ℕ) (xs : List ℕ) (script : Script) → None ≡ due_after (x ∷ xs) script
due_some x xs over = refl
due_some x xs (sends out rest) = refl
due_some x xs (awaits e next) = refl

-- none while any bytes are pending
pub none_while_pending : (pending rest : List ℕ) (script : Script) → (pending ≡ [] → ⊥) → None ≡ due_after (pending ++ rest) script
none_while_pending [] rest script some = absurd (some refl)
none_while_pending (x ∷ xs) rest script some = due_some x (xs ++ rest) script

-- nor while a frame of tags is owed
pub none_before_tags : (stash : ℕ) (s : SenderSide) (ys : List (List ℕ)) (list block : ℕ) (pending : List ℕ) (script : Script) → list < 3 + stash → block < blocks_for (length ys)
    → None ≡ due_after (pending ++ answer_from stash s ys list block) script
none_before_tags stash s ys list block [] script l m =
    behind_frame (tag_list s ys list) (rest_in stash s ys (next_phase list block (3 + stash) (blocks_for (length ys))))
    ∙ ap (λ (owes : List ℕ). due_after owes script) (sym (after_frame stash s ys list block l m))
  where
    begins : (out rest : List ℕ) → (length out ≡ 0 → ⊥) → None ≡ due_after (out ++ rest) script
    begins [] rest some = absurd (some refl)
    begins (x ∷ out) rest some = due_some x (out ++ rest) script

    behind_frame : (frames : List (List ℕ)) (rest : List ℕ) → None ≡ due_after (layout (block_frame list frames block) ++ rest) script
    behind_frame frames rest = begins (layout (block_frame list frames block)) rest (λ e. omega (arith, e))
none_before_tags stash s ys list block (x ∷ xs) script l m = due_some x (xs ++ answer_from stash s ys list block) script

-- ---- columns

module _ (deal : SenderDeal) (ys : List (List ℕ)) (count : ℕ) where
  abbrev rows : ℕ
  rows = rows_for deal.stash count

  abbrev script_at : ℕ → List (List ℕ) → Script
  script_at c columns = opens_columns deal ys count (take c columns) (drop c columns)

  abbrev with_opened : ℕ → List (List ℕ) → Frame → List ℕ
  with_opened c columns f = opened_column (bit_of deal.choice c) (get_or columns c []) (bytes_in f)

  -- the column that is due, and what follows
  pub column_due : (c : ℕ) (columns : List (List ℕ)) → c < length columns
      → script_at c columns
      ≡ awaits (expect.Column c rows) (λ f. opens_columns deal ys count (take c columns ++ with_opened c columns f ∷ []) (drop (c + 1) columns))
  column_due c columns l =
      let front : List (List ℕ) = take c columns in
      let column : List ℕ = get_or columns c [] in
      let count_is : length front ≡ c = length-take-le c columns (omega arith) in
      ap (opens_columns deal ys count front) (drop_more columns c [] l)
      ∙ ap (λ (k : ℕ). awaits (expect.Column k rows) (λ f. opens_columns deal ys count (front ++ opened_column (bit_of deal.choice k) column (bytes_in f) ∷ []) (drop (c + 1) columns))) count_is

  -- an end that awaits a column owes nothing
  pub settled : (c : ℕ) (columns opened : List (List ℕ)) → c < length columns
      → goes_on false (opens_columns deal ys count opened (drop c columns)) ≡ record { owes = []; next = opens_columns deal ys count opened (drop c columns); is_new = false }
  settled c columns opened l =
      let more = drop_more columns c [] l in
      subst (λ (chosen : List (List ℕ)). goes_on false (opens_columns deal ys count opened chosen) ≡ record { owes = []; next = opens_columns deal ys count opened chosen; is_new = false }) (sym more) refl

  -- after a column the session is where it should be
  pub after_column : (c : ℕ) (old new : List (List ℕ)) (f : Frame) (state : EndState) → length old ≡ 512 → c < 512 → state.next ≡ script_at c old
      → new ≡ slice_set old c (with_opened c old f)
      → record {
        owes = rest_in deal.stash (side_over deal count new) ys (phase_after_column c (length ys));
        next = next_of deal ys count (stage_in new (phase_after_column c (length ys)));
        is_new = false;
      } ≡ after_taking f state
  unfolding sender_answer
  after_column c old new f state long l at is = before ∙ sym taken
    where
      opened : List ℕ
      opened = with_opened c old f

      front : take (c + 1) new ≡ take c old ++ opened ∷ []
      front = ap (take (c + 1)) is ∙ take_more_set old c opened (omega (arith, long, l))

      back : drop (c + 1) new ≡ drop (c + 1) old
      back = ap (drop (c + 1)) is ∙ drop-set-lt (c + 1) old c opened (omega arith)

      long_new : length new ≡ 512
      long_new = ap length is ∙ (length-set old c opened ∙ long)

      taken : after_taking f state ≡ goes_on false (script_at (c + 1) new)
      taken =
          ap (λ (script : Script). after_frame_of script f state) (at ∙ column_due c old (omega (arith, long, l)))
          ∙ ap₂ (λ (opened chosen : List (List ℕ)). goes_on false (opens_columns deal ys count opened chosen)) (sym front) (sym back)

      ends_either : (b : Bool) → next_of deal ys count (stage_in new (cond b (phase.Tags 0 0) phase.Done)) ≡ awaits_done
      ends_either true = refl
      ends_either false = refl

      answered : layouts (lists_frames 0 (tag_lists deal.stash (side_over deal count new) ys)) ≡ sender_answer deal count (row_of new) ys
      answered = refl

      state_after : Phase → EndState
      state_after p = record { owes = rest_in deal.stash (side_over deal count new) ys p; next = next_of deal ys count (stage_in new p); is_new = false }

      before : record {
        owes = rest_in deal.stash (side_over deal count new) ys (phase_after_column c (length ys));
        next = next_of deal ys count (stage_in new (phase_after_column c (length ys)));
        is_new = false;
      } ≡ goes_on false (script_at (c + 1) new)
      before = by_case (nat_lt c 511) refl
        where
          last : Phase
          last = cond (nat_lt 0 (length ys)) (phase.Tags 0 0) phase.Done

          by_case : (b : Bool) → nat_lt c 511 ≡ b → state_after (cond b (phase.Columns (c + 1)) last) ≡ goes_on false (script_at (c + 1) new)
          by_case true e = sym (settled (c + 1) new (take (c + 1) new) (omega (arith, long_new, ltb-true c 511 e)))
          by_case false e =
              let high = ltb-false c 511 e in
              let all : take (c + 1) new ≡ new = take_all (c + 1) new (omega (arith, long_new, high)) in
              let none : drop (c + 1) new ≡ [] = drop_all (c + 1) new (omega (arith, long_new, high)) in
              (λ i. record { owes = (sym (whole_answer deal.stash (side_over deal count new) ys)) i; next = ends_either (nat_lt 0 (length ys)) i; is_new = false })
              ∙ ((λ i. record { owes = (answered ∙ sym (append-nil (sender_answer deal count (row_of new) ys))) i; next = awaits_done; is_new = false })
              ∙ ap₂ (λ (opened chosen : List (List ℕ)). goes_on false (opens_columns deal ys count opened chosen)) (sym all) (sym none))

-- ---- what `is_empty` says

pub is_empty_list : {A : Type 0} (xs : List A) (b : Bool) → b ≡ true → b ≡ (length xs == 0) → xs ≡ []
is_empty_list [] b e test = refl
is_empty_list (x ∷ xs) b e test = absurd (let none : length (x ∷ xs) ≡ 0 = eqb-true (length (x ∷ xs)) 0 (sym test ∙ e) in omega arith)

pub some_in_list : {A : Type 0} (xs : List A) (b : Bool) → b ≡ false → b ≡ (length xs == 0) → xs ≡ [] → ⊥
some_in_list xs b e test none = eqb-false (length xs) 0 (sym test ∙ e) (ap length none)

-- a frame comes only where nothing is pending
pub empty_before : (pending rest : List ℕ) (script : Script) (f : Frame) → MayCome (due_after (pending ++ rest) script) f → pending ≡ []
empty_before [] rest script f may = refl
empty_before (x ∷ xs) rest script f may =
    absurd (subst (λ (due : Option Expect). MayCome due f) (sym (due_some x (xs ++ rest) script)) may)

-- ---- the frame that is due in each phase, once nothing is pending

module _ (deal : SenderDeal) (ys : List (List ℕ)) (count : ℕ) (memory : Memory) where
  abbrev shown : Phase → Running
  shown = running deal ys count memory

  pub column_is_due : (c : ℕ) → memory.outbox.pending ≡ [] → c < length memory.columns.columns
      → Some (expect.Column c (rows_for deal.stash count)) ≡ due_frame (mid_state (shown (phase.Columns c)))
  column_is_due c none l =
      ap (due_after []) (sym (column_due deal ys count c memory.columns.columns l))
      ∙ ap (λ (pending : List ℕ). due_after (pending ++ []) (opens_columns deal ys count (take c memory.columns.columns) (drop c memory.columns.columns))) (sym none)

  pub tags_are_not_due : (list block : ℕ) → list < 3 + deal.stash → block < blocks_for (length ys) → None ≡ due_frame (mid_state (shown (phase.Tags list block)))
  tags_are_not_due list block l m = none_before_tags deal.stash (side_over deal count memory.columns.columns) ys list block memory.outbox.pending awaits_done l m

  pub none_is_due : memory.outbox.pending ≡ [] → None ≡ due_frame (mid_state (shown phase.Over))
  none_is_due none = ap (λ (pending : List ℕ). due_after (pending ++ []) over) (sym none)

  pub column_may_come : (c : ℕ) (f : Frame) → c < length memory.columns.columns → MayCome (due_frame (mid_state (shown (phase.Columns c)))) f
      → (memory.outbox.pending ≡ []) × IsValid (expect.Column c (rows_for deal.stash count)) f
  column_may_come c f l may =
      let none = empty_before memory.outbox.pending [] (opens_columns deal ys count (take c memory.columns.columns) (drop c memory.columns.columns)) f may in
      (none, subst (λ (due : Option Expect). MayCome due f) (sym (column_is_due c none l)) may)

-- ---- what is sent

-- the room is spare where nothing is pending, also after some was sent
pub spare_after : (n : ℕ) (old : OutboxState) → n ≤ length old.pending → (with_sent n old).pending ≡ [] → (with_sent n old).spare ≡ (with_sent n old).room
spare_after n old l none =
    let all : length old.pending ≤ n = omega (arith, ap length none, length-drop n old.pending) in
    ap (λ (b : Bool). cond b old.spare old.room) (le-ltb n (length old.pending) all)

-- a session that puts a frame of tags owes what it owed
pub after_tags : (deal : SenderDeal) (ys : List (List ℕ)) (count : ℕ) (memory : Memory) (list block : ℕ) → memory.outbox.pending ≡ [] → list < 3 + deal.stash → block < blocks_for (length ys)
    → mid_state (record {
      deal = deal;
      items = ys;
      count = count;
      pending = memory.outbox.pending ++ layout (block_frame list (tag_list (side_over deal count memory.columns.columns) ys list) block);
      rest = rest_in deal.stash (side_over deal count memory.columns.columns) ys (next_phase list block (3 + deal.stash) (blocks_for (length ys)));
      stage = stage_in memory.columns.columns (next_phase list block (3 + deal.stash) (blocks_for (length ys)));
    }) ≡ mid_state (running deal ys count memory (phase.Tags list block))
after_tags deal ys count memory list block none l m =
    let s = side_over deal count memory.columns.columns in
    let next = next_phase list block (3 + deal.stash) (blocks_for (length ys)) in
    let frame : List ℕ = layout (block_frame list (tag_list s ys list) block) in
    let rest : List ℕ = rest_in deal.stash s ys next in
    (λ i. record { owes = none i ++ frame ++ rest; next = ends_after_tags (nat_lt (block + 1) (blocks_for (length ys))) (nat_lt (list + 1) (3 + deal.stash)) i; is_new = false })
    ∙ (λ i. record { owes = (sym none) i ++ (sym (after_frame deal.stash s ys list block l m)) i; next = awaits_done; is_new = false })
  where
    ends_after_tags : (b c : Bool) → next_of deal ys count (stage_in memory.columns.columns (cond b (phase.Tags list (block + 1)) (cond c (phase.Tags (list + 1) 0) phase.Done))) ≡ awaits_done
    ends_after_tags true c = refl
    ends_after_tags false true = refl
    ends_after_tags false false = refl

-- ---- what comes next

turn_some : (x : ℕ) (xs : List ℕ) (script : Script) → turn.Send ≡ next_turn (x ∷ xs) script
turn_some x xs over = refl
turn_some x xs (sends out rest) = refl
turn_some x xs (awaits e next) = refl

pub sends_while_pending : (pending rest : List ℕ) (script : Script) → (pending ≡ [] → ⊥) → turn.Send ≡ next_turn (pending ++ rest) script
sends_while_pending [] rest script some = absurd (some refl)
sends_while_pending (x ∷ xs) rest script some = turn_some x (xs ++ rest) script

pub waits_for_more : (pending rest : List ℕ) (script : Script) (e : Expect) (next : Frame → Script) → pending ≡ [] → rest ≡ [] → script ≡ awaits e next
    → turn.More ≡ next_turn (pending ++ rest) script
waits_for_more pending rest script e next none done is = λ i. next_turn ((sym none) i ++ (sym done) i) ((sym is) i)

-- ---- the receiver's hello

-- the end after it
pub after_hello : (deal : SenderDeal) (ys : List (List ℕ)) (f : Frame) (state : EndState) → length deal.chosen ≡ 512 → state_in deal ys None ≡ state
    → mid_state (begun deal ys (count_in f)) ≡ after_taking f state
after_hello deal ys f state full is =
    let n : ℕ = count_in f in
    let columns : List (List ℕ) = sender_columns deal (rows_for deal.stash n) in
    let some : 0 < length columns = omega (arith, full, length-map deal.chosen (λ seed. column seed deal.session (rows_for deal.stash n))) in
    ap (owes_first (layout (sender_hello deal.id deal.session (length ys)))) (sym (settled deal ys n 0 columns [] some))
    ∙ ap (after_taking f) is
