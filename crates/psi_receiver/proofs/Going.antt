-- How a session goes on: what is owed and due after the sender's hello, a column, a block of tags, and the end.
use Rattle.std.proofs.Common.{◌≡◌, ◌+◌, ◌-◌, ◌<◌, ◌≤◌, ◌==◌, ◌∙◌, ℕ, zero, suc, Bool, true, false, cond, nat_lt, List, [], ◌∷◌, ◌++◌, length, drop, get_or, Option, Some, None, refl, sym, ap, subst, arith}
use Rattle.std.proofs.lemmas.Bool.{ltb-true, ltb-false, eqb-true, eqb-false, le-ltb}
use Rattle.std.proofs.lemmas.List.{append-nil, append_assoc, drop_more, drop_all, length-drop}
use Rattle.psi_spec.specs.Deals.{ReceiverDeal}
use Rattle.psi_spec.specs.Frames.{Frame, layout, column_frame, done_frame}
use Rattle.psi_spec.specs.Meeting.{Placed}
use Rattle.psi_spec.specs.Sessions.{dealt_masked}
use Rattle.psi_spec.specs.Streams.{layouts, blocks_for, column_frames}
use Rattle.psi_frames.specs.Boxes.{OutboxState, with_sent}
use Rattle.psi_frames.specs.Expected.{IsValid}
use Rattle.psi_frames.specs.Script.{EndState, MayCome, Script, after_taking, awaits, due_after, due_frame, goes_on, next_turn, over, owes_first, sends}
use Rattle.psi_frames.specs.declared.expect.Expect.{Expect}
use Rattle.psi_frames.specs.declared.expect.Expect.TheVariants as expect
use Rattle.psi_frames.specs.declared.turns.Turn.TheVariants as turn
use Rattle.psi_receiver.specs.declared.phase.Merge.{Merge}
use Rattle.psi_receiver.specs.declared.phase.Phase.{Phase}
use Rattle.psi_receiver.specs.declared.phase.Phase.TheVariants as phase
use Rattle.psi_receiver.specs.Phases.{first_of, next_phase, phase_after_column}
use Rattle.psi_receiver.specs.Running.{Stage, greets, answers, ends, is_over, awaits_from, end_for, is_new_at, next_of, rest_in, stage_in}
use Rattle.psi_receiver.specs.Script.{awaits_blocks, awaits_lists, count_in, floor_after, no_floor, tags_at}

-- ---- what `is_empty` says

pub is_empty_list : {A : Type 0} (xs : List A) (b : Bool) → b ≡ true → b ≡ (length xs == 0) → xs ≡ []
is_empty_list [] b e test = refl
is_empty_list (x ∷ xs) b e test = absurd (let none : length (x ∷ xs) ≡ 0 = eqb-true (length (x ∷ xs)) 0 (sym test ∙ e) in omega arith)

pub some_in_list : {A : Type 0} (xs : List A) (b : Bool) → b ≡ false → b ≡ (length xs == 0) → xs ≡ [] → ⊥
some_in_list xs b e test none = eqb-false (length xs) 0 (sym test ∙ e) (ap length none)

-- ---- the frame that is due, and what comes next

due_some : (x : ℕ) (xs : List ℕ) (script : Script) → None ≡ due_after (x ∷ xs) script
due_some x xs over = refl
due_some x xs (sends out rest) = refl
due_some x xs (awaits e next) = refl

-- none while any bytes are pending
pub none_while_pending : (pending rest : List ℕ) (script : Script) → (pending ≡ [] → ⊥) → None ≡ due_after (pending ++ rest) script
none_while_pending [] rest script some = absurd (some refl)
none_while_pending (x ∷ xs) rest script some = due_some x (xs ++ rest) script

-- nor while any are owed after them
pub none_while_owed : (pending rest : List ℕ) (script : Script) → (rest ≡ [] → ⊥) → None ≡ due_after (pending ++ rest) script
none_while_owed [] [] script some = absurd (some refl)
none_while_owed [] (x ∷ xs) script some = due_some x xs script
none_while_owed (x ∷ xs) rest script some = due_some x (xs ++ rest) script

-- a frame comes only where nothing is owed
pub empty_before : (pending rest : List ℕ) (script : Script) (f : Frame) → MayCome (due_after (pending ++ rest) script) f → (pending ≡ []) × (rest ≡ [])
empty_before [] [] script f may = (refl, refl)
empty_before [] (x ∷ xs) script f may = absurd (subst (λ (due : Option Expect). MayCome due f) (sym (due_some x xs script)) may)
empty_before (x ∷ xs) rest script f may =
    absurd (subst (λ (due : Option Expect). MayCome due f) (sym (due_some x (xs ++ rest) script)) may)

turn_some : (x : ℕ) (xs : List ℕ) (script : Script) → turn.Send ≡ next_turn (x ∷ xs) script
turn_some x xs over = refl
turn_some x xs (sends out rest) = refl
turn_some x xs (awaits e next) = refl

pub sends_while_pending : (pending rest : List ℕ) (script : Script) → (pending ≡ [] → ⊥) → turn.Send ≡ next_turn (pending ++ rest) script
sends_while_pending [] rest script some = absurd (some refl)
sends_while_pending (x ∷ xs) rest script some = turn_some x (xs ++ rest) script

pub waits_for_more : (pending rest : List ℕ) (script : Script) (e : Expect) (next : Frame → Script) → pending ≡ [] → rest ≡ [] → script ≡ awaits e next
    → turn.More ≡ next_turn (pending ++ rest) script
waits_for_more pending rest script e next none done is = λ i. next_turn ((sym none) i ++ (sym done) i) ((sym is) i)

-- ---- what is sent

-- the room is spare where nothing is pending, also after some was sent
pub spare_after : (n : ℕ) (old : OutboxState) → n ≤ length old.pending → (with_sent n old).pending ≡ [] → (with_sent n old).spare ≡ (with_sent n old).room
spare_after n old l none =
    let all : length old.pending ≤ n = omega (arith, ap length none, length-drop n old.pending) in
    ap (λ (b : Bool). cond b old.spare old.room) (le-ltb n (length old.pending) all)

-- the end is no empty frame
pub some_end : layout done_frame ≡ [] → ⊥
some_end e = omega (arith, ap length e)

-- columns are owed before the last is put
pub some_columns : (next count : ℕ) (columns : List (List ℕ)) → next < length columns → rest_in columns (phase.Columns next count) ≡ [] → ⊥
some_columns next count columns l e =
    omega (arith, ap length (ap (λ (cs : List (List ℕ)). layouts (column_frames next cs) ++ end_for count) (sym (drop_more columns next [] l)) ∙ e))

module _ (deal : ReceiverDeal) (placed : List Placed) where
  -- an end with these bytes in its outbox, those owed after them, and this stage
  abbrev pub state_with : List ℕ → List ℕ → Stage → EndState
  state_with pending rest stage = record { owes = pending ++ rest; next = next_of deal placed stage; is_new = is_new_at stage }

  -- ---- columns

  one_column : (next count : ℕ) (columns : List (List ℕ)) → length columns ≡ 512 → next < 512
      → rest_in columns (phase.Columns next count)
      ≡ layout (column_frame next (get_or columns next [])) ++ rest_in columns (phase_after_column next count)
  one_column next count columns full l =
      let frame : List ℕ = layout (column_frame next (get_or columns next [])) in
      ap (λ (cs : List (List ℕ)). layouts (column_frames next cs) ++ end_for count) (drop_more columns next [] (omega (arith, full, l)))
      ∙ append_assoc frame (layouts (column_frames (next + 1) (drop (next + 1) columns))) (end_for count)
      ∙ ap (λ (rest : List ℕ). frame ++ rest) (by_index (nat_lt next 511) refl)
    where
      by_count : (b : Bool) → cond b [] (layout done_frame) ≡ rest_in columns (cond b (phase.Tags (first_of 0 count)) phase.Done)
      by_count true = refl
      by_count false = refl

      by_index : (b : Bool) → nat_lt next 511 ≡ b
          → layouts (column_frames (next + 1) (drop (next + 1) columns)) ++ end_for count
          ≡ rest_in columns (cond b (phase.Columns (next + 1) count) (cond (nat_lt 0 count) (phase.Tags (first_of 0 count)) phase.Done))
      by_index true e = refl
      by_index false e =
          let high = ltb-false next 511 e in
          ap (λ (cs : List (List ℕ)). layouts (column_frames (next + 1) cs) ++ end_for count) (drop_all (next + 1) columns (omega (arith, full, high)))
          ∙ by_count (nat_lt 0 count)

  -- an end that puts the frame of a column owes what it owed
  pub after_column : (next count : ℕ) (columns : List (List ℕ)) (pending : List ℕ) → length columns ≡ 512 → next < 512
      → state_with (pending ++ layout (column_frame next (get_or columns next []))) (rest_in columns (phase_after_column next count)) (stage_in (phase_after_column next count))
      ≡ state_with pending (rest_in columns (phase.Columns next count)) (answers count)
  after_column next count columns pending full l =
      let frame : List ℕ = layout (column_frame next (get_or columns next [])) in
      let p : Phase = phase_after_column next count in
      λ i. record {
        owes = (append_assoc pending frame (rest_in columns p) ∙ ap (λ (rest : List ℕ). pending ++ rest) (sym (one_column next count columns full l))) i;
        next = by_next (nat_lt next 511) (nat_lt 0 count) refl i;
        is_new = by_new (nat_lt next 511) (nat_lt 0 count) i;
      }
    where
      by_next : (b c : Bool) → nat_lt 0 count ≡ c
          → next_of deal placed (stage_in (cond b (phase.Columns (next + 1) count) (cond c (phase.Tags (first_of 0 count)) phase.Done)))
          ≡ cond (nat_lt 0 count) (awaits_from deal 0 0 no_floor count) over
      by_next true c e = refl
      by_next false true e = ap (λ (some : Bool). cond some (awaits_from deal 0 0 no_floor count) over) (sym e)
      by_next false false e = ap (λ (some : Bool). cond some (awaits_from deal 0 0 no_floor count) over) (sym e)

      by_new : (b c : Bool) → is_new_at (stage_in (cond b (phase.Columns (next + 1) count) (cond c (phase.Tags (first_of 0 count)) phase.Done))) ≡ false
      by_new true c = refl
      by_new false true = refl
      by_new false false = refl

  -- and so does one that puts the end
  pub after_end : (pending : List ℕ) → state_with (pending ++ layout done_frame) [] is_over ≡ state_with pending (layout done_frame) ends
  after_end pending = λ i. record { owes = append-nil (pending ++ layout done_frame) i; next = over; is_new = false }

  -- ---- blocks

  -- the block that is due, and what follows
  pub block_due : (list block count : ℕ) (floor : List ℕ) → block < blocks_for count
      → awaits_from deal list block floor count
      ≡ awaits (expect.Tags list block (tags_at count block) deal.tag_length floor)
      (λ f. awaits_blocks deal.tag_length count list (block + 1) (blocks_for count - (block + 1)) (floor_after deal.tag_length (tags_at count block) f)
      (awaits_lists deal.tag_length count (list + 1) (2 + deal.stash - list)))
  block_due list block count floor l =
      let more : blocks_for count - block ≡ suc (blocks_for count - (block + 1)) = omega arith in
      ap (λ (left : ℕ). awaits_blocks deal.tag_length count list block left floor (awaits_lists deal.tag_length count (list + 1) (2 + deal.stash - list))) more

  -- an end that awaits a block owes nothing
  settled : (list block count : ℕ) (floor : List ℕ) → block < blocks_for count
      → goes_on false (awaits_from deal list block floor count) ≡ record { owes = []; next = awaits_from deal list block floor count; is_new = false }
  settled list block count floor l =
      subst (λ (script : Script). goes_on false script ≡ record { owes = []; next = script; is_new = false }) (sym (block_due list block count floor l)) refl

  -- the next list is awaited from its first block on
  begins_list : (list count : ℕ) → list < 3 + deal.stash
      → awaits_lists deal.tag_length count list (3 + deal.stash - list) ≡ awaits_from deal list 0 no_floor count
  begins_list list count l =
      let more : 3 + deal.stash - list ≡ suc (2 + deal.stash - list) = omega arith in
      let all : blocks_for count ≡ blocks_for count - 0 = omega arith in
      ap (awaits_lists deal.tag_length count list) more
      ∙ ap (λ (left : ℕ). awaits_blocks deal.tag_length count list 0 left no_floor (awaits_lists deal.tag_length count (list + 1) (2 + deal.stash - list))) all

  -- where there are no tags, the end is owed
  no_lists : (list count left : ℕ) → blocks_for count ≡ 0 → awaits_lists deal.tag_length count list left ≡ sends (layout done_frame) over
  no_lists list count zero none = refl
  no_lists list count (suc left) none =
      ap (λ (blocks : ℕ). awaits_blocks deal.tag_length count list 0 blocks no_floor (awaits_lists deal.tag_length count (list + 1) left)) none
      ∙ no_lists (list + 1) count left none

  -- ---- the sender's hello

  lists_begin : (count : ℕ) → goes_on false (awaits_lists deal.tag_length count 0 (3 + deal.stash))
      ≡ record { owes = end_for count; next = next_of deal placed (answers count); is_new = false }
  lists_begin count = by_count (nat_lt 0 count) refl
    where
      by_count : (b : Bool) → nat_lt 0 count ≡ b
          → goes_on false (awaits_lists deal.tag_length count 0 (3 + deal.stash))
          ≡ record { owes = cond b [] (layout done_frame); next = cond b (awaits_from deal 0 0 no_floor count) over; is_new = false }
      by_count true e =
          let some = ltb-true 0 count e in
          let all : 3 + deal.stash ≡ 3 + deal.stash - 0 = omega arith in
          ap (goes_on false) (ap (awaits_lists deal.tag_length count 0) all ∙ begins_list 0 count (omega arith))
          ∙ settled 0 0 count no_floor (omega arith)
      by_count false e =
          let none = ltb-false 0 count e in
          ap (goes_on false) (no_lists 0 count (3 + deal.stash) (omega arith))
          ∙ (λ i. record { owes = append-nil (layout done_frame) i; next = over; is_new = false })

  -- the end after it: all columns are owed
  pub after_hello : (f : Frame) (columns : List (List ℕ)) → columns ≡ dealt_masked deal placed
      → state_with [] (rest_in columns (phase.Columns 0 (count_in f))) (answers (count_in f)) ≡ after_taking f (state_with [] [] greets)
  after_hello f columns is =
      let n : ℕ = count_in f in
      ap (λ (cs : List (List ℕ)). state_with [] (rest_in cs (phase.Columns 0 n)) (answers n)) is
      ∙ ap (owes_first (layouts (column_frames 0 (dealt_masked deal placed)))) (sym (lists_begin n))

  -- ---- a block

  -- the end after it: the next block is awaited, or the next list, or the end is owed
  pub after_block : (m : Merge) (f : Frame) (columns : List (List ℕ)) (last : List ℕ) (place : ℕ) → m.list < 3 + deal.stash → m.block < blocks_for m.count
      → last ≡ floor_after deal.tag_length (tags_at m.count m.block) f
      → state_with [] (rest_in columns (next_phase (3 + deal.stash) m last place)) (stage_in (next_phase (3 + deal.stash) m last place))
      ≡ after_taking f (state_with [] [] (stage_in (phase.Tags m)))
  after_block m f columns last place l k is =
      by_block (nat_lt (m.block + 1) (blocks_for m.count)) refl
      ∙ ap (λ (floor : List ℕ). goes_on false (behind floor)) is
      ∙ ap (λ (script : Script). after_taking f (record { owes = []; next = script; is_new = false })) (sym (block_due m.list m.block m.count m.floor k))
    where
      behind : List ℕ → Script
      behind floor =
          awaits_blocks deal.tag_length m.count m.list (m.block + 1) (blocks_for m.count - (m.block + 1)) floor
          (awaits_lists deal.tag_length m.count (m.list + 1) (2 + deal.stash - m.list))

      state_at : Phase → EndState
      state_at p = state_with [] (rest_in columns p) (stage_in p)

      by_list : (b : Bool) → nat_lt (m.list + 1) (3 + deal.stash) ≡ b
          → state_at (cond b (phase.Tags (first_of (m.list + 1) m.count)) phase.Done)
          ≡ goes_on false (awaits_lists deal.tag_length m.count (m.list + 1) (2 + deal.stash - m.list))
      by_list true e =
          let more = ltb-true (m.list + 1) (3 + deal.stash) e in
          let left : 3 + deal.stash - (m.list + 1) ≡ 2 + deal.stash - m.list = omega arith in
          sym (settled (m.list + 1) 0 m.count no_floor (omega (arith, k)))
          ∙ ap (goes_on false) (sym (begins_list (m.list + 1) m.count more) ∙ ap (awaits_lists deal.tag_length m.count (m.list + 1)) left)
      by_list false e =
          let high = ltb-false (m.list + 1) (3 + deal.stash) e in
          let none : 0 ≡ 2 + deal.stash - m.list = omega arith in
          (λ i. record { owes = sym (append-nil (layout done_frame)) i; next = over; is_new = false })
          ∙ ap (λ (left : ℕ). goes_on false (awaits_lists deal.tag_length m.count (m.list + 1) left)) none

      by_block : (b : Bool) → nat_lt (m.block + 1) (blocks_for m.count) ≡ b
          → state_at (cond b (phase.Tags (record m { block = m.block + 1; floor = last; from = place }))
          (cond (nat_lt (m.list + 1) (3 + deal.stash)) (phase.Tags (first_of (m.list + 1) m.count)) phase.Done))
          ≡ goes_on false (behind last)
      by_block true e = sym (settled m.list (m.block + 1) m.count last (ltb-true (m.block + 1) (blocks_for m.count) e))
      by_block false e =
          let high = ltb-false (m.block + 1) (blocks_for m.count) e in
          let none : 0 ≡ blocks_for m.count - (m.block + 1) = omega arith in
          by_list (nat_lt (m.list + 1) (3 + deal.stash)) refl
          ∙ ap (λ (left : ℕ). goes_on false (awaits_blocks deal.tag_length m.count m.list (m.block + 1) left last (awaits_lists deal.tag_length m.count (m.list + 1) (2 + deal.stash - m.list)))) none

  -- ---- the frame that is due, once nothing is pending

  pub hello_is_due : (pending : List ℕ) → pending ≡ [] → Some (expect.SenderHello deal.id deal.session) ≡ due_frame (state_with pending [] greets)
  hello_is_due pending none = ap (λ (bytes : List ℕ). due_frame (state_with bytes [] greets)) (sym none)

  pub block_is_due : (m : Merge) (pending : List ℕ) → pending ≡ [] → m.block < blocks_for m.count
      → Some (expect.Tags m.list m.block (tags_at m.count m.block) deal.tag_length m.floor) ≡ due_frame (state_with pending [] (stage_in (phase.Tags m)))
  block_is_due m pending none l =
      ap (due_after []) (sym (block_due m.list m.block m.count m.floor l))
      ∙ ap (λ (bytes : List ℕ). due_frame (state_with bytes [] (stage_in (phase.Tags m)))) (sym none)

  -- ---- the frame that may come

  pub hello_may_come : (pending : List ℕ) (f : Frame) → MayCome (due_frame (state_with pending [] greets)) f → (pending ≡ []) × IsValid (expect.SenderHello deal.id deal.session) f
  hello_may_come pending f may =
      let none = (empty_before pending [] (next_of deal placed greets) f may).0 in
      (none, subst (λ (due : Option Expect). MayCome due f) (sym (hello_is_due pending none)) may)

  pub block_may_come : (m : Merge) (pending : List ℕ) (f : Frame) → m.block < blocks_for m.count → MayCome (due_frame (state_with pending [] (stage_in (phase.Tags m)))) f
      → (pending ≡ []) × IsValid (expect.Tags m.list m.block (tags_at m.count m.block) deal.tag_length m.floor) f
  block_may_come m pending f l may =
      let none = (empty_before pending [] (next_of deal placed (stage_in (phase.Tags m))) f may).0 in
      (none, subst (λ (due : Option Expect). MayCome due f) (sym (block_is_due m pending none l)) may)

  -- none may while anything is owed, or once all is done
  pub none_may_come : (pending rest : List ℕ) (stage : Stage) (f : Frame) → (rest ≡ [] → ⊥) → MayCome (due_frame (state_with pending rest stage)) f → ⊥
  none_may_come pending rest stage f some may = some (empty_before pending rest (next_of deal placed stage) f may).1

  pub none_comes_after : (pending : List ℕ) (f : Frame) → MayCome (due_frame (state_with pending [] is_over)) f → ⊥
  none_comes_after pending f may =
      let none = (empty_before pending [] over f may).0 in
      subst (λ (bytes : List ℕ). MayCome (due_frame (state_with bytes [] is_over)) f) none may
