-- The moves of a whole session between both ends, and what they come to.
use Rattle.std.proofs.Common.{◌≡◌, ◌≤◌, ◌+◌, ◌∙◌, ℕ, All, Option, None, true, false, List, [], ◌∷◌, ◌++◌, length, map, drop, refl, sym, ap, ap₂, subst, arith}
use Rattle.std.specs.List.{AllByRecursion, flat_map}
use Rattle.std.proofs.lemmas.Bool.Decides.{nat_tests}
use Rattle.std.proofs.lemmas.List.{append-nil, drop_at}
use Rattle.std.proofs.lemmas.List.Elements.{recursion_from_All}
use Rattle.psi_spec.specs.Columns.{row_of}
use Rattle.psi_spec.specs.ColumnSets.{opened_columns, opened_from}
use Rattle.psi_spec.specs.Deals.{ArePair, IsReceiverDeal, IsSenderDeal, ReceiverDeal, SenderDeal, sender_columns}
use Rattle.psi_spec.specs.Frames.{Frame, layout, receiver_hello, sender_hello, done_frame}
use Rattle.psi_spec.specs.Limits.{limit_items, rows_for}
use Rattle.psi_spec.specs.Matrices.{IsColumn, IsColumnSet}
use Rattle.psi_spec.specs.Meeting.{Placed}
use Rattle.psi_spec.specs.Sessions.{dealt_masked, session_bytes}
use Rattle.psi_spec.specs.Streams.{IsSenderStream, layouts, column_frames, dealt_sets, lists_frames, lists_stream, sender_answer, sender_stream}
use Rattle.psi_spec.specs.TagLists.{IsTagList}
use Rattle.psi_spec.proofs.DealtColumns.{are_columns, dealt_sets_are, sender_columns_are}
use Rattle.psi_spec.proofs.Forming.{receiver_streams_are_well_formed, sender_streams_are_well_formed}
use Rattle.psi_spec.proofs.Opening.{opened_columns_answer}
use Rattle.psi_spec.proofs.SessionMoves.{receivers_moved, receivers_wire, senders_moved, senders_wire, wire_is}
use Rattle.psi_frames.specs.declared.expect.Expect.TheVariants as expect
use Rattle.psi_frames.specs.Expected.{IsValid}
use Rattle.psi_frames.specs.Script.{AreAwaited, EndState, Script, awaits, goes_on, over, sends}
use Rattle.psi_frames.proofs.Parts.{valid_from_parts}
use Rattle.psi_receiver.specs.Running.{IsNewReceiver, ReceiverState}
use Rattle.psi_receiver.specs.Running as receiving
use Rattle.psi_receiver.specs.Script.{answers_hello, awaits_lists, receiver_script}
use Rattle.psi_receiver.specs.Script as received
use Rattle.psi_receiver.proofs.Awaited.{lists_awaited, lists_list, lists_list-bytes}
use Rattle.psi_receiver.proofs.Beginning.{begins_script}
use Rattle.psi_receiver.proofs.Hearing.{width_of}
use Rattle.psi_sender.specs.Running.{Running, SenderState, state_in}
use Rattle.psi_sender.specs.Running as sending
use Rattle.psi_sender.specs.Script.{awaits_done, opens_columns, sender_script}
use Rattle.psi_sender.specs.Script as sent_by
use Rattle.psi_sender.proofs.Awaited.{column_list, columns_awaited}
use Rattle.psi_spec.specs.Sessions.{Move, by_receiver, by_sender, of_sender, wire_bytes}
use Rattle.psi_session.specs.Playing.{Plays}
use Rattle.psi_spec.specs.Sessions.{dealt_lists}
use Rattle.psi_session.proofs.ByTurns.{Takes, first_sends, first_step, second_sends, second_step}
use Rattle.psi_session.proofs.Taking.{columns_taken, lists_taken}

module _ (receiver : ReceiverDeal) (sender : SenderDeal) (placed : List Placed) (ys : List (List ℕ)) where
  -- what each end sends
  abbrev pub first_hello : Frame
  first_hello = receiver_hello receiver.id receiver.session (length placed)

  abbrev pub second_hello : Frame
  second_hello = sender_hello sender.id sender.session (length ys)

  abbrev pub columns : List Frame
  columns = column_frames 0 (dealt_masked receiver placed)

  abbrev pub lists : List Frame
  lists = lists_list 0 (dealt_lists receiver sender placed ys)

  -- the moves: both hellos, the columns, the lists and the end
  abbrev end_moves : List Move
  end_moves = by_receiver done_frame ∷ []

  abbrev list_moves : List Move
  list_moves = map by_sender lists ++ end_moves

  abbrev column_moves : List Move
  column_moves = map by_receiver columns ++ list_moves

  abbrev pub session_moves : List Move
  session_moves = by_receiver first_hello ∷ by_sender second_hello ∷ column_moves

  -- the receiver takes the sender's stream
  pub session_taken : of_sender session_moves ≡ second_hello ∷ lists
  session_taken =
      ap (λ (fs : List Frame). second_hello ∷ fs)
      ((receivers_moved columns list_moves).1 ∙ ((senders_moved lists end_moves).1 ∙ append-nil lists))

  -- all bytes that pass are those of the session
  pub session_passes : wire_bytes session_moves ≡ session_bytes receiver sender placed ys
  unfolding session_bytes
  session_passes =
      ap (λ (xs : List ℕ). layout first_hello ++ (layout second_hello ++ xs))
      (receivers_wire columns list_moves
      ∙ ap (λ (xs : List ℕ). layouts columns ++ xs)
      (senders_wire lists end_moves
      ∙ ap₂ (λ (a b : List ℕ). a ++ b) (lists_list-bytes 0 (dealt_lists receiver sender placed ys)) (append-nil (layout done_frame))))
      ∙ sym (wire_is first_hello second_hello (dealt_masked receiver placed) (dealt_lists receiver sender placed ys))

  -- ---- each move can be made

  module _ (is : IsReceiverDeal receiver) (is' : IsSenderDeal sender) (pair : ArePair receiver sender)
      (few : length placed ≤ limit_items) (few' : length ys ≤ limit_items) where
    abbrev count : ℕ
    count = length placed

    abbrev sent : List (List ℕ)
    sent = dealt_masked receiver placed

    abbrev chosen : List (List ℕ)
    chosen = sender_columns sender (rows_for sender.stash count)

    abbrev opened : List (List ℕ)
    opened = opened_from sender.choice 0 chosen sent

    abbrev answer : List ℕ
    answer = sender_answer sender count (row_of opened) ys

    abbrev tag_script : Script
    tag_script = awaits_lists receiver.tag_length (length ys) 0 (3 + receiver.stash)

    first_valid : IsValid (expect.ReceiverHello sender.id sender.session) first_hello
    first_valid =
        valid_from_parts (expect.ReceiverHello sender.id sender.session) first_hello (omega arith)
        (record { id = is.id; session = is.session; count = omega (arith, few) })
        (record { deal_is = pair.id; session_is = pair.session; few = few })

    second_valid : IsValid (expect.SenderHello receiver.id receiver.session) second_hello
    second_valid =
        valid_from_parts (expect.SenderHello receiver.id receiver.session) second_hello (omega arith)
        (record { id = is'.id; session = is'.session; count = omega (arith, few') })
        (record { deal_is = sym pair.id; session_is = sym pair.session; few = few' })

    -- the columns
    sent_set : IsColumnSet (rows_for sender.stash count) sent
    sent_set =
        subst (λ (stash : ℕ). IsColumnSet (rows_for stash count) sent) pair.stash
        (receiver_streams_are_well_formed receiver placed (dealt_sets receiver (rows_for receiver.stash count)) few
        (dealt_sets_are receiver (rows_for receiver.stash count) is.count)).column_set

    same_many : length sent ≡ length chosen
    same_many = sent_set.count ∙ sym (sender_columns_are sender (rows_for sender.stash count) is'.count).count

    columns_due : AreAwaited (opens_columns sender ys count [] chosen) (column_list 0 sent)
    columns_due =
        let stash : sender.stash ≤ 16 = let h = is'.stash in grind (arith, nat_tests) in
        columns_awaited sender ys count [] chosen sent (omega (arith, stash, few)) (recursion_from_All (IsColumn (rows_for sender.stash count)) sent sent_set.each)
        same_many (omega (arith, sent_set.count))

    -- the lists that the sender makes
    pub lists_are : IsSenderStream sender.stash sender.id sender.session sender.tag_length (length ys) (dealt_lists receiver sender placed ys) (sender_stream sender count sent ys)
    lists_are = let width : sender.tag_length ≤ 16 = let h = is'.tag_length in grind (arith, nat_tests) in sender_streams_are_well_formed sender count sent ys few' width

    pub each_list : All (IsTagList receiver.tag_length (length ys)) (dealt_lists receiver sender placed ys)
    each_list = subst (λ (g : ℕ). All (IsTagList g (length ys)) (dealt_lists receiver sender placed ys)) (sym pair.tag_length) lists_are.each

    lists_due : Takes lists tag_script (sends (layout done_frame) over)
    lists_due =
        let all : List (List (List ℕ)) = dealt_lists receiver sender placed ys in
        let each : AllByRecursion (IsTagList receiver.tag_length (length ys)) all = recursion_from_All (IsTagList receiver.tag_length (length ys)) all each_list in
        let many : length all ≡ 3 + receiver.stash = lists_are.size ∙ ap (λ (stash : ℕ). 3 + stash) (sym pair.stash) in
        lists_taken receiver.tag_length (length ys) 0 (3 + receiver.stash) all many each
        (lists_awaited receiver.tag_length (length ys) 0 (3 + receiver.stash) all (width_of receiver is) (omega (arith, few')) many each)

    -- they are what the sender answers
    answer_is : answer ≡ flat_map layout lists
    unfolding opened_columns sender_stream lists_stream
    answer_is =
        let hello : List ℕ = layout second_hello in
        let tags : List ℕ = layouts (lists_frames 0 (dealt_lists receiver sender placed ys)) in
        let whole : hello ++ tags ≡ hello ++ answer =
        opened_columns_answer sender count sent ys is'.choice is'.count (are_columns (rows_for sender.stash count) sent sent_set) in
        sym (drop_at hello answer (length hello) refl) ∙ ap (drop (length hello)) (sym whole) ∙ drop_at hello tags (length hello) refl
        ∙ sym (lists_list-bytes 0 (dealt_lists receiver sender placed ys))

    plays_end : Plays end_moves (goes_on false (sends (layout done_frame) over)) (record { owes = []; next = awaits_done; is_new = false })
    plays_end = (
      record { owes = refl; due = valid_from_parts expect.Done done_frame (omega arith) tt tt },
      (record { owes = refl; next = refl }, record { owes = refl; next = refl }),
    )

    plays_lists : Plays list_moves (goes_on false tag_script) (goes_on false (opens_columns sender ys count opened []))
    plays_lists =
        second_sends lists end_moves (answer ++ []) [] awaits_done false tag_script (sends (layout done_frame) over)
        (ap (λ (xs : List ℕ). xs ++ []) answer_is) lists_due plays_end

    plays_columns : Plays column_moves (goes_on false (sends (layouts (column_frames 0 sent)) tag_script)) (goes_on false (opens_columns sender ys count [] chosen))
    plays_columns =
        let rest : EndState = goes_on false tag_script in
        first_sends columns list_moves (layouts (column_frames 0 sent) ++ rest.owes) rest.owes rest.next rest.is_new (opens_columns sender ys count [] chosen) (opens_columns sender ys count opened [])
        refl (columns_taken sender ys count [] chosen sent same_many columns_due) plays_lists

    pub plays_session : Plays session_moves (goes_on true (receiver_script receiver placed)) (goes_on true (sender_script sender ys))
    unfolding receiver_script
    plays_session =
        let rest : EndState = goes_on false (opens_columns sender ys count [] chosen) in
        first_step first_hello (by_sender second_hello ∷ column_moves) (layout first_hello ++ []) []
        (awaits (expect.SenderHello receiver.id receiver.session) (λ hello. answers_hello receiver placed (received.count_in hello))) true true
        (expect.ReceiverHello sender.id sender.session)
        (λ hello. sends (layout second_hello) (opens_columns sender ys (sent_by.count_in hello) [] (sender_columns sender (rows_for sender.stash (sent_by.count_in hello))))) refl first_valid
        (second_step second_hello column_moves (layout second_hello ++ rest.owes) rest.owes rest.next rest.is_new true
        (expect.SenderHello receiver.id receiver.session) (λ hello. answers_hello receiver placed (received.count_in hello)) refl second_valid plays_columns)

-- ---- the ends themselves

-- both ends can play
pub can_play : (receiver : ReceiverState) (sender : SenderState) → IsNewReceiver receiver → sender.session ≡ None → IsReceiverDeal receiver.deal → IsSenderDeal sender.deal → ArePair receiver.deal sender.deal
    → length receiver.placed ≤ limit_items → length sender.items ≤ limit_items
    → Plays (session_moves receiver.deal sender.deal receiver.placed sender.items) (receiving.state_of receiver) (sending.state_of sender)
can_play receiver sender new none is is' pair few few' =
    let moves : List Move = session_moves receiver.deal sender.deal receiver.placed sender.items in
    subst (λ (s : EndState). Plays moves s (sending.state_of sender)) (sym (begins_script receiver new))
    (subst (λ (session : Option Running). Plays moves (goes_on true (receiver_script receiver.deal receiver.placed)) (state_in sender.deal sender.items session)) (sym none)
    (plays_session receiver.deal sender.deal receiver.placed sender.items is is' pair few few'))
