-- What the receiver's end shows once both ends have played.
use Rattle.std.proofs.Common.{◌≡◌, ◌≤◌, ◌∙◌, ℕ, All, Option, None, List, [], ◌∷◌, length, arith, lit<, sym, ap, ap₂, subst}
use Rattle.psi_spec.specs.Deals.{ArePair, IsReceiverDeal, IsSenderDeal, ReceiverDeal}
use Rattle.psi_spec.specs.Frames.{Frame, sender_hello}
use Rattle.psi_spec.specs.Limits.{limit_items}
use Rattle.psi_spec.specs.Meeting.{Placed, placed_of}
use Rattle.psi_spec.specs.Placement.{Slot}
use Rattle.psi_spec.specs.Sessions.{session_bytes}
use Rattle.psi_spec.specs.TagLists.{IsTagList}
use Rattle.psi_frames.specs.Script.{IsWithin, KeepsOn}
use Rattle.psi_receiver.specs.Own.{AreMarked}
use Rattle.psi_receiver.specs.Receiving.{hits_of}
use Rattle.psi_receiver.specs.Running.{IsNewReceiver, KeptSince, ReceiverState}
use Rattle.psi_receiver.specs.Running as receiving
use Rattle.psi_receiver.proofs.Awaited.{lists_list}
use Rattle.psi_receiver.proofs.Beginning.{new_receiver_within}
use Rattle.psi_receiver.proofs.Hits.{shown_are_hits}
use Rattle.psi_receiver.proofs.Received.{kept_new}
use Rattle.psi_sender.specs.Running.{Running, SenderState, state_in}
use Rattle.psi_sender.specs.Running as sending
use Rattle.psi_sender.proofs.Within.{within_script}
use Rattle.psi_spec.specs.Sessions.{Move, of_sender, wire_bytes}
use Rattle.psi_session.specs.Playing.{AwaitsFew, CanPlay, IsDone, Plays}
use Rattle.psi_spec.specs.Sessions.{dealt_lists}
use Rattle.psi_session.proofs.OnlyMoves.{only_moves}
use Rattle.psi_session.proofs.WholeSession.{can_play, each_list, session_moves, session_passes, session_taken}

-- no more items are placed than there are
pub few_placed : (items : List (List ℕ)) (slots : List Slot) → length (placed_of items slots) ≤ length items
few_placed [] slots = omega arith
few_placed (x ∷ items) [] = omega arith
few_placed (x ∷ items) (slot ∷ slots) = omega (arith, few_placed items slots)

module _ (receiver : ReceiverState) (sender : SenderState) (new : IsNewReceiver receiver) (none : sender.session ≡ None)
    (is : IsReceiverDeal receiver.deal) (is' : IsSenderDeal sender.deal)
    (pair : ArePair receiver.deal sender.deal) (few : length receiver.placed ≤ limit_items) (few' : length sender.items ≤ limit_items) where
  abbrev own_lists : List (List (List ℕ))
  own_lists = dealt_lists receiver.deal sender.deal receiver.placed sender.items

  abbrev their_moves : List Move
  their_moves = session_moves receiver.deal sender.deal receiver.placed sender.items

  -- both ends can play, and await few frames
  pub can_exchange : CanPlay (receiving.state_of receiver) (sending.state_of sender)
  can_exchange = (their_moves, can_play receiver sender new none is is' pair few few')

  pub few_for_receiver : AwaitsFew (receiving.state_of receiver)
  few_for_receiver = (19457, lit< tt, new_receiver_within receiver new is)

  pub few_for_sender : AwaitsFew (sending.state_of sender)
  few_for_sender = (
    514,
    lit< tt,
    subst (λ (session : Option Running). IsWithin 514 (state_in sender.deal sender.items session).next) (sym none)
        (within_script sender.deal sender.items is'),
  )

  -- the moves that both ends make are those of the session
  pub moves_are : (moves : List Move) → Plays moves (receiving.state_of receiver) (sending.state_of sender) → moves ≡ their_moves
  moves_are moves plays = only_moves moves their_moves (receiving.state_of receiver) (sending.state_of sender) plays (can_play receiver sender new none is is' pair few few')

  -- so the bytes of the session pass
  pub bytes_are : (moves : List Move) → Plays moves (receiving.state_of receiver) (sending.state_of sender) → wire_bytes moves ≡ session_bytes receiver.deal sender.deal receiver.placed sender.items
  bytes_are moves plays = ap wire_bytes (moves_are moves plays) ∙ session_passes receiver.deal sender.deal receiver.placed sender.items

  -- and the receiver shows the items that are hit in the sender's lists
  pub hits_are : (after : ReceiverState) (moves : List Move) → Plays moves (receiving.state_of receiver) (sending.state_of sender)
      → KeepsOn (λ first frames wire. KeptSince first receiver frames) (λ first frames wire. KeptSince first after frames) (of_sender moves) (wire_bytes moves)
      → IsDone (receiving.state_of after) → after.shown ≡ hits_of receiver.deal receiver.placed own_lists
  hits_are after moves plays keeps done =
      let taken : List Frame = of_sender moves in
      let kept : KeptSince receiver after taken = keeps receiver [] [] (kept_new receiver new) in
      let deal : ReceiverDeal = after.deal in
      let count : ℕ = length sender.items in
      let found = kept.found done.next in
      let hello : sender_hello sender.deal.id sender.deal.session count ≡ sender_hello deal.id deal.session count =
      ap₂ (λ (id : List ℕ) (session : ℕ). sender_hello id session count) (sym pair.id) (sym pair.session) ∙ ap (λ (d : ReceiverDeal). sender_hello d.id d.session count) (sym kept.deal) in
      let frames : taken ≡ sender_hello deal.id deal.session count ∷ lists_list 0 own_lists =
      ap of_sender (moves_are moves plays) ∙ session_taken receiver.deal sender.deal receiver.placed sender.items
      ∙ ap (λ (f : Frame). f ∷ lists_list 0 own_lists) hello in
      shown_are_hits deal after.placed count own_lists after.lists after.shown
      (subst IsReceiverDeal (sym kept.deal) is) found.places
      (subst (λ (d : ReceiverDeal). All (IsTagList d.tag_length count) own_lists) (sym kept.deal)
      (each_list receiver.deal sender.deal receiver.placed sender.items is is' pair few few'))
      (subst (λ (fs : List Frame). AreMarked deal.tag_length fs after.lists) frames kept.marks)
      found.many found.found found.long
      ∙ ap₂ (λ (d : ReceiverDeal) (p : List Placed). hits_of d p own_lists) kept.deal kept.placed
