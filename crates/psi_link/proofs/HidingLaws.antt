-- What `receive` sends is a front of the one stream of its list, however it ends, and that stream hides the list.
use Rattle.std.proofs.Common.{◌≡◌, ◌≤◌, ◌⊎◌, inl, inr, ℕ, List, [], ◌++◌, length, Some, option_map, take, Err, sym, ap, subst, arith}
use Rattle.std.proofs.lemmas.List.{take_all}
use Rattle.psi_spec.specs.Deals.{ReceiverDeal}
use Rattle.psi_spec.specs.Limits.{bins_for}
use Rattle.psi_spec.specs.Meeting.{Placed, placed_of}
use Rattle.psi_spec.specs.Placement.{Slot, IsPlacementOf}
use Rattle.psi_base.specs.Outside.{Known, LinkFailed, Outside, Starved, opening}
use Rattle.psi_frames.specs.Dialogue.{CutOff, Talks}
use Rattle.psi_frames.specs.declared.turns.EndFault.TheVariants as peer
use Rattle.psi_receiver.specs.Laws.{own_stream, receiver_dialogue}
use Rattle.psi_receiver.proofs.Fronts.{sends_its_stream}
use Rattle.psi_walk.specs.JudgedFiles.{HasItems, HasReceiverDeal}
use Rattle.psi_walk.specs.Placing.{slots_with}
use Rattle.psi_walk.specs.Promises.{IsSilent}
use Rattle.psi_texts.specs.declared.status.Status.{Status}
use Rattle.psi_texts.specs.declared.status.Status.TheVariants as status
use Rattle.psi_link.specs.HidingPromises.{SentHidden, SendsHidden}
use Rattle.psi_link.specs.Receive.{sender_link}
use Rattle.psi_link.specs.ReceivePromises.{ReceiveAnswers, WithPlacement, connected, exchanged}
use Rattle.psi_walk.proofs.Placings.{hides_list}

-- ---- fronts of the stream

-- the bytes that were sent on after these
abbrev Sent : Outside → Outside → List ℕ → Type 0
Sent before after bytes = after.outgoing ≡ option_map (λ (gone : List ℕ). gone ++ bytes) before.outgoing

-- a part of what is owed for some bytes is a front of the stream
part_sent : (deal : ReceiverDeal) (placed : List Placed) (taken : List ℕ) (n : ℕ) (before after : Outside) → Sent before after (take n ((receiver_dialogue deal placed).owes taken))
    → Sent before after (take (length (take n ((receiver_dialogue deal placed).owes taken))) (own_stream deal placed))
part_sent deal placed taken n before after h = subst (Sent before after) (sym (sends_its_stream deal placed taken n)) h

-- and so is all of it
all_sent : (deal : ReceiverDeal) (placed : List Placed) (taken : List ℕ) (before after : Outside) → Sent before after ((receiver_dialogue deal placed).owes taken)
    → Sent before after (take (length (take (length ((receiver_dialogue deal placed).owes taken)) ((receiver_dialogue deal placed).owes taken))) (own_stream deal placed))
all_sent deal placed taken before after h =
    let owed : List ℕ = (receiver_dialogue deal placed).owes taken in
    part_sent deal placed taken (length owed) before after (subst (Sent before after) (sym (take_all (length owed) owed (omega arith))) h)

-- the whole stream
whole_sent : (deal : ReceiverDeal) (placed : List Placed) (before after : Outside) → Sent before after (own_stream deal placed)
    → Sent before after (take (length (own_stream deal placed)) (own_stream deal placed))
whole_sent deal placed before after h =
    let stream : List ℕ = own_stream deal placed in subst (Sent before after) (sym (take_all (length stream) stream (omega arith))) h

-- ---- what was read and placed

record Sets (known : Known) (words : List (List ℕ)) (before : Outside) (xs : List (List ℕ)) (deal : ReceiverDeal) (slots : List Slot) : Type 0 where
  x_file : HasItems known words before 2 xs
  r_file : HasReceiverDeal known words before 3 deal
  placement : IsPlacementOf deal.stash deal.key (bins_for (length xs)) xs slots
  picked : slots_with deal xs ≡ Some slots

sets_of : (known : Known) (words : List (List ℕ)) (before : Outside) (placed : List (List Slot)) (P : List (List ℕ) → ReceiverDeal → List Slot → Type 0)
    (h : WithPlacement known words before placed P) → Sets known words before h.xs h.deal h.slots
sets_of known words before placed P h = record { x_file = h.x_file; r_file = h.r_file; placement = h.placement; picked = h.picked }

sent_hidden : (known : Known) (words : List (List ℕ)) (before after : Outside) (xs : List (List ℕ)) (deal : ReceiverDeal) (slots : List Slot) → Sets known words before xs deal slots
    → (n : ℕ) → Sent before after (take n (own_stream deal (placed_of xs slots))) → SentHidden known words before after
sent_hidden known words before after xs deal slots is n sent = record {
  xs = xs;
  deal = deal;
  slots = slots;
  x_file = is.x_file;
  r_file = is.r_file;
  picked = is.picked;
  count = n;
  sent = sent;
  hidden = hides_list deal xs slots is.placement;
}

-- ---- by the status

-- a session that was cut off
cut_hidden : (known : Known) (words : List (List ℕ)) (before after : Outside) (xs : List (List ℕ)) (deal : ReceiverDeal) (slots : List Slot) → Sets known words before xs deal slots
    → (cause : ℕ → Outside → Type 0) → ((sent : ℕ) (mid : Outside) → cause sent mid → after.outgoing ≡ mid.outgoing)
    → CutOff known (receiver_dialogue deal (placed_of xs slots)) (connected words before) cause → SendsHidden known words before after
cut_hidden known words before after xs deal slots is cause same h =
    inr (sent_hidden known words before after xs deal slots is _ (part_sent deal (placed_of xs slots) h.taken h.sent before after (same h.sent _ h.why)))

-- a session that was run whole, and what left the link alone after it
session_hidden : (known : Known) (words : List (List ℕ)) (before after : Outside) (xs : List (List ℕ)) (deal : ReceiverDeal) (slots : List Slot) (taken : List ℕ)
    → Sets known words before xs deal slots → after.outgoing ≡ (exchanged words before xs deal slots taken).outgoing → SendsHidden known words before after
session_hidden known words before after xs deal slots taken is same =
    inr (sent_hidden known words before after xs deal slots is _ (whole_sent deal (placed_of xs slots) before after same))

-- a link that was not opened, or failed
link_hidden : (known : Known) (words : List (List ℕ)) (before after : Outside) (xs : List (List ℕ)) (deal : ReceiverDeal) (slots : List Slot) → Sets known words before xs deal slots
    → (known.fails (opening (sender_link words)) × IsSilent before after)
    ⊎ CutOff known (receiver_dialogue deal (placed_of xs slots)) (connected words before) (λ sent mid. LinkFailed mid after) → SendsHidden known words before after
link_hidden known words before after xs deal slots is (inl unopened) = inl unopened.1.outgoing
link_hidden known words before after xs deal slots is (inr cut_off) =
    cut_hidden known words before after xs deal slots is (λ sent mid. LinkFailed mid after) (λ sent mid failed. ap (λ (o : Outside). o.outgoing) failed.left) cut_off

-- memory that was wanting before a session, or in it
same_outgoing : (mid after : Outside) (P : Type 0) → Starved mid after ⊎ (P × (after ≡ mid)) → after.outgoing ≡ mid.outgoing
same_outgoing mid after P (inl starved) = ap (λ (o : Outside). o.outgoing) starved.left
same_outgoing mid after P (inr same) = ap (λ (o : Outside). o.outgoing) same.1

memory_hidden : (known : Known) (words : List (List ℕ)) (before after : Outside) (xs : List (List ℕ)) (deal : ReceiverDeal) (slots : List Slot) → Sets known words before xs deal slots
    → IsSilent before after ⊎ (IsSilent (connected words before) after ⊎ Talks known (receiver_dialogue deal (placed_of xs slots)) (connected words before) (Err peer.NoMemory) after)
    → SendsHidden known words before after
memory_hidden known words before after xs deal slots is (inl quiet) = inl quiet.outgoing
memory_hidden known words before after xs deal slots is (inr (inl quiet)) = inl quiet.outgoing
memory_hidden known words before after xs deal slots is (inr (inr cut_off)) =
    cut_hidden known words before after xs deal slots is
    (λ sent mid. Starved mid after ⊎ ((sent ≤ length ((receiver_dialogue deal (placed_of xs slots)).owes [])) × (after ≡ mid)))
    (λ sent mid why. same_outgoing mid after (sent ≤ length ((receiver_dialogue deal (placed_of xs slots)).owes [])) why) cut_off

pub answered_hidden : (known : Known) (words : List (List ℕ)) (before : Outside) (placed : List (List Slot)) (why : Status) (after : Outside)
    → ReceiveAnswers known words before placed why after → SendsHidden known words before after
answered_hidden known words before placed status.Done after h =
    session_hidden known words before after h.xs h.deal h.slots h.fact.taken (sets_of known words before placed _ h) (ap (λ (o : Outside). o.outgoing) h.fact.fact)
answered_hidden known words before placed (status.BadItems place fault) after h = inl h.2.0.outgoing
answered_hidden known words before placed (status.BadDeal place fault) after h = inl h.3.0.outgoing
answered_hidden known words before placed (status.NoPlacement place items touched) after h = inl h.2.0.outgoing
answered_hidden known words before placed (status.FileFault place) after (inl h) = inl h.2.0.outgoing
answered_hidden known words before placed (status.FileFault place) after (inr h) =
    let s = h.2 in session_hidden known words before after s.xs s.deal s.slots s.fact.taken (sets_of known words before placed _ s) s.fact.fact.outgoing
answered_hidden known words before placed (status.TooLong place taken) after h = inl h.2.0.outgoing
answered_hidden known words before placed (status.BadFrame frame) after h =
    inr (sent_hidden known words before after h.xs h.deal h.slots (sets_of known words before placed _ h) _
    (all_sent h.deal (placed_of h.xs h.slots) (take frame.offset h.fact.taken) before after (ap (λ (o : Outside). o.outgoing) h.fact.left)))
answered_hidden known words before placed (status.PeerEnded offset) after h =
    inr (sent_hidden known words before after h.xs h.deal h.slots (sets_of known words before placed _ h) _
    (all_sent h.deal (placed_of h.xs h.slots) (take offset h.fact.taken) before after (ap (λ (o : Outside). o.outgoing) h.fact.left)))
answered_hidden known words before placed status.LinkFault after h =
    link_hidden known words before after h.xs h.deal h.slots (sets_of known words before placed _ h) h.fact
answered_hidden known words before placed status.PrintFault after h =
    session_hidden known words before after h.xs h.deal h.slots h.fact.taken (sets_of known words before placed _ h) h.fact.fact.outgoing
answered_hidden known words before placed status.NoMemory after (hello, inl h) = inl h.0.outgoing
answered_hidden known words before placed status.NoMemory after (hello, inr (inl h)) =
    memory_hidden known words before after h.xs h.deal h.slots (sets_of known words before placed _ h) h.fact
answered_hidden known words before placed status.NoMemory after (hello, inr (inr h)) =
    session_hidden known words before after h.xs h.deal h.slots h.fact.taken (sets_of known words before placed _ h) h.fact.fact.outgoing
answered_hidden known words before placed _ after h = absurd h
