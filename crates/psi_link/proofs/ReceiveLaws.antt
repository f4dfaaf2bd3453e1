-- The promises of `receive` in its own words.
use Rattle.std.proofs.Common.{◌≡◌, ◌≤◌, ◌⊎◌, inl, inr, ℕ, zero, suc, true, false, List, [], ◌∷◌, ◌++◌, length, Option, Some, None, option_map, take, Err, slice_get, refl, sym, ap, ap₂, ◌∙◌, subst, arith}
use Rattle.std.proofs.lemmas.Bool.{true≢false}
use Rattle.std.proofs.lemmas.List.{append-nil, length-take}
use Rattle.psi_spec.specs.DealFiles.{receiver_bytes}
use Rattle.psi_spec.specs.Deals.{ReceiverDeal, IsReceiverDeal}
use Rattle.psi_spec.specs.Frames.{hello_payload, layout, receiver_hello}
use Rattle.psi_spec.specs.Hits.{hit_items, receiver_side}
use Rattle.psi_spec.specs.Items.{items_of}
use Rattle.psi_spec.specs.Limits.{bins_for, file_limit}
use Rattle.psi_spec.specs.Meeting.{placed_of}
use Rattle.psi_spec.specs.Placement.{Slot, IsPlacementOf}
use Rattle.psi_spec.specs.Texts.{lines_text}
use Rattle.psi_words.specs.Words.{word_at}
use Rattle.psi_spec.proofs.StreamSizes.{length-framed, length-hello_payload}
use Rattle.psi_base.specs.Outside.{Known, Outside, Files, Rose, Starved, printed_too, written}
use Rattle.psi_frames.specs.declared.expect.Expect.TheVariants as expect
use Rattle.psi_frames.specs.declared.turns.EndFault.TheVariants as peer
use Rattle.psi_frames.specs.Dialogue.{ReadSo, Talks, WereTaken, good, talked}
use Rattle.psi_frames.proofs.Scripts.{owed-begun}
use Rattle.psi_receiver.specs.Laws.{IsStreamFor, receiver_dialogue}
use Rattle.psi_receiver.specs.Script.{answers_hello, count_in, receiver_script}
use Rattle.psi_receiver.proofs.Hearing.{hears_nothing_else, hears_streams}
use Rattle.psi_walk.specs.Due.{Contents, told}
use Rattle.psi_walk.specs.Files.{items_in, reads_file, reads_receiver, receiver_in}
use Rattle.psi_walk.specs.JudgedFiles.{HasItems, HasReceiverDeal}
use Rattle.psi_walk.specs.Promises.{IsAnswered, IsFailedEffect, IsHungry, IsNotTalked, IsOfEnd, IsReady, IsSilent, IsUnopened, IsUnread, Leaves, WriteFailed}
use Rattle.psi_link.specs.Receive.{receive_rest, receive_tree, sender_link, session_record, shown_text, shows_and_keeps}
use Rattle.psi_walk.specs.Placing.{placing_of, slots_with}
use Rattle.psi_link.specs.ReceivePromises.{AfterSession, CanReceive, connected, IsAtHelloOrCounted, ReceiveAnswers, ReceiveServes, exchanged, hit_lines}
use Rattle.psi_walk.specs.Tree.{carrying, Effect, says, puts, places, talks, holds, ends, End, stopped}
use Rattle.psi_walk.specs.Walk.{IsNotPlaced, IsPicked, Runs}
use Rattle.psi_texts.specs.declared.status.Status.{Status}
use Rattle.psi_texts.specs.declared.status.Status.TheVariants as status
use Rattle.psi_walk.proofs.Answered.{follows_answers}
use Rattle.psi_walk.proofs.JudgedFiles.{AtFile, unread, wanting, refused, taken_on, answered_items, answered_receiver, has_bad_line, has_bad_receiver, has_items, has_receiver, items_bad, left_items, left_receiver, receiver_bad, receiver_deal_of}
use Rattle.psi_walk.proofs.Carried.{last_carries}
use Rattle.psi_walk.proofs.Ready.{is_there, items_ready, ready_on, ready_told, receiver_file_is_short, receiver_ready}
use Rattle.psi_walk.proofs.Unplaced.{PlacesNone}
use Rattle.psi_link.proofs.StreamLists.{lists_of_stream}
use Rattle.psi_walk.specs.Inputs.{AfterItems}
use Rattle.psi_walk.proofs.Placings.{is_placement}
use Rattle.psi_walk.proofs.Left.{follows_leaves}
use Rattle.psi_walk.proofs.Through.{runs_through}

-- ---- the session

-- the text of a stream
text_of : (xs : List (List ℕ)) (deal : ReceiverDeal) (slots : List Slot) (count : ℕ) (lists : List (List (List ℕ))) (taken : List ℕ) → IsReceiverDeal deal
    → IsStreamFor deal count lists taken → shown_text xs deal slots taken ≡ hit_lines xs deal slots lists
unfolding shown_text
text_of xs deal slots count lists taken is stream =
    ap (λ (all : List (List (List ℕ))). lines_text (hit_items (receiver_side deal xs slots) all)) (lists_of_stream deal (placed_of xs slots) count lists taken is stream)

-- a session that read well took a sender's stream: what is said and kept for it, and what was sent
pub record HeardWell (known : Known) (words : List (List ℕ)) (before : Outside) (xs : List (List ℕ)) (deal : ReceiverDeal) (slots : List Slot) (taken : List ℕ) : Type 0 where
  pub count : ℕ
  pub lists : List (List (List ℕ))
  pub stream : IsStreamFor deal count lists taken
  pub text : shown_text xs deal slots taken ≡ hit_lines xs deal slots lists
  pub mid : talked (connected words before) ((receiver_dialogue deal (placed_of xs slots)).owes taken) taken ≡ exchanged words before xs deal slots taken

heard_well : (known : Known) (words : List (List ℕ)) (before : Outside) (xs : List (List ℕ)) (deal : ReceiverDeal) (slots : List Slot) (taken : List ℕ) → IsReceiverDeal deal
    → WereTaken known before.incoming taken → ReadSo (receiver_dialogue deal (placed_of xs slots)) before.incoming taken (good taken)
    → HeardWell known words before xs deal slots taken
heard_well known words before xs deal slots taken is were read =
    let stream = hears_nothing_else deal (placed_of xs slots) taken taken is were.are_bytes read.taken_so_far in
    let hears = hears_streams deal (placed_of xs slots) stream.0 stream.1 taken is stream.2 in
    record {
      count = stream.0;
      lists = stream.1;
      stream = stream.2;
      text = text_of xs deal slots stream.0 stream.1 taken is stream.2;
      mid = ap (λ (bytes : List ℕ). talked (connected words before) bytes taken) hears.sends;
    }

-- what is printed and written at the end
same_put : (words : List (List ℕ)) (mid mid' : Outside) (text text' file : List ℕ) → mid ≡ mid' → text ≡ text'
    → written (printed_too mid text) (word_at words 4) file ≡ written (printed_too mid' text') (word_at words 4) file
same_put words mid mid' text text' file m t = ap₂ (λ (o : Outside) (xs : List ℕ). written (printed_too o xs) (word_at words 4) file) m t

-- a run that went through its session and did the rest
session_leaves : (known : Known) (words : List (List ℕ)) (before : Outside) (xs : List (List ℕ)) (deal : ReceiverDeal) (slots : List Slot) (end later : End) (taken : List ℕ)
    → HasItems known words before 2 xs → HasReceiverDeal known words before 3 deal → IsPicked (placing_of deal xs) slots
    → end ≡ carrying slots later → WereTaken known before.incoming taken → HeardWell known words before xs deal slots taken
    → later ≡ stopped status.Done (written (printed_too (talked (connected words before) ((receiver_dialogue deal (placed_of xs slots)).owes taken) taken) (shown_text xs deal slots taken))
    (word_at words 4) (session_record xs deal slots taken))
    → AfterSession known words before end.placed (λ mid lines file. end.left ≡ written (printed_too mid lines) (word_at words 4) file)
session_leaves known words before xs deal slots end later taken x_file r_file is carried were heard all = record {
  xs = xs;
  deal = deal;
  slots = slots;
  x_file = x_file;
  r_file = r_file;
  placement = is_placement deal xs slots is;
  picked = is.1;
  carried = ap (λ (d : End). d.placed) carried ∙ ap (λ (d : End). slots ∷ d.placed) all;
  fact = record {
    count = heard.count;
    lists = heard.lists;
    taken = taken;
    stream = heard.stream;
    were_taken = were;
    fact = ap (λ (d : End). d.left) carried ∙ (ap (λ (d : End). d.left) all
        ∙ same_put words (talked (connected words before) ((receiver_dialogue deal (placed_of xs slots)).owes taken) taken) (exchanged words before xs deal slots taken)
        (shown_text xs deal slots taken) (hit_lines xs deal slots heard.lists) (session_record xs deal slots taken) heard.mid heard.text);
  };
}

-- the same of a run that is to place the set
set_leaves : (known : Known) (words : List (List ℕ)) (before : Outside) (xs : List (List ℕ)) (deal : ReceiverDeal) (end : End)
    → HasItems known words before 2 xs → HasReceiverDeal known words before 3 deal
    → Leaves known words (places 2 (placing_of deal xs) (λ slots. receive_rest words xs deal slots)) before end
    → AfterSession known words before end.placed (λ mid lines file. end.left ≡ written (printed_too mid lines) (word_at words 4) file)
set_leaves known words before xs deal end x_file r_file h =
    session_leaves known words before xs deal h.0 end h.1 h.4.0 x_file r_file h.2 h.3 h.4.1
    (heard_well known words before xs deal h.0 h.4.0 (receiver_deal_of known words before 3 deal r_file) h.4.1 h.4.2) h.4.3

pub receive_leaves : (known : Known) (words : List (List ℕ)) (before : Outside) (end : End) → Leaves known words (receive_tree words) before end
    → AfterSession known words before end.placed (λ mid lines file. end.left ≡ written (printed_too mid lines) (word_at words 4) file)
receive_leaves known words before end h =
    let x = left_items known words 2 (λ xs. reads_receiver 3 (λ deal. places 2 (placing_of deal xs) (λ slots. receive_rest words xs deal slots))) before end h in
    let r = left_receiver known words 3 (λ deal. places 2 (placing_of deal x.0) (λ slots. receive_rest words x.0 deal slots)) before end x.2 in
    set_leaves known words before x.0 r.0 end x.1 r.1 r.2

-- ---- what `receive` may answer

-- nothing was sent
none_sent : (before after : Outside) → after.outgoing ≡ before.outgoing → IsAtHelloOrCounted before after
none_sent before after quiet = inl ([], omega arith, quiet ∙ same before.outgoing)
  where
    same : (gone : Option (List ℕ)) → gone ≡ option_map (λ (xs : List ℕ). xs ++ []) gone
    same None = refl
    same (Some xs) = ap Some (sym (append-nil xs))

wanted : (known : Known) (words : List (List ℕ)) (before : Outside) (slots : List (List Slot)) (why : Status) (after : Outside)
    → why ≡ status.NoMemory → IsSilent before after → slots ≡ [] → ReceiveAnswers known words before slots why after
wanted known words before slots why after s quiet none =
    subst (λ (x : Status). ReceiveAnswers known words before slots x after) (sym s) (none_sent before after quiet.outgoing, inl (quiet, none))

first_unread : (known : Known) (words : List (List ℕ)) (before : Outside) (slots : List (List Slot)) (why : Status) (after : Outside)
    → IsUnread known words 2 file_limit why → IsSilent before after → slots ≡ [] → ReceiveAnswers known words before slots why after
first_unread known words before slots (status.FileFault place) after h quiet none = inl (inl h.0, h.1, (quiet, none))
first_unread known words before slots (status.TooLong place taken) after h quiet none = (inl h.0, h.1, (quiet, none))
first_unread known words before slots status.NoMemory after h quiet none = (none_sent before after quiet.outgoing, inl (quiet, none))
first_unread known words before slots _ after h quiet none = absurd h

second_unread : (known : Known) (words : List (List ℕ)) (before : Outside) → AfterItems known words before 2 → (slots : List (List Slot)) (why : Status) (after : Outside)
    → IsUnread known words 3 file_limit why → IsSilent before after → slots ≡ [] → ReceiveAnswers known words before slots why after
second_unread known words before items slots (status.FileFault place) after h quiet none = inl (inr (h.0, items), h.1, (quiet, none))
second_unread known words before items slots (status.TooLong place taken) after h quiet none = (inr (h.0, items), h.1, (quiet, none))
second_unread known words before items slots status.NoMemory after h quiet none = (none_sent before after quiet.outgoing, inl (quiet, none))
second_unread known words before items slots _ after h quiet none = absurd h

-- a receiver owes its hello before a byte came
owes_hello : (deal : ReceiverDeal) (xs : List (List ℕ)) (slots : List Slot) → IsReceiverDeal deal
    → length ((receiver_dialogue deal (placed_of xs slots)).owes []) ≡ 34
unfolding receiver_dialogue receiver_script
owes_hello deal xs slots is =
    let count : ℕ = length (placed_of xs slots) in
    let hello : List ℕ = layout (receiver_hello deal.id deal.session count) in
    let none = owed-begun (expect.SenderHello deal.id deal.session) (λ frame. answers_hello deal (placed_of xs slots) (count_in frame)) [] (omega arith) in
    ap (λ (more : List ℕ). length (hello ++ more)) none
    ∙ ap length (append-nil hello)
    ∙ omega (arith, length-framed 1 (hello_payload deal.id deal.session count), length-hello_payload deal.id deal.session count, is.id)

at_hello_or_counted : (known : Known) (words : List (List ℕ)) (before : Outside) (xs : List (List ℕ)) (deal : ReceiverDeal) (slots : List Slot) (after : Outside) → IsReceiverDeal deal
    → Talks known (receiver_dialogue deal (placed_of xs slots)) (connected words before) (Err peer.NoMemory) after → IsAtHelloOrCounted before after
at_hello_or_counted known words before xs deal slots after is h = by_why h.why
  where
    by_why : Starved (talked (connected words before) (take h.sent ((receiver_dialogue deal (placed_of xs slots)).owes h.taken)) h.taken) after
        ⊎ ((h.sent ≤ length ((receiver_dialogue deal (placed_of xs slots)).owes []))
        × (after ≡ talked (connected words before) (take h.sent ((receiver_dialogue deal (placed_of xs slots)).owes h.taken)) h.taken))
        → IsAtHelloOrCounted before after
    by_why (inl starved) = inr starved.rose
    by_why (inr early) = inl (
      take h.sent ((receiver_dialogue deal (placed_of xs slots)).owes h.taken),
      omega (arith, length-take h.sent ((receiver_dialogue deal (placed_of xs slots)).owes h.taken), early.0, owes_hello deal xs slots is),
      ap (λ (o : Outside). o.outgoing) early.1,
    )

-- what was read and placed
pub record HasPlaced (known : Known) (words : List (List ℕ)) (before : Outside) (xs : List (List ℕ)) (deal : ReceiverDeal) (slots : List Slot) (placed : List (List Slot))
    : Type 0 where
  pub x_file : HasItems known words before 2 xs
  pub r_file : HasReceiverDeal known words before 3 deal
  pub placement : IsPlacementOf deal.stash deal.key (bins_for (length xs)) xs slots
  pub picked : slots_with deal xs ≡ Some slots
  pub carried : placed ≡ slots ∷ []

of_session : (known : Known) (words : List (List ℕ)) (before : Outside) (xs : List (List ℕ)) (deal : ReceiverDeal) (slots : List Slot) (placed : List (List Slot))
    → HasPlaced known words before xs deal slots placed → (why : Status) (after : Outside)
    → IsNotTalked known (receiver_dialogue deal (placed_of xs slots)) (connected words before) why after → ReceiveAnswers known words before placed why after
of_session known words before xs deal slots placed has (status.BadFrame frame) after h =
    record { xs = xs; deal = deal; slots = slots; x_file = has.x_file; r_file = has.r_file; placement = has.placement; picked = has.picked; carried = has.carried; fact = h }
of_session known words before xs deal slots placed has (status.PeerEnded offset) after h =
    record { xs = xs; deal = deal; slots = slots; x_file = has.x_file; r_file = has.r_file; placement = has.placement; picked = has.picked; carried = has.carried; fact = h }
of_session known words before xs deal slots placed has status.LinkFault after h =
    record { xs = xs; deal = deal; slots = slots; x_file = has.x_file; r_file = has.r_file; placement = has.placement; picked = has.picked; carried = has.carried; fact = inr h }
of_session known words before xs deal slots placed has status.NoMemory after (inl e) =
    let quiet : IsSilent (connected words before) after =
    subst (λ (o : Outside). IsSilent (connected words before) o) (sym e) (record { incoming = refl; outgoing = refl; opened = refl }) in
    (none_sent before after quiet.outgoing, inr (inl (record { xs = xs; deal = deal; slots = slots; x_file = has.x_file; r_file = has.r_file; placement = has.placement; picked = has.picked; carried = has.carried; fact = inr (inl quiet) })))
of_session known words before xs deal slots placed has status.NoMemory after (inr h) = (
  at_hello_or_counted known words before xs deal slots after (receiver_deal_of known words before 3 deal has.r_file) h,
  inr (inl (record { xs = xs; deal = deal; slots = slots; x_file = has.x_file; r_file = has.r_file; placement = has.placement; picked = has.picked; carried = has.carried; fact = inr (inr h) })),
)
of_session known words before xs deal slots placed has _ after h = absurd h

-- once the session was run, a text is left to print and a file to write
file_of : (known : Known) (words : List (List ℕ)) (text bytes : List ℕ) (at : ℕ) (effect : Effect) (place : ℕ) → slice_get (says text ∷ puts 4 bytes ∷ []) at ≡ Some effect
    → IsFailedEffect known words (status.FileFault place) effect → (place ≡ 4) × WriteFailed known words place
file_of known words text bytes zero effect place e h =
    let same : says text ≡ effect = (let f : Some (says text) ≡ Some effect = e in cc f) in
    absurd (let f : IsFailedEffect known words (status.FileFault place) (says text) = subst (λ (x : Effect). IsFailedEffect known words (status.FileFault place) x) (sym same) h in f)
file_of known words text bytes (suc zero) effect place e h =
    let same : puts 4 bytes ≡ effect = (let f : Some (puts 4 bytes) ≡ Some effect = e in cc f) in
    let f : IsFailedEffect known words (status.FileFault place) (puts 4 bytes) = subst (λ (x : Effect). IsFailedEffect known words (status.FileFault place) x) (sym same) h in f
file_of known words text bytes (suc (suc at)) effect place e h = cc e

-- the whole session was run, and nothing more was sent or taken
after_session : (known : Known) (words : List (List ℕ)) (before : Outside) (xs : List (List ℕ)) (deal : ReceiverDeal) (slots : List Slot) (placed : List (List Slot))
    (taken : List ℕ) (after : Outside) → HasPlaced known words before xs deal slots placed → WereTaken known before.incoming taken
    → ReadSo (receiver_dialogue deal (placed_of xs slots)) before.incoming taken (good taken)
    → IsSilent (talked (connected words before) ((receiver_dialogue deal (placed_of xs slots)).owes taken) taken) after
    → AfterSession known words before placed (λ mid lines file. IsSilent mid after)
after_session known words before xs deal slots placed taken after has were read quiet =
    let heard = heard_well known words before xs deal slots taken (receiver_deal_of known words before 3 deal has.r_file) were read in
    record {
      xs = xs;
      deal = deal;
      slots = slots;
      x_file = has.x_file;
      r_file = has.r_file;
      placement = has.placement;
      picked = has.picked;
      carried = has.carried;
      fact = record {
        count = heard.count;
        lists = heard.lists;
        taken = taken;
        stream = heard.stream;
        were_taken = were;
        fact = subst (λ (mid : Outside). IsSilent mid after) heard.mid quiet;
      };
    }

of_end : (known : Known) (words : List (List ℕ)) (before mid : Outside) (placed : List (List Slot)) (text bytes : List ℕ) → mid.refusals ≡ before.refusals
    → (why : Status) (after : Outside) → (why ≡ status.Done → ReceiveAnswers known words before placed why after)
    → AfterSession known words before placed (λ mid lines file. IsSilent mid after)
    → IsOfEnd known words true why (says text ∷ puts 4 bytes ∷ []) → IsHungry true mid why after → ReceiveAnswers known words before placed why after
of_end known words before mid placed text bytes same status.Done after done session h hungry = done refl
of_end known words before mid placed text bytes same status.PrintFault after done session h hungry = session
of_end known words before mid placed text bytes same (status.FileFault place) after done session h hungry =
    let failed = file_of known words text bytes h.0 h.1 place h.2 h.3 in inr (failed.0, failed.1, session)
of_end known words before mid placed text bytes same status.NoMemory after done session h (inl e) = absurd (true≢false e)
of_end known words before mid placed text bytes same status.NoMemory after done session h (inr rose) =
    (inr (subst (λ (n : ℕ). Rose n after.refusals) same rose), inr (inr session))
of_end known words before mid placed text bytes same _ after done session h hungry = absurd h.3

of_talk : (known : Known) (words : List (List ℕ)) (before : Outside) (xs : List (List ℕ)) (deal : ReceiverDeal) (slots : List Slot) (placed rest : List (List Slot))
    → HasPlaced known words before xs deal slots placed → (why : Status) (after : Outside)
    → (why ≡ status.Done → ReceiveAnswers known words before placed why after)
    → IsAnswered known words false (talks (receiver_dialogue deal (placed_of xs slots)) (λ taken. holds (ends None (shows_and_keeps xs deal slots taken)))) (connected words before) rest why after
    → ReceiveAnswers known words before placed why after
of_talk known words before xs deal slots placed rest has why after done (inl h) = of_session known words before xs deal slots placed has why after h.0
of_talk known words before xs deal slots placed rest has why after done (inr h) =
    let taken : List ℕ = h.0 in
    let mid : Outside = talked (connected words before) ((receiver_dialogue deal (placed_of xs slots)).owes taken) taken in
    let end = h.3 in
    of_end known words before mid placed (shown_text xs deal slots taken) (session_record xs deal slots taken) refl why after done
    (after_session known words before xs deal slots placed taken after has h.1 h.2 end.1) end.0 end.2

unopened_answers : (known : Known) (words : List (List ℕ)) (before : Outside) (xs : List (List ℕ)) (deal : ReceiverDeal) (slots : List Slot) (placed : List (List Slot))
    → HasPlaced known words before xs deal slots placed → (why : Status) (after : Outside) → IsUnopened known (sender_link words) why → IsSilent before after
    → ReceiveAnswers known words before placed why after
unopened_answers known words before xs deal slots placed p status.LinkFault after h quiet =
    record { xs = xs; deal = deal; slots = slots; x_file = p.x_file; r_file = p.r_file; placement = p.placement; picked = p.picked; carried = p.carried; fact = inl (h, quiet) }
unopened_answers known words before xs deal slots placed p status.NoMemory after h quiet =
    (none_sent before after quiet.outgoing, inr (inl (record { xs = xs; deal = deal; slots = slots; x_file = p.x_file; r_file = p.r_file; placement = p.placement; picked = p.picked; carried = p.carried; fact = inl quiet })))
unopened_answers known words before xs deal slots placed p _ after h quiet = absurd h

of_rest : (known : Known) (words : List (List ℕ)) (before : Outside) (xs : List (List ℕ)) (deal : ReceiverDeal) (slots : List Slot) (placed rest : List (List Slot))
    → HasPlaced known words before xs deal slots placed → (why : Status) (after : Outside)
    → (why ≡ status.Done → ReceiveAnswers known words before placed why after)
    → IsAnswered known words false (receive_rest words xs deal slots) before rest why after → ReceiveAnswers known words before placed why after
of_rest known words before xs deal slots placed rest has why after done (inl h) = unopened_answers known words before xs deal slots placed has why after h.0 h.1
of_rest known words before xs deal slots placed rest has why after done (inr h) = of_talk known words before xs deal slots placed rest has why after done h

not_placed : (known : Known) (words : List (List ℕ)) (before : Outside) (xs : List (List ℕ)) (deal : ReceiverDeal) → HasItems known words before 2 xs
    → HasReceiverDeal known words before 3 deal → (placed : List (List Slot)) (why : Status) (after : Outside) → IsNotPlaced 2 (placing_of deal xs) why → IsSilent before after
    → placed ≡ [] → ReceiveAnswers known words before placed why after
unfolding placing_of
not_placed known words before xs deal x_file r_file placed (status.NoPlacement place items touched) after h quiet none =
    (h.0, record { xs = xs; deal = deal; x_file = x_file; r_file = r_file; fact = (h.1.0, h.2) }, (quiet, none))
not_placed known words before xs deal x_file r_file placed status.NoMemory after h quiet none = (none_sent before after quiet.outgoing, inl (quiet, none))
not_placed known words before xs deal x_file r_file placed _ after h quiet none = absurd h

-- behind its set `receive` places no other
pub rest_places_none : (words : List (List ℕ)) (xs : List (List ℕ)) (deal : ReceiverDeal) (slots : List Slot) → PlacesNone (receive_rest words xs deal slots)
unfolding PlacesNone
rest_places_none words xs deal slots = λ taken. tt

of_place : (known : Known) (words : List (List ℕ)) (before : Outside) (xs : List (List ℕ)) (deal : ReceiverDeal) → HasItems known words before 2 xs
    → HasReceiverDeal known words before 3 deal → (placed : List (List Slot)) (why : Status) (after : Outside)
    → (why ≡ status.Done → ReceiveAnswers known words before placed why after)
    → IsAnswered known words false (places 2 (placing_of deal xs) (λ slots. receive_rest words xs deal slots)) before placed why after
    → ReceiveAnswers known words before placed why after
of_place known words before xs deal x_file r_file placed why after done (inl h) = not_placed known words before xs deal x_file r_file placed why after h.0 h.1 h.2
of_place known words before xs deal x_file r_file placed why after done (inr h) =
    let slots = h.0 in
    let carried : placed ≡ slots ∷ [] =
    last_carries known words false (receive_rest words xs deal slots) before slots placed h.1 why after (rest_places_none words xs deal slots) h.3 h.4 in
    of_rest known words before xs deal slots placed h.1
    (record { x_file = x_file; r_file = r_file; placement = is_placement deal xs slots h.2; picked = h.2.1; carried = carried }) why after done h.4

of_second : (known : Known) (words : List (List ℕ)) (before : Outside) (xs : List (List ℕ)) → HasItems known words before 2 xs → (placed : List (List Slot)) (why : Status)
    (after : Outside) → (why ≡ status.Done → ReceiveAnswers known words before placed why after)
    → AtFile known words before 3 file_limit (receiver_in 3) placed why after
    (λ deal. IsAnswered known words false (places 2 (placing_of deal xs) (λ slots. receive_rest words xs deal slots)) before placed why after)
    → ReceiveAnswers known words before placed why after
of_second known words before xs x_file placed why after done (unread h quiet none) = second_unread known words before (xs, x_file) placed why after h quiet none
of_second known words before xs x_file placed why after done (wanting s quiet none) = wanted known words before placed why after s quiet none
of_second known words before xs x_file placed why after done (refused bytes read e quiet none) =
    let bad = receiver_bad 3 bytes why e in
    subst (λ (x : Status). ReceiveAnswers known words before placed x after) (sym bad.2)
    (refl, (xs, x_file), has_bad_receiver known words before 3 bytes bad.0 read bad.1, (quiet, none))
of_second known words before xs x_file placed why after done (taken_on bytes deal read e a) =
    of_place known words before xs deal x_file (has_receiver known words before 3 bytes deal read e) placed why after done a

of_first : (known : Known) (words : List (List ℕ)) (before : Outside) (placed : List (List Slot)) (why : Status) (after : Outside)
    → (why ≡ status.Done → ReceiveAnswers known words before placed why after)
    → AtFile known words before 2 file_limit (items_in 2) placed why after
    (λ xs. IsAnswered known words false (reads_receiver 3 (λ deal. places 2 (placing_of deal xs) (λ slots. receive_rest words xs deal slots))) before placed why after)
    → ReceiveAnswers known words before placed why after
of_first known words before placed why after done (unread h quiet none) = first_unread known words before placed why after h quiet none
of_first known words before placed why after done (wanting s quiet none) = wanted known words before placed why after s quiet none
of_first known words before placed why after done (refused bytes read e quiet none) =
    let bad = items_bad 2 bytes why e in
    subst (λ (x : Status). ReceiveAnswers known words before placed x after) (sym bad.2) (refl, has_bad_line known words before 2 bytes bad.0 read bad.1, (quiet, none))
of_first known words before placed why after done (taken_on bytes xs read e a) =
    of_second known words before xs (has_items known words before 2 bytes xs read e) placed why after done
    (answered_receiver known words 3 (λ deal. places 2 (placing_of deal xs) (λ slots. receive_rest words xs deal slots)) before placed why after a)

-- ---- an honest peer is heard

session_ready : (words : List (List ℕ)) (contents : Option Contents) (before : Outside) (incoming : List ℕ) (xs : List (List ℕ)) (deal : ReceiverDeal) (slots : List Slot) (stream rest : List ℕ)
    (count : ℕ) (lists : List (List (List ℕ))) → before.incoming ≡ Some incoming → incoming ≡ stream ++ rest → IsReceiverDeal deal → IsStreamFor deal count lists stream
    → IsReady contents before (receive_rest words xs deal slots)
session_ready words contents before incoming xs deal slots stream rest count lists told begins is honest = (
  incoming,
  stream,
  told,
  ap (receiver_dialogue deal (placed_of xs slots)).reads_as begins ∙ (hears_streams deal (placed_of xs slots) count lists stream is honest).reads rest,
  tt,
)

set_is_ready : (words : List (List ℕ)) (files : Files) (before : Outside) (incoming : List ℕ) (can : CanReceive words files incoming)
    → before.incoming ≡ Some incoming
    → IsReady (told (Some files) words) before (places 2 (placing_of can.deal (items_of can.x_bytes)) (λ slots. receive_rest words (items_of can.x_bytes) can.deal slots))
unfolding placing_of
set_is_ready words files before incoming can coming = (
  (can.slots, can.placement),
  λ slots is. session_ready words (told (Some files) words) before incoming (items_of can.x_bytes) can.deal slots can.stream can.rest can.count can.lists coming can.begins can.deal_is can.honest,
)

deal_is_ready : (words : List (List ℕ)) (files : Files) (before : Outside) (incoming : List ℕ) (can : CanReceive words files incoming)
    → before.incoming ≡ Some incoming
    → IsReady (told (Some files) words) before
    (reads_receiver 3 (λ deal. places 2 (placing_of deal (items_of can.x_bytes)) (λ slots. receive_rest words (items_of can.x_bytes) deal slots)))
unfolding reads_file
deal_is_ready words files before incoming can coming = (
  receiver_bytes can.deal,
  is_there files words 3 (receiver_bytes can.deal) can.r_there,
  receiver_file_is_short can.deal can.deal_is,
  ready_on (told (Some files) words) before (receiver_in 3 (receiver_bytes can.deal)) can.deal
      (λ deal. places 2 (placing_of deal (items_of can.x_bytes)) (λ slots. receive_rest words (items_of can.x_bytes) deal slots)) (receiver_ready 3 can.deal can.deal_is)
      (set_is_ready words files before incoming can coming),
)

receive_is_ready : (words : List (List ℕ)) (files : Files) (before : Outside) (incoming : List ℕ) (can : CanReceive words files incoming)
    → before.incoming ≡ Some incoming → IsReady (told (Some files) words) before (receive_tree words)
unfolding reads_file
receive_is_ready words files before incoming can coming = (
  can.x_bytes,
  is_there files words 2 can.x_bytes can.x_there,
  can.x_short,
  ready_on (told (Some files) words) before (items_in 2 can.x_bytes) (items_of can.x_bytes)
      (λ xs. reads_receiver 3 (λ deal. places 2 (placing_of deal xs) (λ slots. receive_rest words xs deal slots))) (items_ready words can.x_bytes 2 can.x_good)
      (deal_is_ready words files before incoming can coming),
)

-- ---- in its own words

pub receive_answers : (known : Known) (words : List (List ℕ)) (before : Outside) (end : End) → Runs known words (receive_tree words) before end → ReceiveAnswers known words before end.placed end.status end.left
receive_answers known words before end h =
    of_first known words before end.placed end.status end.left
    (λ done. subst (λ (x : Status). ReceiveAnswers known words before end.placed x end.left) (sym done) (receive_leaves known words before end (follows_leaves known words false (receive_tree words) before end done h)))
    (answered_items known words 2 (λ xs. reads_receiver 3 (λ deal. places 2 (placing_of deal xs) (λ slots. receive_rest words xs deal slots))) before end.placed end.status end.left
    (follows_answers known words false (receive_tree words) before end h))

pub receive_serves : (known : Known) (words : List (List ℕ)) (before : Outside) (end : End) → Runs known words (receive_tree words) before end → ReceiveServes words before end
receive_serves known words before end h = λ files incoming is coming can calm.
    runs_through known words false (receive_tree words) before end h (ready_told files words before (receive_tree words) is (receive_is_ready words files before incoming can coming)) calm
