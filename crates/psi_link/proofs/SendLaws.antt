-- The promises of `send` in its own words.
use Rattle.std.proofs.Common.{◌≡◌, ◌≤◌, ◌⊎◌, inl, inr, ℕ, true, false, List, [], ◌++◌, length, Option, Some, None, option_map, take, Err, slice_get, refl, sym, ap, ◌∙◌, subst, arith}
use Rattle.std.proofs.lemmas.Bool.{true≢false}
use Rattle.std.proofs.lemmas.List.{append-nil}
use Rattle.psi_spec.specs.DealFiles.{sender_bytes}
use Rattle.psi_spec.specs.Deals.{SenderDeal, IsSenderDeal, sender_columns}
use Rattle.psi_spec.specs.Frames.{layout, sender_hello}
use Rattle.psi_spec.specs.Items.{items_of}
use Rattle.psi_spec.specs.Limits.{file_limit, rows_for}
use Rattle.psi_spec.specs.Placement.{Slot}
use Rattle.psi_base.specs.Outside.{Known, Outside, Files, Starved}
use Rattle.psi_frames.specs.declared.expect.Expect.TheVariants as expect
use Rattle.psi_frames.specs.declared.turns.EndFault.TheVariants as peer
use Rattle.psi_frames.specs.Dialogue.{ReadSo, Talks, WereTaken, good, talked}
use Rattle.psi_frames.proofs.Scripts.{owed-begun}
use Rattle.psi_frames.specs.Script.{sends}
use Rattle.psi_sender.specs.Script.{count_in, opens_columns}
use Rattle.psi_sender.specs.Laws.{IsStreamFor, sender_dialogue}
use Rattle.psi_sender.proofs.Serving.{serves_nothing_else, serves_streams}
use Rattle.psi_walk.specs.Files.{items_in, reads_file, reads_sender, sender_in}
use Rattle.psi_walk.specs.JudgedFiles.{HasItems, HasSenderDeal}
use Rattle.psi_walk.specs.Promises.{IsAnswered, IsNotTalked, IsOfEnd, IsReady, IsSilent, IsUnopened, IsUnread, Leaves}
use Rattle.psi_link.specs.Send.{receiver_link, send_rest, send_tree}
use Rattle.psi_link.specs.SendPromises.{CanServe, IsEarlyOrCounted, SendAnswers, Served, WithFiles, listening, SendPromise}
use Rattle.psi_walk.specs.Tree.{Effect, talks, holds, ends, End}
use Rattle.psi_texts.specs.declared.status.Status.{Status}
use Rattle.psi_texts.specs.declared.status.Status.TheVariants as status
use Rattle.psi_walk.specs.Due.{Contents, told}
use Rattle.psi_walk.proofs.Answered.{follows_answers}
use Rattle.psi_walk.proofs.JudgedFiles.{AtFile, unread, wanting, refused, taken_on, answered_items, answered_sender, has_bad_line, has_bad_sender, has_items, has_sender, items_bad, left_items, left_sender, sender_bad, sender_deal_of}
use Rattle.psi_walk.proofs.Ready.{is_there, items_ready, ready_on, ready_told, sender_file_is_short, sender_ready}
use Rattle.psi_walk.proofs.Unplaced.{PlacesNone, items_place_none, none_is_placed, sender_places_none}
use Rattle.psi_walk.specs.Inputs.{AfterItems}
use Rattle.psi_walk.specs.Walk.{Runs}
use Rattle.psi_walk.proofs.Left.{follows_leaves}
use Rattle.psi_walk.proofs.Through.{runs_through}
use Rattle.psi_walk.proofs.Wired.{MayBeWired, ends_wired, items_wired, runs_unwired, sender_wired}
use Rattle.psi_walk.specs.Command.{Keeps}
use Rattle.psi_link.specs.Commands.{command_send}

-- ---- the session

-- a session that read well took a receiver's stream, and sent the sender's for it
served_well : (known : Known) (words : List (List ℕ)) (before : Outside) (ys : List (List ℕ)) (deal : SenderDeal) (taken : List ℕ) (after : Outside) → IsSenderDeal deal
    → WereTaken known before.incoming taken → ReadSo (sender_dialogue deal ys) before.incoming taken (good taken)
    → after ≡ talked (listening words before) ((sender_dialogue deal ys).owes taken) taken → Served known words before ys deal after
served_well known words before ys deal taken after is were read left =
    let stream = serves_nothing_else deal ys taken taken is were.are_bytes read.taken_so_far in
    let serves = serves_streams deal ys stream.0 stream.1 taken is stream.2 in
    record {
      count = stream.0;
      columns = stream.1;
      taken = taken;
      stream = stream.2;
      were_taken = were;
      left = left ∙ ap (λ (bytes : List ℕ). talked (listening words before) bytes taken) serves.sends;
    }

send_leaves : (known : Known) (words : List (List ℕ)) (before : Outside) (end : End) → Leaves known words (send_tree words) before end
    → WithFiles known words before (λ ys deal. Served known words before ys deal end.left)
send_leaves known words before end h =
    let y = left_items known words 2 (λ ys. reads_sender 3 (λ deal. send_rest words ys deal)) before end h in
    let s = left_sender known words 3 (λ deal. send_rest words y.0 deal) before end y.2 in
    let session = s.2 in
    record {
      ys = y.0;
      deal = s.0;
      y_file = y.1;
      s_file = s.1;
      fact = served_well known words before y.0 s.0 session.0 end.left (sender_deal_of known words before 3 s.0 s.1) session.1 session.2 (ap (λ (d : End). d.left) session.3);
    }

-- ---- what `send` may answer

first_unread : (known : Known) (words : List (List ℕ)) (before : Outside) (why : Status) (after : Outside) → IsUnread known words 2 file_limit why → IsSilent before after
    → SendAnswers known words before why after
first_unread known words before (status.FileFault place) after h quiet = (inl h.0, h.1, quiet)
first_unread known words before (status.TooLong place taken) after h quiet = (inl h.0, h.1, quiet)
first_unread known words before status.NoMemory after h quiet = (inl quiet.outgoing, inl quiet)
first_unread known words before _ after h quiet = absurd h

second_unread : (known : Known) (words : List (List ℕ)) (before : Outside) → AfterItems known words before 2 → (why : Status) (after : Outside)
    → IsUnread known words 3 file_limit why → IsSilent before after → SendAnswers known words before why after
second_unread known words before items (status.FileFault place) after h quiet = (inr (h.0, items), h.1, quiet)
second_unread known words before items (status.TooLong place taken) after h quiet = (inr (h.0, items), h.1, quiet)
second_unread known words before items status.NoMemory after h quiet = (inl quiet.outgoing, inl quiet)
second_unread known words before items _ after h quiet = absurd h

wanted : (known : Known) (words : List (List ℕ)) (before : Outside) (why : Status) (after : Outside) → why ≡ status.NoMemory → IsSilent before after
    → SendAnswers known words before why after
wanted known words before why after s quiet = subst (λ (x : Status). SendAnswers known words before x after) (sym s) (inl quiet.outgoing, inl quiet)

-- a sender owes nothing before a byte came, so memory is wanting only before it sent any
owes_none : (deal : SenderDeal) (ys : List (List ℕ)) → (sender_dialogue deal ys).owes [] ≡ []
unfolding sender_dialogue
owes_none deal ys =
    owed-begun (expect.ReceiverHello deal.id deal.session)
    (λ hello. sends (layout (sender_hello deal.id deal.session (length ys)))
    (opens_columns deal ys (count_in hello) [] (sender_columns deal (rows_for deal.stash (count_in hello))))) [] (omega arith)

sent_none : (gone : Option (List ℕ)) (bytes : List ℕ) (n : ℕ) → n ≤ 0 → option_map (λ (xs : List ℕ). xs ++ take n bytes) gone ≡ gone
sent_none None bytes n none = refl
sent_none (Some xs) bytes n none =
    let zero : n ≡ 0 = omega arith in ap Some (ap (λ (k : ℕ). xs ++ take k bytes) zero ∙ append-nil xs)

early_or_counted : (known : Known) (words : List (List ℕ)) (before : Outside) (ys : List (List ℕ)) (deal : SenderDeal) (after : Outside)
    → Talks known (sender_dialogue deal ys) (listening words before) (Err peer.NoMemory) after → IsEarlyOrCounted before after
early_or_counted known words before ys deal after h = by_why h.why
  where
    by_why : Starved (talked (listening words before) (take h.sent ((sender_dialogue deal ys).owes h.taken)) h.taken) after
        ⊎ ((h.sent ≤ length ((sender_dialogue deal ys).owes [])) × (after ≡ talked (listening words before) (take h.sent ((sender_dialogue deal ys).owes h.taken)) h.taken))
        → IsEarlyOrCounted before after
    by_why (inl starved) = inr starved.rose
    by_why (inr early) =
        inl (ap (λ (o : Outside). o.outgoing) early.1
        ∙ sent_none before.outgoing ((sender_dialogue deal ys).owes h.taken) h.sent (subst (λ (xs : List ℕ). h.sent ≤ length xs) (owes_none deal ys) early.0))

of_session : (known : Known) (words : List (List ℕ)) (before : Outside) (ys : List (List ℕ)) (deal : SenderDeal)
    → HasItems known words before 2 ys → HasSenderDeal known words before 3 deal → (why : Status) (after : Outside)
    → IsNotTalked known (sender_dialogue deal ys) (listening words before) why after → SendAnswers known words before why after
of_session known words before ys deal y_file s_file (status.BadFrame frame) after h = record { ys = ys; deal = deal; y_file = y_file; s_file = s_file; fact = h }
of_session known words before ys deal y_file s_file (status.PeerEnded offset) after h = record { ys = ys; deal = deal; y_file = y_file; s_file = s_file; fact = h }
of_session known words before ys deal y_file s_file status.LinkFault after h = record { ys = ys; deal = deal; y_file = y_file; s_file = s_file; fact = inr h }
of_session known words before ys deal y_file s_file status.NoMemory after (inl e) =
    let quiet : IsSilent (listening words before) after =
    subst (λ (o : Outside). IsSilent (listening words before) o) (sym e) (record { incoming = refl; outgoing = refl; opened = refl }) in
    (inl quiet.outgoing, inr (record { ys = ys; deal = deal; y_file = y_file; s_file = s_file; fact = inl quiet }))
of_session known words before ys deal y_file s_file status.NoMemory after (inr h) =
    (early_or_counted known words before ys deal after h, inr (record { ys = ys; deal = deal; y_file = y_file; s_file = s_file; fact = inr h }))
of_session known words before ys deal y_file s_file _ after h = absurd h

-- once the session is done, so is the run
none_there : (at : ℕ) (effect : Effect) → slice_get [] at ≡ Some effect → ⊥
none_there at effect e = cc e

of_end : (known : Known) (words : List (List ℕ)) (before : Outside) (why : Status) (after : Outside)
    → (why ≡ status.Done → SendAnswers known words before why after) → IsOfEnd known words true why [] → SendAnswers known words before why after
of_end known words before status.Done after done h = done refl
of_end known words before status.NoMemory after done (inl e) = absurd (true≢false e)
of_end known words before status.NoMemory after done (inr h) = absurd (none_there h.0 h.1 h.2)
of_end known words before _ after done h = absurd (none_there h.0 h.1 h.2)

of_talk : (known : Known) (words : List (List ℕ)) (before : Outside) (ys : List (List ℕ)) (deal : SenderDeal)
    → HasItems known words before 2 ys → HasSenderDeal known words before 3 deal → (slots : List (List Slot)) (why : Status) (after : Outside)
    → (why ≡ status.Done → SendAnswers known words before why after)
    → IsAnswered known words false (talks (sender_dialogue deal ys) (λ taken. holds (ends None []))) (listening words before) slots why after → SendAnswers known words before why after
of_talk known words before ys deal y_file s_file slots why after done (inl h) = of_session known words before ys deal y_file s_file why after h.0
of_talk known words before ys deal y_file s_file slots why after done (inr h) = of_end known words before why after done h.3.0

unopened_answers : (known : Known) (words : List (List ℕ)) (before : Outside) (ys : List (List ℕ)) (deal : SenderDeal)
    → HasItems known words before 2 ys → HasSenderDeal known words before 3 deal → (why : Status) (after : Outside)
    → IsUnopened known (receiver_link words) why → IsSilent before after → SendAnswers known words before why after
unopened_answers known words before ys deal y_file s_file status.LinkFault after h quiet = record { ys = ys; deal = deal; y_file = y_file; s_file = s_file; fact = inl (h, quiet) }
unopened_answers known words before ys deal y_file s_file status.NoMemory after h quiet = (inl quiet.outgoing, inl quiet)
unopened_answers known words before ys deal y_file s_file _ after h quiet = absurd h

of_rest : (known : Known) (words : List (List ℕ)) (before : Outside) (ys : List (List ℕ)) (deal : SenderDeal)
    → HasItems known words before 2 ys → HasSenderDeal known words before 3 deal → (slots : List (List Slot)) (why : Status) (after : Outside)
    → (why ≡ status.Done → SendAnswers known words before why after)
    → IsAnswered known words false (send_rest words ys deal) before slots why after → SendAnswers known words before why after
of_rest known words before ys deal y_file s_file slots why after done (inl h) = unopened_answers known words before ys deal y_file s_file why after h.0 h.1
of_rest known words before ys deal y_file s_file slots why after done (inr h) = of_talk known words before ys deal y_file s_file slots why after done h

of_second : (known : Known) (words : List (List ℕ)) (before : Outside) (ys : List (List ℕ)) → HasItems known words before 2 ys → (slots : List (List Slot)) (why : Status) (after : Outside)
    → (why ≡ status.Done → SendAnswers known words before why after)
    → AtFile known words before 3 file_limit (sender_in 3) slots why after (λ deal. IsAnswered known words false (send_rest words ys deal) before slots why after) → SendAnswers known words before why after
of_second known words before ys y_file slots why after done (unread h quiet none) = second_unread known words before (ys, y_file) why after h quiet
of_second known words before ys y_file slots why after done (wanting s quiet none) = wanted known words before why after s quiet
of_second known words before ys y_file slots why after done (refused bytes read e quiet none) =
    let bad = sender_bad 3 bytes why e in
    subst (λ (x : Status). SendAnswers known words before x after) (sym bad.2)
    (refl, (ys, y_file), has_bad_sender known words before 3 bytes bad.0 read bad.1, quiet)
of_second known words before ys y_file slots why after done (taken_on bytes deal read e a) =
    of_rest known words before ys deal y_file (has_sender known words before 3 bytes deal read e) slots why after done a

of_first : (known : Known) (words : List (List ℕ)) (before : Outside) (slots : List (List Slot)) (why : Status) (after : Outside) → (why ≡ status.Done → SendAnswers known words before why after)
    → AtFile known words before 2 file_limit (items_in 2) slots why after (λ ys. IsAnswered known words false (reads_sender 3 (λ deal. send_rest words ys deal)) before slots why after)
    → SendAnswers known words before why after
of_first known words before slots why after done (unread h quiet none) = first_unread known words before why after h quiet
of_first known words before slots why after done (wanting s quiet none) = wanted known words before why after s quiet
of_first known words before slots why after done (refused bytes read e quiet none) =
    let bad = items_bad 2 bytes why e in
    subst (λ (x : Status). SendAnswers known words before x after) (sym bad.2) (refl, has_bad_line known words before 2 bytes bad.0 read bad.1, quiet)
of_first known words before slots why after done (taken_on bytes ys read e a) =
    of_second known words before ys (has_items known words before 2 bytes ys read e) slots why after done
    (answered_sender known words 3 (λ deal. send_rest words ys deal) before slots why after a)

send_places_none : (words : List (List ℕ)) → PlacesNone (send_tree words)
unfolding PlacesNone
send_places_none words =
    items_place_none 2 (λ ys. reads_sender 3 (λ deal. send_rest words ys deal)) (λ ys. sender_places_none 3 (λ deal. send_rest words ys deal) (λ deal. λ taken. tt))

-- ---- an honest peer is served

session_ready : (words : List (List ℕ)) (contents : Option Contents) (before : Outside) (incoming : List ℕ) (ys : List (List ℕ)) (deal : SenderDeal) (stream rest : List ℕ)
    (count : ℕ) (columns : List (List ℕ)) → before.incoming ≡ Some incoming → incoming ≡ stream ++ rest → IsSenderDeal deal → IsStreamFor deal count columns stream
    → IsReady contents before (send_rest words ys deal)
session_ready words contents before incoming ys deal stream rest count columns told begins is honest =
    (incoming, stream, told, ap (sender_dialogue deal ys).reads_as begins ∙ (serves_streams deal ys count columns stream is honest).reads rest, tt)

sender_is_ready : (words : List (List ℕ)) (files : Files) (before : Outside) (incoming : List ℕ) (ys : List (List ℕ)) (can : CanServe words files incoming)
    → before.incoming ≡ Some incoming → IsReady (told (Some files) words) before (reads_sender 3 (λ deal. send_rest words ys deal))
unfolding reads_file
sender_is_ready words files before incoming ys can coming = (
  sender_bytes can.deal,
  is_there files words 3 (sender_bytes can.deal) can.s_there,
  sender_file_is_short can.deal can.deal_is,
  ready_on (told (Some files) words) before (sender_in 3 (sender_bytes can.deal)) can.deal (λ deal. send_rest words ys deal) (sender_ready 3 can.deal can.deal_is)
      (session_ready words (told (Some files) words) before incoming ys can.deal can.stream can.rest can.count can.columns coming can.begins can.deal_is can.honest),
)

send_is_ready : (words : List (List ℕ)) (files : Files) (before : Outside) (incoming : List ℕ) (can : CanServe words files incoming)
    → before.incoming ≡ Some incoming → IsReady (told (Some files) words) before (send_tree words)
unfolding reads_file
send_is_ready words files before incoming can coming = (
  can.y_bytes,
  is_there files words 2 can.y_bytes can.y_there,
  can.y_short,
  ready_on (told (Some files) words) before (items_in 2 can.y_bytes) (items_of can.y_bytes) (λ ys. reads_sender 3 (λ deal. send_rest words ys deal))
      (items_ready words can.y_bytes 2 can.y_good) (sender_is_ready words files before incoming (items_of can.y_bytes) can coming),
)

-- ---- all that `send` promises

send_unwired : (words : List (List ℕ)) → MayBeWired false (send_tree words)
unfolding MayBeWired
send_unwired words = items_wired false 2 _ (λ ys. sender_wired false 3 (λ deal. send_rest words ys deal) (λ deal taken. ends_wired false []))

send_answers : (known : Known) (words : List (List ℕ)) (before : Outside) (end : End) → Runs known words (send_tree words) before end → SendAnswers known words before end.status end.left
send_answers known words before end h =
    of_first known words before end.placed end.status end.left
    (λ done. subst (λ (x : Status). SendAnswers known words before x end.left) (sym done) (send_leaves known words before end (follows_leaves known words false (send_tree words) before end done h)))
    (answered_items known words 2 (λ ys. reads_sender 3 (λ deal. send_rest words ys deal)) before end.placed end.status end.left
    (follows_answers known words false (send_tree words) before end h))

send_promise : (known : Known) (words : List (List ℕ)) (before : Outside) (end : End) → Runs known words (send_tree words) before end → SendPromise known words before end
send_promise known words before end h = record {
  answers = send_answers known words before end h;
  places_none = none_is_placed known words false (send_tree words) before end.placed end.status end.left (send_places_none words)
      (follows_answers known words false (send_tree words) before end h);
  serves = λ files incoming is coming can calm.
      runs_through known words false (send_tree words) before end h (ready_told files words before (send_tree words) is (send_is_ready words files before incoming can coming)) calm;
}

pub send_keeps : (known : Known) (words : List (List ℕ)) (before : Outside) (end : End) → Runs known words (send_tree words) before end
    → Keeps command_send known words before end
send_keeps known words before end h = record { promise = send_promise known words before end h; wire = runs_unwired known words (send_tree words) before end (send_unwired words) h }
