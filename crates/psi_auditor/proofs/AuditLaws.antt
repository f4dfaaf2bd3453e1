-- The promises of `audit` in its own words.
use Rattle.std.proofs.Common.{◌≡◌, ◌<◌, inl, inr, ℕ, false, List, [], ◌∷◌, length, Some, None, Ok, Err, slice_get, refl, sym, ap, ◌∙◌, subst, arith, zero, suc}
use Rattle.std.specs.declared.result.Result.{Result}
use Rattle.psi_spec.specs.DealFiles.{receiver_bytes, sender_bytes}
use Rattle.psi_spec.specs.Deals.{ReceiverDeal, SenderDeal}
use Rattle.psi_spec.specs.Items.{items_of}
use Rattle.psi_spec.specs.Limits.{file_limit, record_limit}
use Rattle.psi_spec.specs.Placement.{Slot}
use Rattle.psi_spec.specs.Records.{IsLogged, LoggedSession, logged_of}
use Rattle.psi_spec.proofs.DealFiles.{length-receiver_bytes, length-sender_bytes}
use Rattle.psi_spec.proofs.Records.{record_found}
use Rattle.psi_log.proofs.Faultless.{parts_from_none}
use Rattle.psi_base.specs.Outside.{Known, Outside, Files, printed_too}
use Rattle.psi_log.specs.BadRecords.{bad_record}
use Rattle.psi_auditor.specs.Audit.{audit_record, audit_session, audit_text, audit_tree, findings_of}
use Rattle.psi_auditor.specs.AuditPromises.{AuditAnswers, CanAudit, Evidence, HasEvidence, IsConsistent, IsDueFile, findings_in, limit_of, AuditPromise}
use Rattle.psi_walk.specs.Due.{told}
use Rattle.psi_walk.specs.Files.{items_in, reads_file, reads_items, reads_receiver, reads_record, reads_sender, receiver_in, record_in, sender_in}
use Rattle.psi_walk.specs.JudgedFiles.{HasItems, HasReceiverDeal, HasRecord, HasSenderDeal}
use Rattle.psi_walk.specs.Promises.{IsAnswered, IsFailedEffect, IsOfEnd, IsReady, IsSilent, IsUnread, Leaves}
use Rattle.psi_walk.specs.Tree.{Effect, says, decides, ends, End}
use Rattle.psi_auditor.specs.declared.findings.Findings.{Findings}
use Rattle.psi_texts.specs.declared.status.Status.{Status}
use Rattle.psi_texts.specs.declared.status.Status.TheVariants as status
use Rattle.psi_walk.proofs.Answered.{follows_answers}
use Rattle.psi_walk.proofs.JudgedFiles.{AtFile, unread, wanting, refused, taken_on, answered_items, answered_receiver, answered_record, answered_sender, has_bad_line, has_bad_receiver, has_bad_record, has_bad_sender, has_items, has_receiver, has_record, has_sender, items_bad, left_decides, left_items, left_receiver, left_record, left_sender, receiver_bad, record_bad, sender_bad, receiver_deal_of, sender_deal_of}
use Rattle.psi_walk.proofs.Ready.{is_there, items_ready, ready_on, ready_told, receiver_ready, sender_ready}
use Rattle.psi_walk.proofs.Unplaced.{PlacesNone, decides_none, items_place_none, none_is_placed, sender_places_none}
use Rattle.psi_auditor.proofs.Verdicts.{Says, consistent_is_found, evidence_says}
use Rattle.psi_walk.specs.Walk.{Runs}
use Rattle.psi_walk.proofs.Left.{follows_leaves}
use Rattle.psi_walk.proofs.Through.{runs_through}
use Rattle.psi_walk.proofs.Wired.{MayBeWired, decides_wired, ends_wired, items_wired, receiver_wired, record_wired, runs_unwired, sender_wired}
use Rattle.psi_walk.specs.Command.{Keeps}
use Rattle.psi_auditor.specs.Commands.{command_audit}

-- ---- what was read

-- the lists and the deals were read and judged
record HasInputs (known : Known) (words : List (List ℕ)) (before : Outside) (xs ys : List (List ℕ)) (receiver : ReceiverDeal) (sender : SenderDeal) : Type 0 where
  x_file : HasItems known words before 1 xs
  y_file : HasItems known words before 2 ys
  r_file : HasReceiverDeal known words before 3 receiver
  s_file : HasSenderDeal known words before 4 sender

-- what they and the record hold
evidence : List (List ℕ) → List (List ℕ) → ReceiverDeal → SenderDeal → LoggedSession → Evidence
evidence xs ys receiver sender log = record { xs = xs; ys = ys; receiver = receiver; sender = sender; log = log }

has_evidence : (known : Known) (words : List (List ℕ)) (before : Outside) (xs ys : List (List ℕ)) (receiver : ReceiverDeal) (sender : SenderDeal) (log : LoggedSession)
    → HasInputs known words before xs ys receiver sender → HasRecord known words before 5 log → HasEvidence known words before (evidence xs ys receiver sender log)
unfolding evidence
has_evidence known words before xs ys receiver sender log has log_file =
    record { x_file = has.x_file; y_file = has.y_file; r_file = has.r_file; s_file = has.s_file; log_file = log_file }

-- what a record file holds fits its fields
is_logged : (known : Known) (words : List (List ℕ)) (before : Outside) (word : ℕ) (log : LoggedSession) → HasRecord known words before word log → IsLogged log
is_logged known words before word log h = subst IsLogged (sym h.spelled) (record_found h.bytes h.read.are_bytes (parts_from_none h.bytes h.good)).0

-- what the verdict says of them
inputs_say : (known : Known) (words : List (List ℕ)) (before : Outside) (xs ys : List (List ℕ)) (receiver : ReceiverDeal) (sender : SenderDeal) (log : LoggedSession)
    → HasInputs known words before xs ys receiver sender → HasRecord known words before 5 log → Says (evidence xs ys receiver sender log) (findings_of receiver sender xs ys log)
unfolding evidence
inputs_say known words before xs ys receiver sender log has log_file =
    evidence_says (evidence xs ys receiver sender log) (receiver_deal_of known words before 3 receiver has.r_file) (sender_deal_of known words before 4 sender has.s_file)
    (is_logged known words before 5 log log_file)

-- what a verdict finds, it says
says_found : (e : Evidence) (r : Result Findings Status) (found : Findings) → r ≡ Ok found → Says e r → IsConsistent e × (found ≡ findings_in e)
says_found e r found is h = subst (Says e) is h

-- ---- what a run that is done left

session_leaves : (known : Known) (words : List (List ℕ)) (before : Outside) (xs ys : List (List ℕ)) (receiver : ReceiverDeal) (sender : SenderDeal) (log : LoggedSession) (end : End)
    → HasInputs known words before xs ys receiver sender → HasRecord known words before 5 log → Leaves known words (audit_session receiver sender xs ys log) before end
    → AuditAnswers known words before status.Done end.left
unfolding evidence
session_leaves known words before xs ys receiver sender log end has log_file h =
    let e : Evidence = evidence xs ys receiver sender log in
    let judged = left_decides known words (findings_of receiver sender xs ys log) (λ (found : Findings). ends None (says (audit_text (length found.shown) found.collisions) ∷ [])) before end h in
    let said = says_found e (findings_of receiver sender xs ys log) judged.0 judged.1 (inputs_say known words before xs ys receiver sender log has log_file) in (
      e,
      has_evidence known words before xs ys receiver sender log has log_file,
      (said.0, ap (λ (d : End). d.left) judged.2 ∙ ap (λ (found : Findings). printed_too before (audit_text (length found.shown) found.collisions)) said.1),
    )

audit_leaves : (known : Known) (words : List (List ℕ)) (before : Outside) (end : End) → Leaves known words audit_tree before end → AuditAnswers known words before status.Done end.left
audit_leaves known words before end h =
    let x = left_items known words 1 (λ xs. reads_items 2 (λ ys. reads_receiver 3 (λ receiver. reads_sender 4 (λ sender. audit_record receiver sender xs ys)))) before end h in
    let y = left_items known words 2 (λ ys. reads_receiver 3 (λ receiver. reads_sender 4 (λ sender. audit_record receiver sender x.0 ys))) before end x.2 in
    let r = left_receiver known words 3 (λ receiver. reads_sender 4 (λ sender. audit_record receiver sender x.0 y.0)) before end y.2 in
    let s = left_sender known words 4 (λ sender. audit_record r.0 sender x.0 y.0) before end r.2 in
    let log = left_record known words 5 (λ log. audit_session r.0 s.0 x.0 y.0 log) before end s.2 in
    session_leaves known words before x.0 y.0 r.0 s.0 log.0 end (record { x_file = x.1; y_file = y.1; r_file = r.1; s_file = s.1 }) log.1 log.2

-- ---- what `audit` may answer

Answered : Known → List (List ℕ) → Outside → Status → Outside → Type 0
Answered known words before why after = AuditAnswers known words before why after × IsSilent before after

wanted : (known : Known) (words : List (List ℕ)) (before : Outside) (why : Status) (after : Outside) → why ≡ status.NoMemory → IsSilent before after → Answered known words before why after
unfolding Answered
wanted known words before why after s quiet = subst (λ (x : Status). AuditAnswers known words before x after × IsSilent before after) (sym s) (tt, quiet)

-- a file that was due was not read
not_read : (known : Known) (words : List (List ℕ)) (before : Outside) (word limit : ℕ) → IsDueFile known words before word → limit ≡ limit_of word
    → (why : Status) (after : Outside) → IsUnread known words word limit why → AuditAnswers known words before why after
not_read known words before word limit due is (status.FileFault place) after h = (subst (λ (w : ℕ). IsDueFile known words before w) (sym h.0) due, h.1)
not_read known words before word limit due is (status.TooLong place taken) after h = (
  subst (λ (w : ℕ). IsDueFile known words before w) (sym h.0) due,
  subst (λ (n : ℕ). n < taken) (is ∙ ap limit_of (sym h.0)) h.1,
)
not_read known words before word limit due is status.NoMemory after h = tt
not_read known words before word limit due is _ after h = absurd h

-- the text is all that is printed at the end
of_end : (known : Known) (words : List (List ℕ)) (before : Outside) (text : List ℕ) (e : Evidence) → HasEvidence known words before e → IsConsistent e
    → (why : Status) (after : Outside) → (why ≡ status.Done → AuditAnswers known words before why after) → IsOfEnd known words false why (says text ∷ [])
    → AuditAnswers known words before why after
of_end known words before text e has is status.Done after done h = done refl
of_end known words before text e has is status.NoMemory after done h = tt
of_end known words before text e has is status.PrintFault after done h = (e, has, is)
of_end known words before text e has is (status.FileFault place) after done h = absurd (no_file h.0 h.1 h.2 h.3)
  where
    no_file : (at : ℕ) (effect : Effect) → slice_get (says text ∷ []) at ≡ Some effect → IsFailedEffect known words (status.FileFault place) effect → ⊥
    no_file zero effect e f = let same : effect ≡ says text = cc e in let g : IsFailedEffect known words (status.FileFault place) (says text) = subst (IsFailedEffect known words (status.FileFault place)) same f in g
    no_file (suc at) effect e f = cc e
of_end known words before text e has is _ after done h = absurd h.3

of_verdict : (known : Known) (words : List (List ℕ)) (before : Outside) (e : Evidence) → HasEvidence known words before e → (r : Result Findings Status) → Says e r
    → (slots : List (List Slot)) (why : Status) (after : Outside) → (why ≡ status.Done → AuditAnswers known words before why after)
    → IsAnswered known words false (decides r (λ found. ends None (says (audit_text (length found.shown) found.collisions) ∷ []))) before slots why after
    → Answered known words before why after
unfolding Answered decides
of_verdict known words before e has (Ok found) says_so slots why after done a =
    (of_end known words before (audit_text (length found.shown) found.collisions) e has says_so.0 why after done a.0, a.1)
of_verdict known words before e has (Err verdict) says_so slots why after done (inl s, quiet, none) = wanted known words before why after s quiet
of_verdict known words before e has (Err verdict) says_so slots why after done (inr s, quiet, none) =
    (subst (λ (x : Status). AuditAnswers known words before x after) (sym s.0) (by_status verdict says_so), quiet)
  where
    by_status : (v : Status) → Says e (Err v) → AuditAnswers known words before v after
    by_status (status.DealsDiffer field) h = (e, has, h)
    by_status (status.BadSlots fault) h = (e, has, h)
    by_status (status.Differs offset found wanted) h = (e, has, h)
    by_status _ h = absurd h

of_record : (known : Known) (words : List (List ℕ)) (before : Outside) (xs ys : List (List ℕ)) (receiver : ReceiverDeal) (sender : SenderDeal)
    → HasInputs known words before xs ys receiver sender → (slots : List (List Slot)) (why : Status) (after : Outside) → (why ≡ status.Done → AuditAnswers known words before why after)
    → AtFile known words before 5 record_limit record_in slots why after (λ log. IsAnswered known words false (audit_session receiver sender xs ys log) before slots why after)
    → Answered known words before why after
unfolding Answered evidence
of_record known words before xs ys receiver sender has slots why after done (unread h quiet none) =
    (not_read known words before 5 record_limit (inr (inr (inr (inr (refl, ((((xs, has.x_file), (ys, has.y_file)), (receiver, has.r_file)), (sender, has.s_file))))))) refl why after h, quiet)
of_record known words before xs ys receiver sender has slots why after done (wanting s quiet none) = wanted known words before why after s quiet
of_record known words before xs ys receiver sender has slots why after done (refused bytes read e quiet none) =
    let bad = record_bad bytes why e in (
      subst (λ (x : Status). AuditAnswers known words before x after) (sym bad.2)
          (((((xs, has.x_file), (ys, has.y_file)), (receiver, has.r_file)), (sender, has.s_file)), has_bad_record known words before 5 bytes bad.0 read bad.1),
      quiet,
    )
of_record known words before xs ys receiver sender has slots why after done (taken_on bytes log read e a) =
    let log_file = has_record known words before 5 bytes log read e in
    of_verdict known words before (evidence xs ys receiver sender log) (has_evidence known words before xs ys receiver sender log has log_file) (findings_of receiver sender xs ys log)
    (inputs_say known words before xs ys receiver sender log has log_file) slots why after done a

of_sender : (known : Known) (words : List (List ℕ)) (before : Outside) (xs ys : List (List ℕ)) (receiver : ReceiverDeal)
    → HasItems known words before 1 xs → HasItems known words before 2 ys → HasReceiverDeal known words before 3 receiver
    → (slots : List (List Slot)) (why : Status) (after : Outside) → (why ≡ status.Done → AuditAnswers known words before why after)
    → AtFile known words before 4 file_limit (sender_in 4) slots why after (λ sender. IsAnswered known words false (audit_record receiver sender xs ys) before slots why after)
    → Answered known words before why after
unfolding Answered
of_sender known words before xs ys receiver x_file y_file r_file slots why after done (unread h quiet none) =
    (not_read known words before 4 file_limit (inr (inr (inr (inl (refl, (((xs, x_file), (ys, y_file)), (receiver, r_file))))))) refl why after h, quiet)
of_sender known words before xs ys receiver x_file y_file r_file slots why after done (wanting s quiet none) = wanted known words before why after s quiet
of_sender known words before xs ys receiver x_file y_file r_file slots why after done (refused bytes read e quiet none) =
    let bad = sender_bad 4 bytes why e in (
      subst (λ (x : Status). AuditAnswers known words before x after) (sym bad.2)
          (inr (refl, (((xs, x_file), (ys, y_file)), (receiver, r_file)), has_bad_sender known words before 4 bytes bad.0 read bad.1)),
      quiet,
    )
of_sender known words before xs ys receiver x_file y_file r_file slots why after done (taken_on bytes sender read e a) =
    of_record known words before xs ys receiver sender
    (record { x_file = x_file; y_file = y_file; r_file = r_file; s_file = has_sender known words before 4 bytes sender read e }) slots why after done
    (answered_record known words 5 (λ log. audit_session receiver sender xs ys log) before slots why after a)

of_receiver : (known : Known) (words : List (List ℕ)) (before : Outside) (xs ys : List (List ℕ)) → HasItems known words before 1 xs → HasItems known words before 2 ys
    → (slots : List (List Slot)) (why : Status) (after : Outside) → (why ≡ status.Done → AuditAnswers known words before why after)
    → AtFile known words before 3 file_limit (receiver_in 3) slots why after
    (λ receiver. IsAnswered known words false (reads_sender 4 (λ sender. audit_record receiver sender xs ys)) before slots why after)
    → Answered known words before why after
unfolding Answered
of_receiver known words before xs ys x_file y_file slots why after done (unread h quiet none) =
    (not_read known words before 3 file_limit (inr (inr (inl (refl, ((xs, x_file), (ys, y_file)))))) refl why after h, quiet)
of_receiver known words before xs ys x_file y_file slots why after done (wanting s quiet none) = wanted known words before why after s quiet
of_receiver known words before xs ys x_file y_file slots why after done (refused bytes read e quiet none) =
    let bad = receiver_bad 3 bytes why e in (
      subst (λ (x : Status). AuditAnswers known words before x after) (sym bad.2)
          (inl (refl, ((xs, x_file), (ys, y_file)), has_bad_receiver known words before 3 bytes bad.0 read bad.1)),
      quiet,
    )
of_receiver known words before xs ys x_file y_file slots why after done (taken_on bytes receiver read e a) =
    of_sender known words before xs ys receiver x_file y_file (has_receiver known words before 3 bytes receiver read e) slots why after done
    (answered_sender known words 4 (λ sender. audit_record receiver sender xs ys) before slots why after a)

of_second : (known : Known) (words : List (List ℕ)) (before : Outside) (xs : List (List ℕ)) → HasItems known words before 1 xs
    → (slots : List (List Slot)) (why : Status) (after : Outside) → (why ≡ status.Done → AuditAnswers known words before why after)
    → AtFile known words before 2 file_limit (items_in 2) slots why after
    (λ ys. IsAnswered known words false (reads_receiver 3 (λ receiver. reads_sender 4 (λ sender. audit_record receiver sender xs ys))) before slots why after)
    → Answered known words before why after
unfolding Answered
of_second known words before xs x_file slots why after done (unread h quiet none) =
    (not_read known words before 2 file_limit (inr (inl (refl, (xs, x_file)))) refl why after h, quiet)
of_second known words before xs x_file slots why after done (wanting s quiet none) = wanted known words before why after s quiet
of_second known words before xs x_file slots why after done (refused bytes read e quiet none) =
    let bad = items_bad 2 bytes why e in
    (subst (λ (x : Status). AuditAnswers known words before x after) (sym bad.2) (inr (xs, x_file, (refl, has_bad_line known words before 2 bytes bad.0 read bad.1))), quiet)
of_second known words before xs x_file slots why after done (taken_on bytes ys read e a) =
    of_receiver known words before xs ys x_file (has_items known words before 2 bytes ys read e) slots why after done
    (answered_receiver known words 3 (λ receiver. reads_sender 4 (λ sender. audit_record receiver sender xs ys)) before slots why after a)

of_first : (known : Known) (words : List (List ℕ)) (before : Outside) (slots : List (List Slot)) (why : Status) (after : Outside)
    → (why ≡ status.Done → AuditAnswers known words before why after)
    → AtFile known words before 1 file_limit (items_in 1) slots why after
    (λ xs. IsAnswered known words false (reads_items 2 (λ ys. reads_receiver 3 (λ receiver. reads_sender 4 (λ sender. audit_record receiver sender xs ys)))) before slots why after)
    → Answered known words before why after
unfolding Answered
of_first known words before slots why after done (unread h quiet none) = (not_read known words before 1 file_limit (inl refl) refl why after h, quiet)
of_first known words before slots why after done (wanting s quiet none) = wanted known words before why after s quiet
of_first known words before slots why after done (refused bytes read e quiet none) =
    let bad = items_bad 1 bytes why e in
    (subst (λ (x : Status). AuditAnswers known words before x after) (sym bad.2) (inl (refl, has_bad_line known words before 1 bytes bad.0 read bad.1)), quiet)
of_first known words before slots why after done (taken_on bytes xs read e a) =
    of_second known words before xs (has_items known words before 1 bytes xs read e) slots why after done
    (answered_items known words 2 (λ ys. reads_receiver 3 (λ receiver. reads_sender 4 (λ sender. audit_record receiver sender xs ys))) before slots why after a)

-- no set is placed
deals_place_none : (xs ys : List (List ℕ)) → PlacesNone (reads_receiver 3 (λ receiver. reads_sender 4 (λ sender. audit_record receiver sender xs ys)))
unfolding PlacesNone reads_file reads_record
deals_place_none xs ys = λ r_bytes. decides_none (receiver_in 3 r_bytes) (λ receiver. reads_sender 4 (λ sender. audit_record receiver sender xs ys))
    (λ receiver. sender_places_none 4 (λ sender. audit_record receiver sender xs ys)
    (λ sender bytes. decides_none (record_in bytes) (λ log. audit_session receiver sender xs ys log)
    (λ log. decides_none (findings_of receiver sender xs ys log) (λ found. ends None (says (audit_text (length found.shown) found.collisions) ∷ [])) (λ found. tt))))

audit_places_none : PlacesNone audit_tree
audit_places_none =
    items_place_none 1 (λ xs. reads_items 2 (λ ys. reads_receiver 3 (λ receiver. reads_sender 4 (λ sender. audit_record receiver sender xs ys))))
    (λ xs. items_place_none 2 (λ ys. reads_receiver 3 (λ receiver. reads_sender 4 (λ sender. audit_record receiver sender xs ys))) (deals_place_none xs))

-- ---- a pair of deals, and a record of their session

record_ready : (bytes : List ℕ) → bad_record bytes ≡ None → record_in bytes ≡ Ok (logged_of bytes)
unfolding record_in
record_ready bytes none = rw none refl

record_is_ready : (words : List (List ℕ)) (files : Files) (before : Outside) (can : CanAudit words files)
    → IsReady (told (Some files) words) before (audit_record can.receiver can.sender (items_of can.x.bytes) (items_of can.y.bytes))
unfolding reads_record
record_is_ready words files before can =
    let xs : List (List ℕ) = items_of can.x.bytes in
    let ys : List (List ℕ) = items_of can.y.bytes in
    let log : LoggedSession = logged_of can.log_bytes in
    let e : Evidence = record { xs = xs; ys = ys; receiver = can.receiver; sender = can.sender; log = log } in (
      can.log_bytes,
      is_there files words 5 can.log_bytes can.log_there,
      can.log_short,
      ready_on (told (Some files) words) before (record_in can.log_bytes) log (λ l. audit_session can.receiver can.sender xs ys l) (record_ready can.log_bytes can.log_good)
          (ready_on (told (Some files) words) before (findings_of can.receiver can.sender xs ys log) (findings_in e)
          (λ found. ends None (says (audit_text (length found.shown) found.collisions) ∷ [])) (consistent_is_found e can.consistent) tt),
    )

sender_is_ready : (words : List (List ℕ)) (files : Files) (before : Outside) (can : CanAudit words files)
    → IsReady (told (Some files) words) before (reads_sender 4 (λ sender. audit_record can.receiver sender (items_of can.x.bytes) (items_of can.y.bytes)))
unfolding reads_file
sender_is_ready words files before can = (
  sender_bytes can.sender,
  is_there files words 4 (sender_bytes can.sender) can.s_there,
  omega (arith, length-sender_bytes can.sender can.sender_is),
  ready_on (told (Some files) words) before (sender_in 4 (sender_bytes can.sender)) can.sender
      (λ sender. audit_record can.receiver sender (items_of can.x.bytes) (items_of can.y.bytes)) (sender_ready 4 can.sender can.sender_is)
      (record_is_ready words files before can),
)

receiver_is_ready : (words : List (List ℕ)) (files : Files) (before : Outside) (can : CanAudit words files)
    → IsReady (told (Some files) words) before (reads_receiver 3 (λ receiver. reads_sender 4 (λ sender. audit_record receiver sender (items_of can.x.bytes) (items_of can.y.bytes))))
unfolding reads_file
receiver_is_ready words files before can = (
  receiver_bytes can.receiver,
  is_there files words 3 (receiver_bytes can.receiver) can.r_there,
  omega (arith, length-receiver_bytes can.receiver can.receiver_is),
  ready_on (told (Some files) words) before (receiver_in 3 (receiver_bytes can.receiver)) can.receiver
      (λ receiver. reads_sender 4 (λ sender. audit_record receiver sender (items_of can.x.bytes) (items_of can.y.bytes))) (receiver_ready 3 can.receiver can.receiver_is)
      (sender_is_ready words files before can),
)

second_is_ready : (words : List (List ℕ)) (files : Files) (before : Outside) (can : CanAudit words files)
    → IsReady (told (Some files) words) before
    (reads_items 2 (λ ys. reads_receiver 3 (λ receiver. reads_sender 4 (λ sender. audit_record receiver sender (items_of can.x.bytes) ys))))
unfolding reads_file
second_is_ready words files before can = (
  can.y.bytes,
  is_there files words 2 can.y.bytes can.y.there,
  can.y.short,
  ready_on (told (Some files) words) before (items_in 2 can.y.bytes) (items_of can.y.bytes)
      (λ ys. reads_receiver 3 (λ receiver. reads_sender 4 (λ sender. audit_record receiver sender (items_of can.x.bytes) ys)))
      (items_ready words can.y.bytes 2 can.y.good) (receiver_is_ready words files before can),
)

audit_is_ready : (words : List (List ℕ)) (files : Files) (before : Outside) (can : CanAudit words files) → IsReady (told (Some files) words) before audit_tree
unfolding reads_file
audit_is_ready words files before can = (
  can.x.bytes,
  is_there files words 1 can.x.bytes can.x.there,
  can.x.short,
  ready_on (told (Some files) words) before (items_in 1 can.x.bytes) (items_of can.x.bytes)
      (λ xs. reads_items 2 (λ ys. reads_receiver 3 (λ receiver. reads_sender 4 (λ sender. audit_record receiver sender xs ys))))
      (items_ready words can.x.bytes 1 can.x.good) (second_is_ready words files before can),
)

-- ---- all that `audit` promises

session_unwired : (xs ys : List (List ℕ)) (receiver : ReceiverDeal) (sender : SenderDeal) → MayBeWired false (audit_record receiver sender xs ys)
session_unwired xs ys receiver sender =
    record_wired false 5 (λ log. audit_session receiver sender xs ys log)
    (λ log. decides_wired false (findings_of receiver sender xs ys log) _ (λ found. ends_wired false (says (audit_text (length found.shown) found.collisions) ∷ [])))

audit_unwired : MayBeWired false audit_tree
audit_unwired =
    items_wired false 1 _ (λ xs. items_wired false 2 _
    (λ ys. receiver_wired false 3 (λ receiver. reads_sender 4 (λ sender. audit_record receiver sender xs ys))
    (λ receiver. sender_wired false 4 (λ sender. audit_record receiver sender xs ys) (λ sender. session_unwired xs ys receiver sender))))

audit_answers : (known : Known) (words : List (List ℕ)) (before : Outside) (end : End) → Runs known words audit_tree before end → Answered known words before end.status end.left
unfolding Answered
audit_answers known words before end h =
    let done = λ (e : end.status ≡ status.Done).
    subst (λ (x : Status). AuditAnswers known words before x end.left) (sym e) (audit_leaves known words before end (follows_leaves known words false audit_tree before end e h)) in
    of_first known words before end.placed end.status end.left done
    (answered_items known words 1 (λ xs. reads_items 2 (λ ys. reads_receiver 3 (λ receiver. reads_sender 4 (λ sender. audit_record receiver sender xs ys)))) before end.placed end.status end.left (follows_answers known words false audit_tree before end h))

audit_promise : (known : Known) (words : List (List ℕ)) (before : Outside) (end : End) → Runs known words audit_tree before end → AuditPromise known words before end
unfolding Answered
audit_promise known words before end h =
    let answered = audit_answers known words before end h in
    record {
      answers = answered.0;
      silent = answered.1;
      places_none = none_is_placed known words false audit_tree before end.placed end.status end.left audit_places_none (follows_answers known words false audit_tree before end h);
      completes = λ files is can calm.
          runs_through known words false audit_tree before end h (ready_told files words before audit_tree is (audit_is_ready words files before can)) calm;
    }

pub audit_keeps : (known : Known) (words : List (List ℕ)) (before : Outside) (end : End) → Runs known words audit_tree before end
    → Keeps command_audit known words before end
audit_keeps known words before end h = record { promise = audit_promise known words before end h; wire = runs_unwired known words audit_tree before end audit_unwired h }
