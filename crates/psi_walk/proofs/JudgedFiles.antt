-- What a run that read and judged a file answers and leaves.
use Rattle.std.proofs.Common.{◌≡◌, inl, inr, ℕ, false, List, [], Option, Some, None, Ok, Err, refl, sym, subst}
use Rattle.std.specs.declared.result.Result.{Result}
use Rattle.psi_spec.specs.DealFiles.{receiver_of, receiver_file_size, sender_of, sender_file_size}
use Rattle.psi_spec.specs.Deals.{ReceiverDeal, SenderDeal, IsReceiverDeal, IsSenderDeal}
use Rattle.psi_spec.specs.Items.{BadLine, first_bad, items_of}
use Rattle.psi_spec.specs.Limits.{file_limit, record_limit}
use Rattle.psi_spec.specs.Placement.{Slot}
use Rattle.psi_spec.specs.Records.{LoggedSession, logged_of}
use Rattle.psi_base.specs.Outside.{Known, Outside}
use Rattle.psi_deal.specs.BadDeals.{bad_deal, bad_old_deal}
use Rattle.psi_deal.specs.OldDeals.{IsOldFile, old_deal_of}
use Rattle.psi_deal.specs.declared.old_files.OldDeal.{OldDeal}
use Rattle.psi_deal.proofs.OldFaultless.{good_old_file}
use Rattle.psi_deal.specs.declared.errors.BadDeal.{BadDeal as DealFault}
use Rattle.psi_items.specs.Reading.{bad_items_of}
use Rattle.psi_log.specs.BadRecords.{bad_record}
use Rattle.psi_log.specs.declared.errors.BadRecord.{BadRecord as RecordFault}
use Rattle.psi_walk.specs.Files.{items_in, judged_items, judged_old, judged_receiver, judged_record, judged_sender, old_deal_in, reads_file, reads_items, reads_old, reads_receiver, reads_record, reads_sender, receiver_in, record_in, sender_in}
use Rattle.psi_walk.specs.JudgedFiles.{HasBadLine, HasBadOldDeal, HasBadReceiverDeal, HasBadRecord, HasBadSenderDeal, HasItems, HasOldDeal, HasReceiverDeal, HasRecord, HasSenderDeal}
use Rattle.psi_walk.specs.Promises.{IsAnswered, IsSilent, IsUnread, Leaves, WasRead}
use Rattle.psi_walk.specs.Tree.{Tree, reads, decides, End}
use Rattle.psi_texts.specs.declared.status.Status.{Status}
use Rattle.psi_texts.specs.declared.status.Status.TheVariants as status
use Rattle.psi_deal.proofs.Faultless.{good_from_none, good_receiver, good_sender}

-- ---- any judgement

pub left_decides : {A : Type 0} (known : Known) (words : List (List ℕ)) (due : Result A Status) (next : A → Tree) (before : Outside) (end : End)
    → Leaves known words (decides due next) before end → (x : A) × (due ≡ Ok x) × Leaves known words (next x) before end
unfolding decides
left_decides known words (Ok x) next before end h = (x, refl, h)
left_decides known words (Err why) next before end h = absurd h

-- a run at a file that is read and judged: it was not read, memory was wanting, it was refused, or the run went on with what it holds
pub data AtFile {A : Type 0} (known : Known) (words : List (List ℕ)) (before : Outside) (word limit : ℕ) (judge : List ℕ → Result A Status)
    (slots : List (List Slot)) (why : Status) (after : Outside) (Rest : A → Type 0) : Type 0 where
  unread : IsUnread known words word limit why → IsSilent before after → slots ≡ [] → AtFile known words before word limit judge slots why after Rest
  wanting : why ≡ status.NoMemory → IsSilent before after → slots ≡ [] → AtFile known words before word limit judge slots why after Rest
  refused : (bytes : List ℕ) → WasRead known words before word limit bytes → judge bytes ≡ Err why → IsSilent before after → slots ≡ []
      → AtFile known words before word limit judge slots why after Rest
  taken_on : (bytes : List ℕ) (x : A) → WasRead known words before word limit bytes → judge bytes ≡ Ok x → Rest x
      → AtFile known words before word limit judge slots why after Rest

pub answered_file : {A : Type 0} (known : Known) (words : List (List ℕ)) (word limit : ℕ) (judge : List ℕ → Result A Status) (next : A → Tree) (before : Outside)
    (slots : List (List Slot)) (why : Status) (after : Outside) → IsAnswered known words false (reads word limit (λ bytes. decides (judge bytes) next)) before slots why after
    → AtFile known words before word limit judge slots why after (λ x. IsAnswered known words false (next x) before slots why after)
unfolding decides
answered_file known words word limit judge next before slots why after (inl h) = unread h.0 h.1 h.2
answered_file known words word limit judge next before slots why after (inr h) = by_judge (judge h.0) refl h.2
  where
    by_judge : (r : Result _ Status) → judge h.0 ≡ r → IsAnswered known words false (decides r next) before slots why after
        → AtFile known words before word limit judge slots why after (λ x. IsAnswered known words false (next x) before slots why after)
    by_judge (Ok x) e a = taken_on h.0 x h.1 e a
    by_judge (Err verdict) e (inl s, quiet, none) = wanting s quiet none
    by_judge (Err verdict) e (inr s, quiet, none) = refused h.0 h.1 (rw s.0 e) quiet none

-- ---- item files

items_good : (word : ℕ) (bytes : List ℕ) (items : List (List ℕ)) → items_in word bytes ≡ Ok items → (first_bad bytes ≡ None) × (items ≡ items_of bytes)
unfolding items_in
items_good word bytes items e = by_line (first_bad bytes) refl e
  where
    by_line : (line : Option BadLine) → first_bad bytes ≡ line → judged_items word bytes line ≡ Ok items → (first_bad bytes ≡ None) × (items ≡ items_of bytes)
    by_line None f e = (f, let g : Ok (items_of bytes) ≡ Ok items = e in cc g)
    by_line (Some line) f e = cc e

pub items_bad : (word : ℕ) (bytes : List ℕ) (why : Status) → items_in word bytes ≡ Err why
    → (line : BadLine) × (first_bad bytes ≡ Some line) × (why ≡ status.BadItems word (bad_items_of line))
unfolding items_in
items_bad word bytes why e = by_line (first_bad bytes) refl e
  where
    by_line : (line : Option BadLine) → first_bad bytes ≡ line → judged_items word bytes line ≡ Err why
        → (line : BadLine) × (first_bad bytes ≡ Some line) × (why ≡ status.BadItems word (bad_items_of line))
    by_line None f e = cc e
    by_line (Some line) f e = (line, f, cc e)

pub has_items : (known : Known) (words : List (List ℕ)) (before : Outside) (word : ℕ) (bytes : List ℕ) (items : List (List ℕ))
    → WasRead known words before word file_limit bytes → items_in word bytes ≡ Ok items → HasItems known words before word items
has_items known words before word bytes items read e =
    let good = items_good word bytes items e in
    record { bytes = bytes; read = read; good = good.0; listed = good.1 }

-- an item file that was refused has a bad line
pub has_bad_line : (known : Known) (words : List (List ℕ)) (before : Outside) (word : ℕ) (bytes : List ℕ) (line : BadLine)
    → WasRead known words before word file_limit bytes → first_bad bytes ≡ Some line → HasBadLine known words before word (bad_items_of line)
has_bad_line known words before word bytes line read e = record { bytes = bytes; read = read; line = line; bad = e; named = refl }

pub left_items : (known : Known) (words : List (List ℕ)) (word : ℕ) (next : List (List ℕ) → Tree) (before : Outside) (end : End)
    → Leaves known words (reads_items word next) before end
    → (items : List (List ℕ)) × HasItems known words before word items × Leaves known words (next items) before end
unfolding reads_file
left_items known words word next before end h =
    let read = left_decides known words (items_in word h.0) next before end h.2 in
    (read.0, has_items known words before word h.0 read.0 h.1 read.1, read.2)

pub answered_items : (known : Known) (words : List (List ℕ)) (word : ℕ) (next : List (List ℕ) → Tree) (before : Outside)
    (slots : List (List Slot)) (why : Status) (after : Outside) → IsAnswered known words false (reads_items word next) before slots why after
    → AtFile known words before word file_limit (items_in word) slots why after (λ items. IsAnswered known words false (next items) before slots why after)
unfolding reads_file
answered_items known words word next before slots why after h = answered_file known words word file_limit (items_in word) next before slots why after h

-- ---- sender's deal files

sender_good : (word : ℕ) (bytes : List ℕ) (deal : SenderDeal) → sender_in word bytes ≡ Ok deal → (bad_deal 1 sender_file_size bytes ≡ None) × (deal ≡ sender_of bytes)
unfolding sender_in
sender_good word bytes deal e = by_fault (bad_deal 1 sender_file_size bytes) refl e
  where
    by_fault : (fault : Option DealFault) → bad_deal 1 sender_file_size bytes ≡ fault → judged_sender word bytes fault ≡ Ok deal
        → (bad_deal 1 sender_file_size bytes ≡ None) × (deal ≡ sender_of bytes)
    by_fault None f e = (f, let g : Ok (sender_of bytes) ≡ Ok deal = e in cc g)
    by_fault (Some fault) f e = cc e

pub sender_bad : (word : ℕ) (bytes : List ℕ) (why : Status) → sender_in word bytes ≡ Err why
    → (fault : DealFault) × (bad_deal 1 sender_file_size bytes ≡ Some fault) × (why ≡ status.BadDeal word fault)
unfolding sender_in
sender_bad word bytes why e = by_fault (bad_deal 1 sender_file_size bytes) refl e
  where
    by_fault : (fault : Option DealFault) → bad_deal 1 sender_file_size bytes ≡ fault → judged_sender word bytes fault ≡ Err why
        → (fault : DealFault) × (bad_deal 1 sender_file_size bytes ≡ Some fault) × (why ≡ status.BadDeal word fault)
    by_fault None f e = cc e
    by_fault (Some fault) f e = (fault, f, cc e)

pub has_sender : (known : Known) (words : List (List ℕ)) (before : Outside) (word : ℕ) (bytes : List ℕ) (deal : SenderDeal)
    → WasRead known words before word file_limit bytes → sender_in word bytes ≡ Ok deal → HasSenderDeal known words before word deal
has_sender known words before word bytes deal read e =
    let good = sender_good word bytes deal e in
    record { bytes = bytes; read = read; good = good.0; spelled = good.1 }

pub has_bad_sender : (known : Known) (words : List (List ℕ)) (before : Outside) (word : ℕ) (bytes : List ℕ) (fault : DealFault)
    → WasRead known words before word file_limit bytes → bad_deal 1 sender_file_size bytes ≡ Some fault → HasBadSenderDeal known words before word fault
has_bad_sender known words before word bytes fault read e = record { bytes = bytes; read = read; bad = e }

pub left_sender : (known : Known) (words : List (List ℕ)) (word : ℕ) (next : SenderDeal → Tree) (before : Outside) (end : End)
    → Leaves known words (reads_sender word next) before end
    → (deal : SenderDeal) × HasSenderDeal known words before word deal × Leaves known words (next deal) before end
unfolding reads_file
left_sender known words word next before end h =
    let read = left_decides known words (sender_in word h.0) next before end h.2 in
    (read.0, has_sender known words before word h.0 read.0 h.1 read.1, read.2)

pub answered_sender : (known : Known) (words : List (List ℕ)) (word : ℕ) (next : SenderDeal → Tree) (before : Outside)
    (slots : List (List Slot)) (why : Status) (after : Outside) → IsAnswered known words false (reads_sender word next) before slots why after
    → AtFile known words before word file_limit (sender_in word) slots why after (λ deal. IsAnswered known words false (next deal) before slots why after)
unfolding reads_file
answered_sender known words word next before slots why after h = answered_file known words word file_limit (sender_in word) next before slots why after h

-- ---- receiver's deal files

receiver_good : (word : ℕ) (bytes : List ℕ) (deal : ReceiverDeal) → receiver_in word bytes ≡ Ok deal → (bad_deal 0 receiver_file_size bytes ≡ None) × (deal ≡ receiver_of bytes)
unfolding receiver_in
receiver_good word bytes deal e = by_fault (bad_deal 0 receiver_file_size bytes) refl e
  where
    by_fault : (fault : Option DealFault) → bad_deal 0 receiver_file_size bytes ≡ fault → judged_receiver word bytes fault ≡ Ok deal
        → (bad_deal 0 receiver_file_size bytes ≡ None) × (deal ≡ receiver_of bytes)
    by_fault None f e = (f, let g : Ok (receiver_of bytes) ≡ Ok deal = e in cc g)
    by_fault (Some fault) f e = cc e

pub receiver_bad : (word : ℕ) (bytes : List ℕ) (why : Status) → receiver_in word bytes ≡ Err why
    → (fault : DealFault) × (bad_deal 0 receiver_file_size bytes ≡ Some fault) × (why ≡ status.BadDeal word fault)
unfolding receiver_in
receiver_bad word bytes why e = by_fault (bad_deal 0 receiver_file_size bytes) refl e
  where
    by_fault : (fault : Option DealFault) → bad_deal 0 receiver_file_size bytes ≡ fault → judged_receiver word bytes fault ≡ Err why
        → (fault : DealFault) × (bad_deal 0 receiver_file_size bytes ≡ Some fault) × (why ≡ status.BadDeal word fault)
    by_fault None f e = cc e
    by_fault (Some fault) f e = (fault, f, cc e)

pub has_receiver : (known : Known) (words : List (List ℕ)) (before : Outside) (word : ℕ) (bytes : List ℕ) (deal : ReceiverDeal)
    → WasRead known words before word file_limit bytes → receiver_in word bytes ≡ Ok deal → HasReceiverDeal known words before word deal
has_receiver known words before word bytes deal read e =
    let good = receiver_good word bytes deal e in
    record { bytes = bytes; read = read; good = good.0; spelled = good.1 }

pub has_bad_receiver : (known : Known) (words : List (List ℕ)) (before : Outside) (word : ℕ) (bytes : List ℕ) (fault : DealFault)
    → WasRead known words before word file_limit bytes → bad_deal 0 receiver_file_size bytes ≡ Some fault → HasBadReceiverDeal known words before word fault
has_bad_receiver known words before word bytes fault read e = record { bytes = bytes; read = read; bad = e }

pub left_receiver : (known : Known) (words : List (List ℕ)) (word : ℕ) (next : ReceiverDeal → Tree) (before : Outside) (end : End)
    → Leaves known words (reads_receiver word next) before end
    → (deal : ReceiverDeal) × HasReceiverDeal known words before word deal × Leaves known words (next deal) before end
unfolding reads_file
left_receiver known words word next before end h =
    let read = left_decides known words (receiver_in word h.0) next before end h.2 in
    (read.0, has_receiver known words before word h.0 read.0 h.1 read.1, read.2)

pub answered_receiver : (known : Known) (words : List (List ℕ)) (word : ℕ) (next : ReceiverDeal → Tree) (before : Outside)
    (slots : List (List Slot)) (why : Status) (after : Outside) → IsAnswered known words false (reads_receiver word next) before slots why after
    → AtFile known words before word file_limit (receiver_in word) slots why after (λ deal. IsAnswered known words false (next deal) before slots why after)
unfolding reads_file
answered_receiver known words word next before slots why after h = answered_file known words word file_limit (receiver_in word) next before slots why after h

-- ---- record files

record_good : (bytes : List ℕ) (log : LoggedSession) → record_in bytes ≡ Ok log → (bad_record bytes ≡ None) × (log ≡ logged_of bytes)
unfolding record_in
record_good bytes log e = by_fault (bad_record bytes) refl e
  where
    by_fault : (fault : Option RecordFault) → bad_record bytes ≡ fault → judged_record bytes fault ≡ Ok log → (bad_record bytes ≡ None) × (log ≡ logged_of bytes)
    by_fault None f e = (f, let g : Ok (logged_of bytes) ≡ Ok log = e in cc g)
    by_fault (Some fault) f e = cc e

pub record_bad : (bytes : List ℕ) (why : Status) → record_in bytes ≡ Err why → (fault : RecordFault) × (bad_record bytes ≡ Some fault) × (why ≡ status.BadRecord fault)
unfolding record_in
record_bad bytes why e = by_fault (bad_record bytes) refl e
  where
    by_fault : (fault : Option RecordFault) → bad_record bytes ≡ fault → judged_record bytes fault ≡ Err why
        → (fault : RecordFault) × (bad_record bytes ≡ Some fault) × (why ≡ status.BadRecord fault)
    by_fault None f e = cc e
    by_fault (Some fault) f e = (fault, f, cc e)

pub has_record : (known : Known) (words : List (List ℕ)) (before : Outside) (word : ℕ) (bytes : List ℕ) (log : LoggedSession)
    → WasRead known words before word record_limit bytes → record_in bytes ≡ Ok log → HasRecord known words before word log
has_record known words before word bytes log read e =
    let good = record_good bytes log e in
    record { bytes = bytes; read = read; good = good.0; spelled = good.1 }

pub has_bad_record : (known : Known) (words : List (List ℕ)) (before : Outside) (word : ℕ) (bytes : List ℕ) (fault : RecordFault)
    → WasRead known words before word record_limit bytes → bad_record bytes ≡ Some fault → HasBadRecord known words before word fault
has_bad_record known words before word bytes fault read e = record { bytes = bytes; read = read; bad = e }

pub left_record : (known : Known) (words : List (List ℕ)) (word : ℕ) (next : LoggedSession → Tree) (before : Outside) (end : End)
    → Leaves known words (reads_record word next) before end
    → (log : LoggedSession) × HasRecord known words before word log × Leaves known words (next log) before end
unfolding reads_record
left_record known words word next before end h =
    let read = left_decides known words (record_in h.0) next before end h.2 in
    (read.0, has_record known words before word h.0 read.0 h.1 read.1, read.2)

pub answered_record : (known : Known) (words : List (List ℕ)) (word : ℕ) (next : LoggedSession → Tree) (before : Outside)
    (slots : List (List Slot)) (why : Status) (after : Outside) → IsAnswered known words false (reads_record word next) before slots why after
    → AtFile known words before word record_limit record_in slots why after (λ log. IsAnswered known words false (next log) before slots why after)
unfolding reads_record
answered_record known words word next before slots why after h = answered_file known words word record_limit record_in next before slots why after h

-- ---- deal files of version 1

old_good : (word : ℕ) (bytes : List ℕ) (deal : OldDeal) → old_deal_in word bytes ≡ Ok deal → (bad_old_deal bytes ≡ None) × (deal ≡ old_deal_of bytes)
unfolding old_deal_in
old_good word bytes deal e = by_fault (bad_old_deal bytes) refl e
  where
    by_fault : (fault : Option DealFault) → bad_old_deal bytes ≡ fault → judged_old word bytes fault ≡ Ok deal → (bad_old_deal bytes ≡ None) × (deal ≡ old_deal_of bytes)
    by_fault None f e = (f, let g : Ok (old_deal_of bytes) ≡ Ok deal = e in cc g)
    by_fault (Some fault) f e = cc e

pub old_bad : (word : ℕ) (bytes : List ℕ) (why : Status) → old_deal_in word bytes ≡ Err why
    → (fault : DealFault) × (bad_old_deal bytes ≡ Some fault) × (why ≡ status.BadDeal word fault)
unfolding old_deal_in
old_bad word bytes why e = by_fault (bad_old_deal bytes) refl e
  where
    by_fault : (fault : Option DealFault) → bad_old_deal bytes ≡ fault → judged_old word bytes fault ≡ Err why
        → (fault : DealFault) × (bad_old_deal bytes ≡ Some fault) × (why ≡ status.BadDeal word fault)
    by_fault None f e = cc e
    by_fault (Some fault) f e = (fault, f, cc e)

pub has_old : (known : Known) (words : List (List ℕ)) (before : Outside) (word : ℕ) (bytes : List ℕ) (deal : OldDeal)
    → WasRead known words before word file_limit bytes → old_deal_in word bytes ≡ Ok deal → HasOldDeal known words before word deal
has_old known words before word bytes deal read e =
    let good = old_good word bytes deal e in
    record { bytes = bytes; read = read; file = subst (λ (d : OldDeal). IsOldFile d bytes) (sym good.1) (good_old_file bytes read.are_bytes good.0) }

pub has_bad_old : (known : Known) (words : List (List ℕ)) (before : Outside) (word : ℕ) (bytes : List ℕ) (fault : DealFault)
    → WasRead known words before word file_limit bytes → bad_old_deal bytes ≡ Some fault → HasBadOldDeal known words before word fault
has_bad_old known words before word bytes fault read e = record { bytes = bytes; read = read; bad = e }

pub left_old : (known : Known) (words : List (List ℕ)) (word : ℕ) (next : OldDeal → Tree) (before : Outside) (end : End)
    → Leaves known words (reads_old word next) before end
    → (deal : OldDeal) × HasOldDeal known words before word deal × Leaves known words (next deal) before end
unfolding reads_file
left_old known words word next before end h =
    let read = left_decides known words (old_deal_in word h.0) next before end h.2 in
    (read.0, has_old known words before word h.0 read.0 h.1 read.1, read.2)

pub answered_old : (known : Known) (words : List (List ℕ)) (word : ℕ) (next : OldDeal → Tree) (before : Outside)
    (slots : List (List Slot)) (why : Status) (after : Outside) → IsAnswered known words false (reads_old word next) before slots why after
    → AtFile known words before word file_limit (old_deal_in word) slots why after (λ deal. IsAnswered known words false (next deal) before slots why after)
unfolding reads_file
answered_old known words word next before slots why after h = answered_file known words word file_limit (old_deal_in word) next before slots why after h

-- the deal of a file that was read and judged
pub sender_deal_of : (known : Known) (words : List (List ℕ)) (before : Outside) (word : ℕ) (deal : SenderDeal) → HasSenderDeal known words before word deal → IsSenderDeal deal
sender_deal_of known words before word deal h =
    subst IsSenderDeal (sym h.spelled) (good_sender h.bytes h.read.are_bytes (good_from_none 1 sender_file_size h.bytes h.good))

pub receiver_deal_of : (known : Known) (words : List (List ℕ)) (before : Outside) (word : ℕ) (deal : ReceiverDeal) → HasReceiverDeal known words before word deal → IsReceiverDeal deal
receiver_deal_of known words before word deal h =
    subst IsReceiverDeal (sym h.spelled) (good_receiver h.bytes h.read.are_bytes (good_from_none 0 receiver_file_size h.bytes h.good))
