-- The files that commands read.
use Rattle.std.specs.Prelude.{ℕ, List, Option, None, Some, Result, Ok, Err}
use Rattle.psi_spec.specs.Items.{BadLine, items_of, first_bad}
use Rattle.psi_spec.specs.Limits.{file_limit, record_limit}
use Rattle.psi_spec.specs.DealFiles.{receiver_of, receiver_file_size, sender_of, sender_file_size}
use Rattle.psi_spec.specs.Deals.{ReceiverDeal, SenderDeal}
use Rattle.psi_spec.specs.Records.{LoggedSession, logged_of}
use Rattle.psi_deal.specs.BadDeals.{bad_deal, bad_old_deal}
use Rattle.psi_deal.specs.OldDeals.{old_deal_of}
use Rattle.psi_deal.specs.declared.old_files.OldDeal.{OldDeal}
use Rattle.psi_deal.specs.declared.errors.BadDeal.{BadDeal as DealFault}
use Rattle.psi_items.specs.Reading.{bad_items_of}
use Rattle.psi_log.specs.BadRecords.{bad_record}
use Rattle.psi_log.specs.declared.errors.BadRecord.{BadRecord as RecordFault}
use Rattle.psi_walk.specs.Tree.{Tree, reads, decides}
use Rattle.psi_texts.specs.declared.status.Status.{Status}
use Rattle.psi_texts.specs.declared.status.Status.TheVariants.{BadDeal, BadItems, BadRecord}

-- the steps that read the file of a word and judge it: what its bytes hold for that word, or why it is refused
unfoldable pub reads_file : {A : Type 0} → (ℕ → List ℕ → Result A Status) → ℕ → (A → Tree) → Tree
reads_file held word next = reads word file_limit (λ bytes. decides (held word bytes) next)

-- the items of the file of a word, or the fault of its first bad line
abbrev pub judged_items : ℕ → List ℕ → Option BadLine → Result (List (List ℕ)) Status
judged_items word bytes None = Ok (items_of bytes)
judged_items word bytes (Some bad) = Err (BadItems word (bad_items_of bad))

unfoldable pub items_in : ℕ → List ℕ → Result (List (List ℕ)) Status
items_in word bytes = judged_items word bytes (first_bad bytes)

-- the steps that read the item file of a word and judge it
abbrev pub reads_items : ℕ → (List (List ℕ) → Tree) → Tree
reads_items = reads_file items_in

-- the sender's deal that the file of a word spells, or why it is none
abbrev pub judged_sender : ℕ → List ℕ → Option DealFault → Result SenderDeal Status
judged_sender word bytes None = Ok (sender_of bytes)
judged_sender word bytes (Some fault) = Err (BadDeal word fault)

unfoldable pub sender_in : ℕ → List ℕ → Result SenderDeal Status
sender_in word bytes = judged_sender word bytes (bad_deal 1 sender_file_size bytes)

-- the steps that read the sender's deal file of a word and judge it
abbrev pub reads_sender : ℕ → (SenderDeal → Tree) → Tree
reads_sender = reads_file sender_in

-- the receiver's deal that the file of a word spells, or why it is none
abbrev pub judged_receiver : ℕ → List ℕ → Option DealFault → Result ReceiverDeal Status
judged_receiver word bytes None = Ok (receiver_of bytes)
judged_receiver word bytes (Some fault) = Err (BadDeal word fault)

unfoldable pub receiver_in : ℕ → List ℕ → Result ReceiverDeal Status
receiver_in word bytes = judged_receiver word bytes (bad_deal 0 receiver_file_size bytes)

-- the steps that read the receiver's deal file of a word and judge it
abbrev pub reads_receiver : ℕ → (ReceiverDeal → Tree) → Tree
reads_receiver = reads_file receiver_in

-- what the record file spells, or why it is none
abbrev pub judged_record : List ℕ → Option RecordFault → Result LoggedSession Status
judged_record bytes None = Ok (logged_of bytes)
judged_record bytes (Some fault) = Err (BadRecord fault)

unfoldable pub record_in : List ℕ → Result LoggedSession Status
record_in bytes = judged_record bytes (bad_record bytes)

-- the steps that read the record file of a word and judge it
unfoldable pub reads_record : ℕ → (LoggedSession → Tree) → Tree
reads_record word next = reads word record_limit (λ bytes. decides (record_in bytes) next)

-- the deal that the file of version 1 of a word spells, or why it is none
abbrev pub judged_old : ℕ → List ℕ → Option DealFault → Result OldDeal Status
judged_old word bytes None = Ok (old_deal_of bytes)
judged_old word bytes (Some fault) = Err (BadDeal word fault)

unfoldable pub old_deal_in : ℕ → List ℕ → Result OldDeal Status
old_deal_in word bytes = judged_old word bytes (bad_old_deal bytes)

-- the steps that read the deal file of version 1 of a word and judge it
abbrev pub reads_old : ℕ → (OldDeal → Tree) → Tree
reads_old = reads_file old_deal_in
