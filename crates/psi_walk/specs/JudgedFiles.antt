-- Files that were read, and what they hold.
use Rattle.std.specs.Prelude.{◌≡◌, ℕ, List, None, Some}
use Rattle.psi_spec.specs.DealFiles.{receiver_of, receiver_file_size, sender_of, sender_file_size}
use Rattle.psi_spec.specs.Deals.{ReceiverDeal, SenderDeal}
use Rattle.psi_spec.specs.Items.{BadLine, first_bad, items_of}
use Rattle.psi_spec.specs.Limits.{file_limit, record_limit}
use Rattle.psi_spec.specs.Records.{LoggedSession, logged_of}
use Rattle.psi_base.specs.Outside.{Known, Outside}
use Rattle.psi_deal.specs.BadDeals.{bad_deal, bad_old_deal}
use Rattle.psi_deal.specs.OldDeals.{IsOldFile}
use Rattle.psi_deal.specs.declared.old_files.OldDeal.{OldDeal}
use Rattle.psi_deal.specs.declared.errors.BadDeal.{BadDeal}
use Rattle.psi_items.specs.Reading.{bad_items_of}
use Rattle.psi_items.specs.declared.errors.BadItems.{BadItems}
use Rattle.psi_log.specs.BadRecords.{bad_record}
use Rattle.psi_log.specs.declared.errors.BadRecord.{BadRecord}
use Rattle.psi_walk.specs.Promises.{WasRead}

-- the item file of a word was read and has no line with a fault, and these are its items
pub record HasItems (known : Known) (words : List (List ℕ)) (before : Outside) (word : ℕ) (items : List (List ℕ))
    : Type 0 where
  pub bytes : List ℕ
  pub read : WasRead known words before word file_limit bytes
  pub good : first_bad bytes ≡ None
  pub listed : items ≡ items_of bytes

-- the item file of a word was read and has a line with a fault, of which the first is this
pub record HasBadLine (known : Known) (words : List (List ℕ)) (before : Outside) (word : ℕ) (fault : BadItems)
    : Type 0 where
  pub bytes : List ℕ
  pub read : WasRead known words before word file_limit bytes
  pub line : BadLine
  pub bad : first_bad bytes ≡ Some line
  pub named : fault ≡ bad_items_of line

-- the sender's deal file of a word was read, and this is its deal
pub record HasSenderDeal (known : Known) (words : List (List ℕ)) (before : Outside) (word : ℕ) (deal : SenderDeal)
    : Type 0 where
  pub bytes : List ℕ
  pub read : WasRead known words before word file_limit bytes
  pub good : bad_deal 1 sender_file_size bytes ≡ None
  pub spelled : deal ≡ sender_of bytes

-- the file of a word was read and is no deal file of the sender, first for this reason
pub record HasBadSenderDeal (known : Known) (words : List (List ℕ)) (before : Outside) (word : ℕ) (fault : BadDeal)
    : Type 0 where
  pub bytes : List ℕ
  pub read : WasRead known words before word file_limit bytes
  pub bad : bad_deal 1 sender_file_size bytes ≡ Some fault

-- the receiver's deal file of a word was read, and this is its deal
pub record HasReceiverDeal (known : Known) (words : List (List ℕ)) (before : Outside) (word : ℕ) (deal : ReceiverDeal)
    : Type 0 where
  pub bytes : List ℕ
  pub read : WasRead known words before word file_limit bytes
  pub good : bad_deal 0 receiver_file_size bytes ≡ None
  pub spelled : deal ≡ receiver_of bytes

-- the file of a word was read and is no deal file of the receiver, first for this reason
pub record HasBadReceiverDeal (known : Known) (words : List (List ℕ)) (before : Outside) (word : ℕ) (fault : BadDeal)
    : Type 0 where
  pub bytes : List ℕ
  pub read : WasRead known words before word file_limit bytes
  pub bad : bad_deal 0 receiver_file_size bytes ≡ Some fault

-- the record file of a word was read, and this is the session that it holds
pub record HasRecord (known : Known) (words : List (List ℕ)) (before : Outside) (word : ℕ) (log : LoggedSession)
    : Type 0 where
  pub bytes : List ℕ
  pub read : WasRead known words before word record_limit bytes
  pub good : bad_record bytes ≡ None
  pub spelled : log ≡ logged_of bytes

-- the file of a word was read and is no record, first for this reason
pub record HasBadRecord (known : Known) (words : List (List ℕ)) (before : Outside) (word : ℕ) (fault : BadRecord)
    : Type 0 where
  pub bytes : List ℕ
  pub read : WasRead known words before word record_limit bytes
  pub bad : bad_record bytes ≡ Some fault

-- the file of a word was read and is the file of version 1 of this deal
pub record HasOldDeal (known : Known) (words : List (List ℕ)) (before : Outside) (word : ℕ) (deal : OldDeal)
    : Type 0 where
  pub bytes : List ℕ
  pub read : WasRead known words before word file_limit bytes
  pub file : IsOldFile deal bytes

-- the file of a word was read and is no deal file of version 1, first for this reason
pub record HasBadOldDeal (known : Known) (words : List (List ℕ)) (before : Outside) (word : ℕ) (fault : BadDeal)
    : Type 0 where
  pub bytes : List ℕ
  pub read : WasRead known words before word file_limit bytes
  pub bad : bad_old_deal bytes ≡ Some fault
