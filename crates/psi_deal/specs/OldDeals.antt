-- The deals of files of version 1, of either end.
use Rattle.std.specs.Prelude.{ℕ, List}
use Rattle.psi_spec.specs.DealFiles.{receiver_bytes, sender_bytes}
use Rattle.psi_spec.specs.OldDealFiles.{IsOldReceiverFile, IsOldSenderFile, old_receiver_of, old_sender_of}
use Rattle.psi_deal.specs.declared.role.Role.{Role}
use Rattle.psi_deal.specs.declared.role.Role.TheVariants as role
use Rattle.psi_deal.specs.Roles.{named_role}
use Rattle.psi_deal.specs.declared.old_files.OldDeal.{OldDeal}
use Rattle.psi_deal.specs.declared.old_files.OldDeal.TheVariants.{Receiver, Sender}

-- the bytes are the file of version 1 of a deal, of the end that it is for
abbrev pub IsOldFile : OldDeal → List ℕ → Type 0
IsOldFile (Receiver deal) bytes = IsOldReceiverFile deal bytes
IsOldFile (Sender deal) bytes = IsOldSenderFile deal bytes

-- the deal that such a file of a role spells
abbrev pub old_deal_for : Role → List ℕ → OldDeal
old_deal_for role.Receiver bytes = Receiver (old_receiver_of bytes)
old_deal_for role.Sender bytes = Sender (old_sender_of bytes)

-- the deal that such a file spells
abbrev pub old_deal_of : List ℕ → OldDeal
old_deal_of bytes = old_deal_for (named_role bytes) bytes

-- the file of version 2 of the deal, for the same end
abbrev pub renewed : OldDeal → List ℕ
renewed (Receiver deal) = receiver_bytes deal
renewed (Sender deal) = sender_bytes deal
