-- The two kinds of deal files.
use Rattle.std.specs.Prelude.{ℕ, ◌==◌, List, slice_index, if◌then◌else◌}
use Rattle.psi_spec.specs.DealFiles.{receiver_file_size, sender_file_size}
use Rattle.psi_spec.specs.OldDealFiles.{old_receiver_size, old_sender_size}
use Rattle.psi_deal.specs.declared.role.Role.{Role}
use Rattle.psi_deal.specs.declared.role.Role.TheVariants.{Receiver, Sender}

-- the byte that names a role in a file
abbrev pub role_byte : Role → ℕ
role_byte Receiver = 0
role_byte Sender = 1

-- the bytes of each file of a role
abbrev pub role_size : Role → ℕ
role_size Receiver = receiver_file_size
role_size Sender = sender_file_size

-- the bytes of each file of version 1 of a role
abbrev pub old_role_size : Role → ℕ
old_role_size Receiver = old_receiver_size
old_role_size Sender = old_sender_size

-- the role that a file of version 1 names: the receiver's by a sixth byte of 0
abbrev pub named_role : List ℕ → Role
named_role bytes = if slice_index bytes 5 == 0 then Receiver else Sender
