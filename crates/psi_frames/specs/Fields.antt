-- The fields that frames of several kinds share: their kind, the length of their payload, an index, and bytes that may
-- be any.
use Rattle.std.specs.Prelude.{◌==◌, ℕ, Option, Some, None, if◌then◌else◌}
use Rattle.std.specs.Int.{Width, w8, w32, byte_len, from_be_bytes}
use Rattle.psi_spec.specs.Frames.{Field}
use Rattle.psi_frames.specs.declared.reasons.Reason.{Reason}
use Rattle.psi_frames.specs.declared.reasons.Reason.TheVariants as reason

-- a number, and why it is refused
abbrev pub number_field : Width → (ℕ → Option Reason) → Field Reason
number_field width refuse = record { size = byte_len width; refuse = λ bytes. refuse (from_be_bytes width bytes) }

-- a number is refused where it is not the wanted one
abbrev pub unless : ℕ → (ℕ → Reason) → ℕ → Option Reason
unless wanted why found = if found == wanted then None else Some (why found)

abbrev pub kind_field : ℕ → Field Reason
kind_field wanted = number_field w8 (unless wanted (λ found. reason.Kind found wanted))

abbrev pub length_field : ℕ → Field Reason
length_field wanted = number_field w32 (unless wanted (λ found. reason.Length found wanted))

abbrev pub index_field : Width → ℕ → Field Reason
index_field width wanted = number_field width (unless wanted (λ found. reason.Index found wanted))

-- so many bytes, which are never refused
abbrev pub unjudged_field : ℕ → Field Reason
unjudged_field size = record { size = size; refuse = λ bytes. None }
