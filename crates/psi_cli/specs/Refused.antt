-- What the real outside tells, and what a call of it that was refused answers and leaves.
use Rattle.std.specs.Prelude.{◌≡◌, ◌≢◌, ◌<◌, ◌≤◌, ℕ, Bool, false, List, length, Option, None, Result, Ok, Err, IfSome}
use Rattle.std.specs.IoError.{error_kind}
use Rattle.std.specs.declared.io.ErrorKind.{ErrorKind}
use Rattle.std.specs.declared.io.ErrorKind.TheVariants as kind
use Rattle.psi_base.specs.State.{next_count}
use Rattle.psi_base.specs.Outside.{LinkFailed, Outside, PrintFailed, Starved, Rose}
use Rattle.psi_base.specs.declared.faults.Fault.{Fault}
use Rattle.psi_base.specs.declared.faults.Fault.TheVariants as fault
use Rattle.psi_base.specs.declared.faults.ReadFault.{ReadFault}
use Rattle.psi_base.specs.declared.faults.ReadFault.TheVariants as read
use Rattle.psi_cli.specs.declared.real.Unread.{Unread}
use Rattle.psi_cli.specs.declared.real.Unread.TheVariants as unread

-- an outside that tells no content and in which nothing went wrong yet; its link is ready or not
abbrev pub untouched : Bool → Outside
untouched ready = record {
  files = None;
  printed = None;
  incoming = None;
  outgoing = None;
  file_faults = 0;
  link_faults = 0;
  print_faults = 0;
  ends = 0;
  refusals = 0;
  ready = ready;
  opened = None;
  steady = false;
}

-- what a read of a content of at most max bytes answers, given the content where it is known
abbrev pub ReadsWhole : Option (List ℕ) → ℕ → Result (List ℕ) Unread → Type 0
ReadsWhole content max (Ok bytes) = (length bytes ≤ max) × IfSome content (λ all. bytes ≡ all)
ReadsWhole content max (Err (unread.TooLong taken)) = (max < taken) × IfSome content (λ all. max < length all)
ReadsWhole content max (Err (unread.Refused error)) = Unit {0}

-- a call on a file failed: that was counted, and nothing else changed
pub record FileCounted (old new : Outside) : Type 0 where
  pub rose : Rose old.file_faults new.file_faults
  pub left : new ≡ record old { file_faults = new.file_faults }

-- the fault that is told of a content that was not read, and what it leaves: a refused call is counted, unless std
-- names it as want of memory
abbrev pub CountsRead : Outside → Unread → ReadFault → Outside → Type 0
CountsRead old (unread.TooLong taken) fault new = (fault ≡ read.TooLong taken) × (new ≡ old)
CountsRead old (unread.Refused error) read.NoMemory new = (error_kind error ≡ kind.OutOfMemory) × (new ≡ old)
CountsRead old (unread.Refused error) read.Failed new =
    (error_kind error ≢ kind.OutOfMemory) × FileCounted old new × (new.file_faults ≡ next_count old.file_faults)
CountsRead old (unread.Refused error) (read.TooLong taken) new = ⊥

-- the fault that is told of a refused write, and what it leaves: it is counted by its kind
abbrev pub WriteRefused : Outside → ErrorKind → Fault → Outside → Type 0
WriteRefused old cause fault.NoMemory new =
    (cause ≡ kind.OutOfMemory) × Starved old new × (new.refusals ≡ next_count old.refusals)
WriteRefused old cause fault.Failed new =
    (cause ≢ kind.OutOfMemory) × FileCounted old new × (new.file_faults ≡ next_count old.file_faults)

-- the fault that is told of a refused print, and what it leaves: it is counted by its kind
abbrev pub PrintRefused : Outside → ErrorKind → Fault → Outside → Type 0
PrintRefused old cause fault.NoMemory new =
    (cause ≡ kind.OutOfMemory) × Starved old new × (new.refusals ≡ next_count old.refusals)
PrintRefused old cause fault.Failed new =
    (cause ≢ kind.OutOfMemory) × PrintFailed old new × (new.print_faults ≡ next_count old.print_faults)

-- the fault that is told of a refused opening of the link or a refused send, and what it leaves: it is counted by its
-- kind
abbrev pub LinkRefused : Outside → ErrorKind → Fault → Outside → Type 0
LinkRefused old cause fault.NoMemory new =
    (cause ≡ kind.OutOfMemory) × Starved old new × (new.refusals ≡ next_count old.refusals)
LinkRefused old cause fault.Failed new =
    (cause ≢ kind.OutOfMemory) × LinkFailed old new × (new.link_faults ≡ next_count old.link_faults)
