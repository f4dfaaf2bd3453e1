-- What a program sees of the outside: contents that may be told or not, and counts of what went wrong.
use Rattle.std.specs.Prelude.{◌≡◌, ◌+◌, ◌-◌, ◌<◌, ◌≤◌, ◌^◌, ◌++◌, ℕ, Bool, true, false, List, [], Vec, min, length, take, drop, Option, Some, None, Result, Ok, Err, IfSome, IsTrue, option_map, if◌then◌else◌}
use Rattle.std.specs.Str.{bytes_eq}
use Rattle.std.specs.declared.alloc.Global.{Global}
use Rattle.psi_base.specs.declared.faults.Failed.{Failed}
use Rattle.psi_base.specs.declared.faults.Fault.{Fault}
use Rattle.psi_base.specs.declared.faults.Fault.TheVariants as fault
use Rattle.psi_base.specs.declared.faults.ReadFault.{ReadFault}
use Rattle.psi_base.specs.declared.faults.ReadFault.TheVariants as read
use Rattle.psi_base.specs.declared.opening.Side.{Side}

-- the contents of the files, by the bytes of their names
abbrev pub Files : Type 0
Files = List ℕ → Option (List ℕ)

-- the files after this one was put
abbrev pub with_file : Files → List ℕ → List ℕ → Files
with_file files name bytes = λ other. if bytes_eq name other then Some bytes else files other

-- how a link is opened: who begins the connection, and at which address
pub record Link : Type 0 where
  pub side : Side
  pub address : List ℕ

abbrev pub link_to : Side → List ℕ → Link
link_to side address = record { side = side; address = address }

-- the outside; a content that it does not tell is None
pub record Outside : Type 0 where
  pub files : Option Files
  pub printed : Option (List ℕ)
  pub incoming : Option (List ℕ)  -- the bytes of the link that are still to come
  pub outgoing : Option (List ℕ)  -- the bytes that were sent over the link
  pub file_faults : ℕ
  pub link_faults : ℕ
  pub print_faults : ℕ
  pub ends : ℕ  -- how often a receive found that nothing more comes
  pub refusals : ℕ  -- how often memory was wanting
  pub ready : Bool  -- whether the link is open
  pub opened : Option Link  -- how the link was opened last, if it was
  pub steady : Bool  -- whether it never fails but for a file that is missing

-- the file of this name has just these bytes, where the files are told
abbrev pub HasFile : Option Files → List ℕ → List ℕ → Type 0
HasFile files name bytes = IfSome files (λ told. told name ≡ Some bytes)

-- the file of this name has at least so many bytes, where the files are told
abbrev pub HasAtLeast : Option Files → List ℕ → ℕ → Type 0
HasAtLeast files name count =
    IfSome files (λ told. (bytes : List ℕ) × (told name ≡ Some bytes) × (count ≤ length bytes))

-- there is no file of this name, where the files are told
abbrev pub LacksFile : Option Files → List ℕ → Type 0
LacksFile files name = IfSome files (λ told. told name ≡ None)

-- a call that may fail for its name or address: a read or a write of the file of a name, or an opening of a link
pub data Call : Type 0 where
  reading : List ℕ → Call
  writing : List ℕ → Call
  opening : Link → Call

-- what calls alone make known: what a read of the file of a name may answer, what a receive may take, and which call
-- failed
pub record Known : Type 1 where
  pub gives : List ℕ → List ℕ → Type 0
  pub comes : List ℕ → Type 0
  pub fails : Call → Type 0

-- nothing is known but what the contents tell
abbrev pub nothing_known : Known
nothing_known = record { gives = λ name bytes. Unit {0}; comes = λ bytes. Unit {0}; fails = λ call. Unit {0} }

-- a count is greater than before, or stands at the greatest u64
pub record Rose (before now : ℕ) : Type 0 where
  pub no_lower : before ≤ now
  pub more : min (before + 1) (2 ^ 64 - 1) ≤ now

-- a file was not read: that was counted, and nothing else changed; a steady outside only lacks the file
pub record FileFailed (known : Known) (old : Outside) (name : List ℕ) (new : Outside) : Type 0 where
  pub failed : known.fails (reading name)
  pub rose : Rose old.file_faults new.file_faults
  pub missing : IsTrue old.steady → LacksFile old.files name
  pub left : new ≡ record old { file_faults = new.file_faults }

-- a print failed: that was counted, and nothing else changed; it never happens in a steady outside
pub record PrintFailed (old new : Outside) : Type 0 where
  pub rose : Rose old.print_faults new.print_faults
  pub unsteady : old.steady ≡ false
  pub left : new ≡ record old { print_faults = new.print_faults }

-- a call of the link failed: that was counted, and nothing else changed; it never happens in a steady outside
pub record LinkFailed (old new : Outside) : Type 0 where
  pub rose : Rose old.link_faults new.link_faults
  pub unsteady : old.steady ≡ false
  pub left : new ≡ record old { link_faults = new.link_faults }

-- memory for a call was refused: that was counted, and nothing else changed
pub record Starved (old new : Outside) : Type 0 where
  pub rose : Rose old.refusals new.refusals
  pub left : new ≡ record old { refusals = new.refusals }

-- a result with its vector seen as a list
abbrev pub as_list : {E : Type 0} → Result (Vec ℕ Global) E → Result (List ℕ) E
as_list (Ok bytes) = Ok bytes.items
as_list (Err error) = Err error

-- what a read of at most max bytes of a file may answer and leave
abbrev pub Reads : Known → Outside → List ℕ → ℕ → Result (List ℕ) ReadFault → Outside → Type 0
Reads known old name max (Ok bytes) new =
    (length bytes ≤ max) × HasFile old.files name bytes × known.gives name bytes × (new ≡ old)
Reads known old name max (Err read.Failed) new = FileFailed known old name new
Reads known old name max (Err (read.TooLong taken)) new = (max < taken) × HasAtLeast old.files name taken × (new ≡ old)
Reads known old name max (Err read.NoMemory) new = new ≡ old

-- the outside after a file was written
abbrev pub written : Outside → List ℕ → List ℕ → Outside
written old name bytes = record old { files = option_map (λ files. with_file files name bytes) old.files }

-- the outside after so many bytes of a file were written, or before the file was begun
abbrev pub partly_written : Outside → List ℕ → List ℕ → Option ℕ → Outside
partly_written old name bytes None = old
partly_written old name bytes (Some count) = written old name (take count bytes)

-- a write failed: that was counted, and the file is as before or has a front of the bytes; it never happens in a steady
-- outside
pub record WriteFailed (known : Known) (old : Outside) (name bytes : List ℕ) (new : Outside) : Type 0 where
  pub failed : known.fails (writing name)
  pub part : Option ℕ
  pub rose : Rose old.file_faults new.file_faults
  pub unsteady : old.steady ≡ false
  pub left : new ≡ partly_written (record old { file_faults = new.file_faults }) name bytes part

-- memory for a write was refused: that was counted, and the file is as before or has a front of the bytes
pub record WriteStarved (old : Outside) (name bytes : List ℕ) (new : Outside) : Type 0 where
  pub part : Option ℕ
  pub rose : Rose old.refusals new.refusals
  pub left : new ≡ partly_written (record old { refusals = new.refusals }) name bytes part

-- what a write of a file may answer and leave
abbrev pub Writes : Known → Outside → List ℕ → List ℕ → Result (Unit {0}) Fault → Outside → Type 0
Writes known old name bytes (Ok _) new = new ≡ written old name bytes
Writes known old name bytes (Err fault.Failed) new = WriteFailed known old name bytes new
Writes known old name bytes (Err fault.NoMemory) new = WriteStarved old name bytes new

-- the outside after these bytes were printed too
abbrev pub printed_too : Outside → List ℕ → Outside
printed_too old bytes = record old { printed = option_map (λ before. before ++ bytes) old.printed }

-- what a print of these bytes may answer and leave
abbrev pub Prints : Outside → List ℕ → Result ℕ Fault → Outside → Type 0
Prints old bytes (Ok k) new = (0 < k) × (k ≤ length bytes) × (new ≡ printed_too old (take k bytes))
Prints old bytes (Err fault.Failed) new = PrintFailed old new
Prints old bytes (Err fault.NoMemory) new = Starved old new

-- all the bytes were printed, or a front of them that ends before the last, and then a print was refused
abbrev pub PrintsAll : Outside → List ℕ → Result (Unit {0}) Fault → Outside → Type 0
PrintsAll old bytes (Ok _) new = new ≡ printed_too old bytes
PrintsAll old bytes (Err fault.Failed) new =
    (k : ℕ) × (k < length bytes) × PrintFailed (printed_too old (take k bytes)) new
PrintsAll old bytes (Err fault.NoMemory) new =
    (k : ℕ) × (k < length bytes) × Starved (printed_too old (take k bytes)) new

-- the outside after its link was opened so
abbrev pub linked : Outside → Link → Outside
linked old link = record old { ready = true; opened = Some link }

-- what an opening of a link may answer and leave
abbrev pub Opens : Known → Outside → Link → Result (Unit {0}) Fault → Outside → Type 0
Opens known old link (Ok _) new = new ≡ linked old link
Opens known old link (Err fault.Failed) new = known.fails (opening link) × LinkFailed old new
Opens known old link (Err fault.NoMemory) new = Starved old new

-- so many bytes came, which are the front of the buffer; none come only where that was counted as an end, and nothing
-- is left where that is told
pub record Received (known : Known) (old : Outside) (count : ℕ) (buffer : List ℕ) (new : Outside) : Type 0 where
  pub within : count ≤ length buffer
  pub came : known.comes (take count buffer)
  pub next : IfSome old.incoming (λ bytes. take count buffer ≡ take count bytes)
  pub some : 0 < count → new.ends ≡ old.ends
  pub ended : count ≡ 0 → Rose old.ends new.ends × IfSome old.incoming (λ bytes. bytes ≡ [])
  pub left : new ≡ record old { incoming = option_map (λ bytes. drop count bytes) old.incoming; ends = new.ends }

-- what a receive may answer and leave, in the buffer too
abbrev pub Receives : Known → Outside → Result ℕ Failed → List ℕ → Outside → Type 0
Receives known old (Ok count) buffer new = Received known old count buffer new
Receives known old (Err _) buffer new = LinkFailed old new

-- the outside after these bytes were sent too
abbrev pub sent_too : Outside → List ℕ → Outside
sent_too old bytes = record old { outgoing = option_map (λ before. before ++ bytes) old.outgoing }

-- what a send of these bytes may answer and leave
abbrev pub Sends : Outside → List ℕ → Result ℕ Fault → Outside → Type 0
Sends old bytes (Ok k) new = (0 < k) × (k ≤ length bytes) × (new ≡ sent_too old (take k bytes))
Sends old bytes (Err fault.Failed) new = LinkFailed old new
Sends old bytes (Err fault.NoMemory) new = Starved old new
