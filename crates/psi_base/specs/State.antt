-- The world in memory as contracts see it.
use Rattle.std.specs.Prelude.{◌≡◌, ◌+◌, ◌-◌, ◌^◌, ◌++◌, ◌==◌, ◌||◌, ℕ, Bool, true, false, List, [], length, min, nat_lt, Option, Some, None, Result, Ok, Err, IsOk, option_map, string_bytes, if◌then◌else◌}
use Rattle.std.specs.BTreeMap.{get_by_text}
use Rattle.std.specs.BTreeSet.{contains}
use Rattle.std.specs.Ordering.{nat_cmp}
use Rattle.psi_base.specs.Front.{front}
use Rattle.psi_base.specs.Incoming.{Coming, no_coming, next_len, coming_after, buffer_after}
use Rattle.psi_base.specs.Outside.{Files, Link, Outside, with_file}
use Rattle.psi_base.specs.declared.faults.Failed.{Failed}
use Rattle.psi_base.specs.declared.faults.Fault.{Fault}
use Rattle.psi_base.specs.declared.faults.Fault.TheVariants as fault
use Rattle.psi_base.specs.declared.faults.FaultKind.{FaultKind}
use Rattle.psi_base.specs.declared.faults.FaultKind.TheVariants as kind
use Rattle.psi_base.specs.declared.faults.ReadFault.{ReadFault}
use Rattle.psi_base.specs.declared.faults.ReadFault.TheVariants as read
use Rattle.psi_base.specs.declared.folder.Folder.{Folder}
use Rattle.psi_base.specs.declared.memory.MemWorld.{MemWorld}
use Rattle.psi_base.specs.declared.opening.Opened.{Opened}
use Rattle.psi_base.specs.declared.schedule.Schedule.{Schedule}

-- the calls of one kind: whether the nth is listed to fail, how many were made, and how many failed
pub record Calls : Type 0 where
  pub listed : ℕ → Bool
  pub made : ℕ
  pub faults : ℕ

-- a world in memory
pub record State : Type 0 where
  pub files : Files
  pub printed : List ℕ
  pub incoming : Coming
  pub outgoing : List ℕ
  pub most : Option ℕ  -- how many bytes a print or a send takes at most, if that is limited
  pub file_calls : Calls
  pub link_calls : Calls
  pub print_calls : Calls
  pub ends : ℕ
  pub refusals : ℕ
  pub ready : Bool
  pub opened : Option Link  -- how the link was opened last, if it was

-- the files of a folder
abbrev pub files_of : Folder → Files
files_of folder = λ name. option_map (λ bytes. bytes.items) (get_by_text folder.files name)

-- no files
abbrev pub no_files : Files
no_files = λ name. None

-- what a schedule holds
abbrev pub calls_of : Schedule → Calls
calls_of calls = record { listed = contains nat_cmp calls.listed; made = calls.made; faults = calls.faults }

-- how a link was opened
abbrev pub link_of : Opened → Link
link_of opened = record { side = opened.side; address = string_bytes opened.address }

-- what a world in memory holds
abbrev pub state_of : MemWorld → State
state_of world = record {
  files = files_of world.files;
  printed = world.printed.items;
  incoming = world.incoming;
  outgoing = world.outgoing.items;
  most = world.most;
  file_calls = calls_of world.file_calls;
  link_calls = calls_of world.link_calls;
  print_calls = calls_of world.print_calls;
  ends = world.ends;
  refusals = world.refusals;
  ready = world.ready;
  opened = option_map link_of world.opened;
}

-- what it tells: all its contents; it is not steady
abbrev pub outside_of : State → Outside
outside_of m = record {
  files = Some m.files;
  printed = Some m.printed;
  incoming = Some m.incoming.bytes;
  outgoing = Some m.outgoing;
  file_faults = m.file_calls.faults;
  link_faults = m.link_calls.faults;
  print_faults = m.print_calls.faults;
  ends = m.ends;
  refusals = m.refusals;
  ready = m.ready;
  opened = m.opened;
  steady = false;
}

-- no call is listed, and none was made
abbrev pub no_calls : Calls
no_calls = record { listed = λ n. false; made = 0; faults = 0 }

-- no files, no bytes, and a link that is not ready
abbrev pub empty_state : State
empty_state = record {
  files = no_files;
  printed = [];
  incoming = no_coming;
  outgoing = [];
  most = None;
  file_calls = no_calls;
  link_calls = no_calls;
  print_calls = no_calls;
  ends = 0;
  refusals = 0;
  ready = false;
  opened = None;
}

-- one more, up to the greatest u64
abbrev pub next_count : ℕ → ℕ
next_count n = min (n + 1) (2 ^ 64 - 1)

-- the calls where the nth is listed too
abbrev pub with_listed : Calls → ℕ → Calls
with_listed calls nth = record calls { listed = λ n. (nth == n) || calls.listed n }

-- the calls after one more was made
abbrev pub with_call : Calls → Calls
with_call calls = record calls { made = next_count calls.made }

-- the calls after one more failed
abbrev pub with_fault : Calls → Calls
with_fault calls = record calls { faults = next_count calls.faults }

-- whether the next call is listed
abbrev pub next_listed : Calls → Bool
next_listed calls = calls.listed calls.made

-- the state after this file was put
abbrev pub state_with_file : State → List ℕ → List ℕ → State
state_with_file m name bytes = record m { files = with_file m.files name bytes }

-- the state where these bytes are to come over the link, in these pieces
abbrev pub state_with_incoming : State → List ℕ → List ℕ → State
state_with_incoming m bytes cuts = record m { incoming = record { bytes = bytes; cuts = cuts } }

-- the state where a print or a send takes at most so many bytes
abbrev pub state_with_most : State → ℕ → State
state_with_most m most = record m { most = Some most }

-- the state where the nth call of this kind is listed too
abbrev pub state_with_failure : State → FaultKind → ℕ → State
state_with_failure m kind.File nth = record m { file_calls = with_listed m.file_calls nth }
state_with_failure m kind.Link nth = record m { link_calls = with_listed m.link_calls nth }
state_with_failure m kind.Print nth = record m { print_calls = with_listed m.print_calls nth }

-- what a read of at most max bytes of this content answers, where memory lasts
abbrev pub content_answer : Option (List ℕ) → ℕ → Result (List ℕ) ReadFault
content_answer None max = Err read.Failed
content_answer (Some bytes) max = if nat_lt max (length bytes) then Err (read.TooLong (max + 1)) else Ok bytes

-- what the next read answers, where memory lasts
abbrev pub read_answer : State → List ℕ → ℕ → Result (List ℕ) ReadFault
read_answer m name max = if next_listed m.file_calls then Err read.Failed else content_answer (m.files name) max

-- the state after a read or a write that was not listed
abbrev pub state_with_file_call : State → State
state_with_file_call m = record m { file_calls = with_call m.file_calls }

-- the state after a read or a write that failed
abbrev pub state_with_file_fault : State → State
state_with_file_fault m = record m { file_calls = with_fault (with_call m.file_calls) }

-- the state after a call of the link that was not listed
abbrev pub state_with_link_call : State → State
state_with_link_call m = record m { link_calls = with_call m.link_calls }

-- the state after a call of the link that failed
abbrev pub state_with_link_fault : State → State
state_with_link_fault m = record m { link_calls = with_fault (with_call m.link_calls) }

-- the state after a print that was not listed
abbrev pub state_with_print_call : State → State
state_with_print_call m = record m { print_calls = with_call m.print_calls }

-- the state after a print that failed
abbrev pub state_with_print_fault : State → State
state_with_print_fault m = record m { print_calls = with_fault (with_call m.print_calls) }

-- the state after a call that was refused for want of memory
abbrev pub state_with_refusal : State → State
state_with_refusal m = record m { refusals = next_count m.refusals }

-- what a read answers and leaves; where it would answer bytes, memory may be wanting
abbrev pub ReadsExactly : State → List ℕ → ℕ → Result (List ℕ) ReadFault → State → Type 0
ReadsExactly old name max (Ok bytes) new = (read_answer old name max ≡ Ok bytes) × (new ≡ state_with_file_call old)
ReadsExactly old name max (Err read.Failed) new =
    (read_answer old name max ≡ Err read.Failed) × (new ≡ state_with_file_fault old)
ReadsExactly old name max (Err (read.TooLong taken)) new =
    (read_answer old name max ≡ Err (read.TooLong taken)) × (new ≡ state_with_file_call old)
ReadsExactly old name max (Err read.NoMemory) new = IsOk (read_answer old name max) × (new ≡ state_with_file_call old)

-- what a write answers and leaves: a listed one fails, and another writes the file, if memory lasts
abbrev pub WritesExactly : State → List ℕ → List ℕ → Result (Unit {0}) Fault → State → Type 0
WritesExactly old name bytes (Ok _) new =
    (next_listed old.file_calls ≡ false) × (new ≡ state_with_file (state_with_file_call old) name bytes)
WritesExactly old name bytes (Err fault.Failed) new =
    (next_listed old.file_calls ≡ true) × (new ≡ state_with_file_fault old)
WritesExactly old name bytes (Err fault.NoMemory) new =
    (next_listed old.file_calls ≡ false) × (new ≡ state_with_refusal (state_with_file_call old))

-- what a print answers and leaves: a listed one fails, and another prints the front of the bytes that a call takes, if
-- memory lasts
abbrev pub PrintsExactly : State → List ℕ → Result ℕ Fault → State → Type 0
PrintsExactly old bytes (Ok k) new =
    (next_listed old.print_calls ≡ false) × (k ≡ length (front old.most bytes))
    × (new ≡ record (state_with_print_call old) { printed = old.printed ++ front old.most bytes })
PrintsExactly old bytes (Err fault.Failed) new =
    (next_listed old.print_calls ≡ true) × (new ≡ state_with_print_fault old)
PrintsExactly old bytes (Err fault.NoMemory) new =
    (next_listed old.print_calls ≡ false) × (new ≡ state_with_refusal (state_with_print_call old))

-- what an opening of a link answers and leaves: a listed one fails, and another is done, if memory lasts for the
-- address
abbrev pub OpensExactly : State → Link → Result (Unit {0}) Fault → State → Type 0
OpensExactly old link (Ok _) new =
    (next_listed old.link_calls ≡ false)
    × (new ≡ record (state_with_link_call old) { ready = true; opened = Some link })
OpensExactly old link (Err fault.Failed) new = (next_listed old.link_calls ≡ true) × (new ≡ state_with_link_fault old)
OpensExactly old link (Err fault.NoMemory) new =
    (next_listed old.link_calls ≡ false) × (new ≡ state_with_refusal (state_with_link_call old))

-- the ends that were met, after so many bytes came
abbrev pub ends_after : ℕ → ℕ → ℕ
ends_after ends count = if count == 0 then next_count ends else ends

-- what a receive into a buffer answers and leaves, in the buffer too: a listed one fails, and another takes all that
-- the buffer has room for, up to the end of the next piece
abbrev pub ReceivesExactly : State → List ℕ → Result ℕ Failed → List ℕ → State → Type 0
ReceivesExactly old before (Ok count) after new =
    (next_listed old.link_calls ≡ false) × (count ≡ next_len old.incoming (length before))
    × (after ≡ buffer_after old.incoming count before)
    × (new ≡ record (state_with_link_call old) {
      incoming = coming_after old.incoming count;
      ends = ends_after old.ends count;
    })
ReceivesExactly old before (Err _) after new =
    (next_listed old.link_calls ≡ true) × (after ≡ before) × (new ≡ state_with_link_fault old)

-- what a send answers and leaves: a listed one fails, and another sends the front of the bytes that a call takes, if
-- memory lasts
abbrev pub SendsExactly : State → List ℕ → Result ℕ Fault → State → Type 0
SendsExactly old bytes (Ok k) new =
    (next_listed old.link_calls ≡ false) × (k ≡ length (front old.most bytes))
    × (new ≡ record (state_with_link_call old) { outgoing = old.outgoing ++ front old.most bytes })
SendsExactly old bytes (Err fault.Failed) new = (next_listed old.link_calls ≡ true) × (new ≡ state_with_link_fault old)
SendsExactly old bytes (Err fault.NoMemory) new =
    (next_listed old.link_calls ≡ false) × (new ≡ state_with_refusal (state_with_link_call old))
