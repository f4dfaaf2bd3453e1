-- What callers read of `audit`, in its own words.
use Rattle.std.specs.Prelude.{◌≡◌, ◌≢◌, ◌+◌, ◌<◌, ◌≤◌, ◌==◌, ◌⊎◌, ℕ, List, [], length, map, slice_get, take, Some, None, if◌then◌else◌}
use Rattle.psi_spec.specs.Collisions.{collisions, shown_places}
use Rattle.psi_spec.specs.DealFiles.{receiver_bytes, sender_bytes}
use Rattle.psi_spec.specs.Deals.{ReceiverDeal, SenderDeal, ArePair, IsReceiverDeal, IsSenderDeal}
use Rattle.psi_spec.specs.Items.{items_of}
use Rattle.psi_spec.specs.Limits.{bins_for, file_limit, record_limit}
use Rattle.psi_spec.specs.Meeting.{Setup, placed_of}
use Rattle.psi_spec.specs.Placement.{IsPlacementOf}
use Rattle.psi_spec.specs.Records.{LoggedSession, logged_of, wire_place}
use Rattle.psi_spec.specs.SessionLaws.{pair_setup}
use Rattle.psi_spec.specs.Sessions.{session_bytes}
use Rattle.psi_words.specs.Words.{word_at}
use Rattle.psi_base.specs.Outside.{Known, Outside, Files, printed_too}
use Rattle.psi_deal.specs.Differences.{first_difference}
use Rattle.psi_log.specs.BadRecords.{bad_record}
use Rattle.psi_audit.specs.Verdicts.{places_of, slots_fault}
use Rattle.psi_auditor.specs.Audit.{audit_text}
use Rattle.psi_walk.specs.JudgedFiles.{HasBadLine, HasBadReceiverDeal, HasBadRecord, HasBadSenderDeal, HasItems, HasReceiverDeal, HasRecord, HasSenderDeal}
use Rattle.psi_walk.specs.Promises.{IsCalm, IsDone, IsSilent, ReadFailed}
use Rattle.psi_walk.specs.Tree.{End}
use Rattle.psi_auditor.specs.declared.findings.Findings.{Findings}
use Rattle.psi_texts.specs.declared.status.Status.{Status}
use Rattle.psi_texts.specs.declared.status.Status.TheVariants.{Done, BadItems, BadDeal, Differs, BadSlots, BadRecord, FileFault, PrintFault, TooLong, DealsDiffer, NoMemory}
use Rattle.psi_walk.specs.Inputs.{OnFirstOrSecond, HasList, AfterItems, AfterLists, AfterDeal}

-- ---- what it reads

-- both lists, both deals, and what the record holds
pub record Evidence : Type 0 where
  pub xs : List (List ℕ)
  pub ys : List (List ℕ)
  pub receiver : ReceiverDeal
  pub sender : SenderDeal
  pub log : LoggedSession

-- all five files were read and judged, and hold this
pub record HasEvidence (known : Known) (words : List (List ℕ)) (before : Outside) (e : Evidence) : Type 0 where
  pub x_file : HasItems known words before 1 e.xs
  pub y_file : HasItems known words before 2 e.ys
  pub r_file : HasReceiverDeal known words before 3 e.receiver
  pub s_file : HasSenderDeal known words before 4 e.sender
  pub log_file : HasRecord known words before 5 e.log

-- the same, and a fact holds of what they hold
abbrev pub OnEvidence : Known → List (List ℕ) → Outside → (Evidence → Type 0) → Type 0
OnEvidence known words before P = (e : Evidence) × HasEvidence known words before e × P e

-- the first four files were read and judged
abbrev pub AfterDeals : Known → List (List ℕ) → Outside → Type 0
AfterDeals known words before =
    AfterDeal known words before × ((deal : SenderDeal) × HasSenderDeal known words before 4 deal)

-- the file of this word is due: each file before it was read and judged
abbrev pub IsDueFile : Known → List (List ℕ) → Outside → ℕ → Type 0
IsDueFile known words before word =
    (word ≡ 1)
    ⊎ (((word ≡ 2) × AfterItems known words before 1)
    ⊎ (((word ≡ 3) × AfterLists known words before)
    ⊎ (((word ≡ 4) × AfterDeal known words before)
    ⊎ ((word ≡ 5) × AfterDeals known words before))))

-- how many bytes of the file of a word are read at most
abbrev pub limit_of : ℕ → ℕ
limit_of word = if word == 5 then record_limit else file_limit

-- ---- what it finds

-- the setup of the recorded session
abbrev pub setup_in : Evidence → Setup
setup_in e = pair_setup e.receiver e.sender e.xs e.log.slots

-- the bytes of the session of both lists and both deals, with the recorded slots
abbrev pub session_in : Evidence → List ℕ
session_in e = session_bytes e.receiver e.sender (placed_of e.xs e.log.slots) e.ys

-- the deals are a pair, and the recorded slots are a placement of the receiver's items
pub record IsPlayable (e : Evidence) : Type 0 where
  pub pair : ArePair e.receiver e.sender
  pub placement : IsPlacementOf e.receiver.stash e.receiver.key (bins_for (length e.xs)) e.xs e.log.slots

-- so they are, and the recorded frames are those of the session
pub record IsConsistent (e : Evidence) : Type 0 where
  pub playable : IsPlayable e
  pub session : e.log.wire ≡ session_in e

-- what it shows: the places of the items that are shown, and those of the collisions
abbrev pub findings_in : Evidence → Findings
findings_in e = record {
  shown = shown_places (setup_in e) e.ys;
  collisions = map places_of (collisions (setup_in e) e.ys);
}

-- the text that says so
abbrev pub text_in : Evidence → List ℕ
text_in e = audit_text (length (findings_in e).shown) (findings_in e).collisions

-- both byte strings have a byte at this place, these are them and differ, and all bytes before are the same
pub record DifferAt (recorded session : List ℕ) (place found wanted : ℕ) : Type 0 where
  pub before : take place recorded ≡ take place session
  pub found_there : slice_get recorded place ≡ Some found
  pub wanted_there : slice_get session place ≡ Some wanted
  pub apart : found ≢ wanted

-- the record can be played, and at this place, counted from its start, is the first byte that is not the session's
abbrev pub DiffersFrom : ℕ → ℕ → ℕ → Evidence → Type 0
DiffersFrom offset found wanted e =
    IsPlayable e
    × ((place : ℕ) × (offset ≡ wire_place (length e.log.slots) + place)
    × DifferAt e.log.wire (session_in e) place found wanted)

-- ---- what it may answer

-- what `audit` may answer, and why, in every world: the files are judged in order, then the deals, the recorded slots
-- and the recorded frames, and then the text is printed
abbrev pub AuditAnswers : Known → List (List ℕ) → Outside → Status → Outside → Type 0
AuditAnswers known words before Done after =
    OnEvidence known words before (λ e. IsConsistent e × (after ≡ printed_too before (text_in e)))
AuditAnswers known words before (BadItems place fault) after =
    OnFirstOrSecond known words before (λ word. (place ≡ word) × HasBadLine known words before word fault)
AuditAnswers known words before (BadDeal place fault) after =
    ((place ≡ 3) × AfterLists known words before × HasBadReceiverDeal known words before 3 fault)
    ⊎ ((place ≡ 4) × AfterDeal known words before × HasBadSenderDeal known words before 4 fault)
AuditAnswers known words before (BadRecord fault) after =
    AfterDeals known words before × HasBadRecord known words before 5 fault
AuditAnswers known words before (DealsDiffer field) after =
    OnEvidence known words before (λ e. first_difference e.receiver e.sender ≡ Some field)
AuditAnswers known words before (BadSlots fault) after =
    OnEvidence known words before
    (λ e. ArePair e.receiver e.sender × (slots_fault e.receiver e.xs e.log.slots ≡ Some fault))
AuditAnswers known words before (Differs offset found wanted) after =
    OnEvidence known words before (DiffersFrom offset found wanted)
AuditAnswers known words before (FileFault place) after =
    IsDueFile known words before place × ReadFailed known words place
AuditAnswers known words before (TooLong place taken) after =
    IsDueFile known words before place × (limit_of place < taken)
AuditAnswers known words before PrintFault after = OnEvidence known words before IsConsistent
AuditAnswers known words before NoMemory after = Unit {0}
AuditAnswers known words before _ after = ⊥

-- ---- completeness

-- all five files are there: lists without a bad line, a pair of deals, and a record of the session of these
pub record CanAudit (words : List (List ℕ)) (files : Files) : Type 0 where
  pub x : HasList words files 1
  pub y : HasList words files 2
  pub receiver : ReceiverDeal
  pub receiver_is : IsReceiverDeal receiver
  pub r_there : files (word_at words 3) ≡ Some (receiver_bytes receiver)
  pub sender : SenderDeal
  pub sender_is : IsSenderDeal sender
  pub s_there : files (word_at words 4) ≡ Some (sender_bytes sender)
  pub log_bytes : List ℕ
  pub log_there : files (word_at words 5) ≡ Some log_bytes
  pub log_short : length log_bytes ≤ record_limit
  pub log_good : bad_record log_bytes ≡ None
  pub consistent : IsConsistent (record {
    xs = items_of x.bytes;
    ys = items_of y.bytes;
    receiver = receiver;
    sender = sender;
    log = logged_of log_bytes;
  })

-- then `audit` is done in a calm world, or memory was wanting
abbrev pub AuditCompletes : List (List ℕ) → Outside → End → Type 0
AuditCompletes words before end =
    (files : Files) → before.files ≡ Some files → CanAudit words files → IsCalm before end.left → IsDone end.status

-- ---- all of it

-- all that `audit` promises: it answers so, sends and takes nothing, places no set, and completes
pub record AuditPromise (known : Known) (words : List (List ℕ)) (before : Outside) (end : End) : Type 0 where
  pub answers : AuditAnswers known words before end.status end.left
  pub silent : IsSilent before end.left
  pub places_none : end.placed ≡ []
  pub completes : AuditCompletes words before end
