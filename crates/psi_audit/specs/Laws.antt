-- The laws of verdicts.
use Rattle.std.specs.Prelude.{◌≡◌, ◌≢◌, ◌+◌, ◌^◌, ◌<◌, ℕ, List, length}
use Rattle.psi_spec.specs.Deals.{ReceiverDeal, SenderDeal, IsReceiverDeal, IsSenderDeal}
use Rattle.psi_spec.specs.Meeting.{placed_of}
use Rattle.psi_spec.specs.Records.{IsWire, LoggedSession, wire_place}
use Rattle.psi_spec.specs.Sessions.{session_bytes}
use Rattle.psi_cuckoo.specs.declared.errors.BadSlots.TheVariants.{NoMemory}
use Rattle.psi_audit.specs.Verdicts.{verdict_of}
use Rattle.psi_audit.specs.declared.verdict.Verdict.TheVariants.{Differs, Slots}

-- no verdict on slots is want of memory
abbrev pub SlotsHaveFaults : Type 0
SlotsHaveFaults =
    (receiver : ReceiverDeal) (sender : SenderDeal) (xs ys : List (List ℕ)) (log : LoggedSession)
    → verdict_of receiver sender xs ys log ≢ Slots NoMemory

-- a place lies behind the slots of a record, inside its frames and inside those of the session
pub record LiesInside (log : LoggedSession) (session : List ℕ) (offset : ℕ) : Type 0 where
  pub place : ℕ
  pub behind : offset ≡ wire_place (length log.slots) + place
  pub recorded : place < length log.wire
  pub played : place < length session

-- the first difference of recorded frames lies inside both byte strings
abbrev pub DifferencesLieInside : Type 0
DifferencesLieInside =
    (receiver : ReceiverDeal) (sender : SenderDeal) (xs ys : List (List ℕ)) (log : LoggedSession)
    (offset found wanted : ℕ) → IsReceiverDeal receiver → IsSenderDeal sender → length xs < 2 ^ 32 → IsWire log.wire
    → verdict_of receiver sender xs ys log ≡ Differs offset found wanted
    → LiesInside log (session_bytes receiver sender (placed_of xs log.slots) ys) offset
