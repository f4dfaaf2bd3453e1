-- One end of a session over the link: what the peer's bytes mean, and what is sent for them.
use Rattle.std.specs.Prelude.{◌≡◌, ◌≤◌, ◌⊎◌, ◌-◌, ◌++◌, ℕ, List, [], ◌∷◌, All, length, take, drop, Option, option_map, Result, Ok, Err, IfSome, ⊤}
use Rattle.std.specs.List.{flat_map}
use Rattle.psi_spec.specs.Frames.{AreBytes}
use Rattle.psi_base.specs.Outside.{Known, Outside, LinkFailed, Rose, Starved}
use Rattle.psi_frames.specs.declared.reasons.BadFrame.{BadFrame}
use Rattle.psi_frames.specs.declared.turns.EndFault.{EndFault}
use Rattle.psi_frames.specs.declared.turns.EndFault.TheVariants as fault

-- how a peer's bytes read: a whole stream stands at their front, a frame in them is bad, or more must come for the
-- frame that begins at a place
pub data Reading : Type 0 where
  good : List ℕ → Reading
  bad : BadFrame → Reading
  short : ℕ → Reading

-- an end of a session: how the peer's bytes read, and once these bytes of the peer were taken, all that is to be sent,
-- and how many more may be taken: up to the end of the frame that is due, and none behind a wrong field
pub record Dialogue : Type 0 where
  pub reads_as : List ℕ → Reading
  pub owes : List ℕ → List ℕ
  pub wants : List ℕ → ℕ

-- what was owed before the last of these bytes was taken
abbrev pub owed_before : Dialogue → List ℕ → List ℕ
owed_before d [] = []
owed_before d taken = d.owes (take (length taken - 1) taken)

-- the peer's bytes begin so, where they are told, and are made of what receives took
pub record WereTaken (known : Known) (incoming : Option (List ℕ)) (taken : List ℕ) : Type 0 where
  pub pieces : List (List ℕ)
  pub joined : taken ≡ flat_map (λ piece. piece) pieces
  pub came : All known.comes pieces
  pub are_bytes : AreBytes taken
  pub next : IfSome incoming (λ bytes. take (length taken) bytes ≡ taken)

-- receives took these pieces, one after another behind those bytes: each no more than was wanted when it came
abbrev pub AreInTurn : (List ℕ → ℕ) → List ℕ → List (List ℕ) → Type 0
AreInTurn wants taken [] = ⊤
AreInTurn wants taken (piece ∷ pieces) = (length piece ≤ wants taken) × AreInTurn wants (taken ++ piece) pieces

-- a reading in which no field is wrong
abbrev pub IsRight : Reading → Type 0
IsRight (bad frame) = ⊥
IsRight reading = ⊤

-- the bytes that were taken read so, and so do all of the peer's, where they are told
pub record ReadSo (d : Dialogue) (incoming : Option (List ℕ)) (taken : List ℕ) (reading : Reading) : Type 0 where
  pub taken_so_far : d.reads_as taken ≡ reading
  pub all : IfSome incoming (λ bytes. d.reads_as bytes ≡ reading)

-- the outside after these bytes were sent and those taken
abbrev pub talked : Outside → List ℕ → List ℕ → Outside
talked before sent taken = record before {
  outgoing = option_map (λ gone. gone ++ sent) before.outgoing;
  incoming = option_map (λ bytes. drop (length taken) bytes) before.incoming;
}

-- a session was cut off: these bytes were taken, none past the frame that was due and none of them wrong, and so many
-- sent, at least those that were owed before the last byte was taken, and no more than those that are owed
pub record CutOff (known : Known) (d : Dialogue) (before : Outside) (cause : ℕ → Outside → Type 0) : Type 0 where
  pub taken : List ℕ
  pub sent : ℕ
  pub were_taken : WereTaken known before.incoming taken
  pub in_turn : AreInTurn d.wants [] were_taken.pieces
  pub right : IsRight (d.reads_as taken)
  pub least : length (owed_before d taken) ≤ sent
  pub most : sent ≤ length (d.owes taken)
  pub why : cause sent (talked before (take sent (d.owes taken)) taken)

-- a session ended at a bad frame: nothing was taken past that frame, nor by a receive behind the wrong field, and just
-- what was owed before that frame was sent
pub record HeardBad (known : Known) (d : Dialogue) (before : Outside) (frame : BadFrame) (after : Outside)
    : Type 0 where
  pub taken : List ℕ
  pub were_taken : WereTaken known before.incoming taken
  pub in_turn : AreInTurn d.wants [] were_taken.pieces
  pub reads : ReadSo d before.incoming taken (bad frame)
  pub left : after ≡ talked before (d.owes (take frame.offset taken)) taken

-- a session ended with the peer's bytes: just what was owed before the frame that was due was sent, and the end counted
pub record HeardShort (known : Known) (d : Dialogue) (before : Outside) (offset : ℕ) (after : Outside) : Type 0 where
  pub taken : List ℕ
  pub were_taken : WereTaken known before.incoming taken
  pub in_turn : AreInTurn d.wants [] were_taken.pieces
  pub reads : ReadSo d before.incoming taken (short offset)
  pub rose : Rose before.ends after.ends
  pub left : after ≡ record (talked before (d.owes (take offset taken)) taken) { ends = after.ends }

-- what a session may answer, the bytes that were taken or why it was cut off, and what it leaves; this end's own memory
-- is wanting only while no more was sent than is owed before the peer's first byte
abbrev pub Talks : Known → Dialogue → Outside → Result (List ℕ) EndFault → Outside → Type 0
Talks known d before (Ok taken) after =
    WereTaken known before.incoming taken × ReadSo d before.incoming taken (good taken)
    × (after ≡ talked before (d.owes taken) taken)
Talks known d before (Err (fault.Bad frame)) after = HeardBad known d before frame after
Talks known d before (Err (fault.PeerEnded offset)) after = HeardShort known d before offset after
Talks known d before (Err fault.Link) after = CutOff known d before (λ sent mid. LinkFailed mid after)
Talks known d before (Err fault.NoMemory) after =
    CutOff known d before (λ sent mid. Starved mid after ⊎ ((sent ≤ length (d.owes [])) × (after ≡ mid)))
