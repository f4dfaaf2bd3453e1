-- A session over the link: how an end sends what it owes, takes the frames that are due, and stops.
use Rattle.std.specs.Prelude.{◌≡◌, ◌<◌, ◌≤◌, ◌++◌, ℕ, List, [], ◌∷◌, length, take, drop, Some, Result, Ok, Err, IfSome, IsTrue, option_map}
use Rattle.psi_spec.specs.Frames.{Frame, layout}
use Rattle.psi_base.specs.Outside.{Known, Outside, LinkFailed, Rose, Starved, sent_too}
use Rattle.psi_base.specs.declared.faults.Fault.{Fault}
use Rattle.psi_base.specs.declared.faults.Fault.TheVariants as outside
use Rattle.psi_frames.specs.declared.expect.Expect.{Expect}
use Rattle.psi_frames.specs.declared.reasons.BadFrame.{BadFrame}
use Rattle.psi_frames.specs.declared.turns.EndFault.{EndFault}
use Rattle.psi_frames.specs.declared.turns.EndFault.TheVariants as fault
use Rattle.psi_frames.specs.Expected.{IsBegun, IsValid, frame_length, wrong}
use Rattle.psi_frames.specs.Boxes.{InboxState, with_lent}
use Rattle.psi_frames.specs.Dialogue.{AreInTurn, Talks, WereTaken}
use Rattle.psi_frames.specs.Script.{EndState, IsRead, Keeps, KeepsOn, Script, after_taking, dialogue_of, wanted_of, wire_for}

-- why a session ends where a send is refused
abbrev pub send_fault : Fault → EndFault
send_fault outside.Failed = fault.Link
send_fault outside.NoMemory = fault.NoMemory

-- all the bytes were sent, or a front of them that ends before the last, and then a send was refused
abbrev pub SendsAll : Outside → List ℕ → Result (Unit {0}) EndFault → Outside → Type 0
SendsAll old bytes (Ok _) new = new ≡ sent_too old bytes
SendsAll old bytes (Err fault.Link) new = (k : ℕ) × (k < length bytes) × LinkFailed (sent_too old (take k bytes)) new
SendsAll old bytes (Err fault.NoMemory) new = (k : ℕ) × (k < length bytes) × Starved (sent_too old (take k bytes)) new
SendsAll old bytes (Err _) new = ⊥

-- the outside after these bytes of the link were taken
abbrev pub without_front : Outside → List ℕ → Outside
without_front old bytes = record old { incoming = option_map (λ all. drop (length bytes) all) old.incoming }

-- these bytes were taken from the link, behind those that came of the frame that is due, each receive no more of them
-- than were then wanted, and nothing else changed
pub record Took (known : Known) (e : Expect) (held : List ℕ) (old : Outside) (bytes : List ℕ) (new : Outside)
    : Type 0 where
  pub were_taken : WereTaken known old.incoming bytes
  pub in_turn : AreInTurn (wanted_of e) held were_taken.pieces
  pub left : new ≡ without_front old bytes

-- the peer sent no more bytes, which was counted
pub record PeerEnded (old new : Outside) : Type 0 where
  pub none : IfSome old.incoming (λ bytes. bytes ≡ [])
  pub rose : Rose old.ends new.ends
  pub left : new ≡ record old { ends = new.ends }

-- some bytes of the frame that is due came into the inbox, and none past it
pub record Came (known : Known) (e : Expect) (box : InboxState) (old : Outside) (box' : InboxState) (new : Outside)
    : Type 0 where
  pub piece : List ℕ
  pub some : 0 < length piece
  pub within : length (box.held ++ piece) ≤ frame_length e
  pub took : Took known e box.held old piece new
  pub held : box' ≡ record box { held = box.held ++ piece }

-- what one receive for the frame that is due may answer and leave
abbrev pub Fills : Known → Expect → InboxState → Outside → Result (Unit {0}) EndFault → InboxState → Outside → Type 0
Fills known e box old (Ok _) box' new = Came known e box old box' new
Fills known e box old (Err (fault.PeerEnded offset)) box' new = (offset ≡ box.offset) × PeerEnded old new
Fills known e box old (Err fault.Link) box' new = LinkFailed old new
Fills known e box old (Err _) box' new = ⊥

-- the frame that is due was taken, and this was told of it
pub record Heard (known : Known) (e : Expect) (Told : Frame → Type 0) (state : EndState) (box : InboxState)
    (old : Outside) (state' : EndState) (box' : InboxState) (new : Outside) : Type 0 where
  pub frame : Frame
  pub valid : IsValid e frame
  pub took : Took known e [] old (layout frame) new
  pub goes_on : state' ≡ after_taking frame state
  pub lent : box' ≡ with_lent e box
  pub told : Told frame

-- a field of the bytes that came is the first wrong one
pub record Refused (known : Known) (e : Expect) (box : InboxState) (old : Outside) (frame : BadFrame) (new : Outside)
    : Type 0 where
  pub bytes : List ℕ
  pub within : length bytes ≤ frame_length e
  pub first : wrong e bytes ≡ Some frame.reason
  pub place : frame.offset ≡ box.offset
  pub took : Took known e [] old bytes new

-- the bytes that came only begin the frame, and then no more came for this cause
pub record Stopped (known : Known) (e : Expect) (old : Outside) (cause : Outside → Type 0) : Type 0 where
  pub bytes : List ℕ
  pub mid : Outside
  pub begun : IsBegun e bytes
  pub took : Took known e [] old bytes mid
  pub why : cause mid

-- the frame that is due came, but the end, which had taken none, had no memory for it
pub record Unheard (known : Known) (e : Expect) (state : EndState) (old new : Outside) : Type 0 where
  pub frame : Frame
  pub valid : IsValid e frame
  pub took : Took known e [] old (layout frame) new
  pub early : IsTrue state.is_new

-- what the wait for the frame that is due may answer and leave, where this is told of a frame that was taken
abbrev pub Hears : Known → Expect → (Frame → Type 0) → EndState → InboxState → Outside → Result (Unit {0}) EndFault
    → EndState → InboxState → Outside → Type 0
Hears known e Told state box old (Ok _) state' box' new = Heard known e Told state box old state' box' new
Hears known e Told state box old (Err (fault.Bad frame)) state' box' new = Refused known e box old frame new
Hears known e Told state box old (Err (fault.PeerEnded offset)) state' box' new =
    (offset ≡ box.offset) × Stopped known e old (λ mid. PeerEnded mid new)
Hears known e Told state box old (Err fault.Link) state' box' new = Stopped known e old (λ mid. LinkFailed mid new)
Hears known e Told state box old (Err fault.NoMemory) state' box' new = Unheard known e state old new

-- what an end keeps went on with a frame that it took
abbrev pub KeepsFrame : {End : Type 0} → Keeps End → Keeps End → Frame → Type 0
KeepsFrame old new frame = KeepsOn old new (frame ∷ []) (layout frame)

-- what an end keeps went on with all frames that its script awaits, and with all that then stands on the wire
abbrev pub KeepsAll : {End : Type 0} → Script → Keeps End → Keeps End → List Frame → Type 0
KeepsAll script old new frames = KeepsOn old new frames (wire_for script frames)

-- what a session of an end with this script may answer and leave: the bytes that were taken are those of all frames
-- that it awaits, of which this is told, or the session ended early
abbrev pub ConversesWith : Known → Script → (List Frame → Type 0) → Outside → Result (Unit {0}) EndFault → Outside
    → Type 0
ConversesWith known script Told before (Ok _) after =
    (taken : List ℕ) × Talks known (dialogue_of script) before (Ok taken) after
    × (frames : List Frame) × IsRead script frames taken × Told frames
ConversesWith known script Told before (Err why) after = Talks known (dialogue_of script) before (Err why) after

-- the same, where nothing more is told
abbrev pub Converses : Known → Script → Outside → Result (Unit {0}) EndFault → Outside → Type 0
Converses known script before (Ok _) after =
    (taken : List ℕ) × Talks known (dialogue_of script) before (Ok taken) after
    × (frames : List Frame) × IsRead script frames taken
Converses known script before (Err why) after = Talks known (dialogue_of script) before (Err why) after
