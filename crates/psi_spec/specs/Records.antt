-- Records of sessions: the file of slots and of the frames that both ends exchanged, and what such a file spells.
use Rattle.std.specs.Prelude.{◌≡◌, ◌+◌, ◌-◌, ◌*◌, ◌^◌, ◌<◌, ◌≤◌, ◌==◌, ◌&&◌, ℕ, Bool, not, List, [], ◌∷◌, ◌++◌, All, length, take, drop, slice_index, nat_le, codes, zero, suc, if◌then◌else◌}
use Rattle.std.specs.Int.{w32, to_be_bytes, from_be_bytes}
use Rattle.std.specs.List.{flat_map}
use Rattle.std.specs.Str.{bytes_eq}
use Rattle.psi_spec.specs.DealFiles.{sealed}
use Rattle.psi_spec.specs.Frames.{framed}
use Rattle.psi_spec.specs.Placement.{Slot}

-- the version of a record
abbrev pub record_version : ℕ
record_version = 1

-- where the frames begin behind so many slots
abbrev pub wire_place : ℕ → ℕ
wire_place count = 9 + 5 * count

-- ---- what is written

-- the row and the index of each slot
abbrev pub slots_bytes : List Slot → List ℕ
slots_bytes slots = flat_map (λ slot. to_be_bytes w32 slot.row ++ slot.index ∷ []) slots

-- the front of a record, up to and with its slots
unfoldable pub record_front : List Slot → List ℕ
record_front slots =
    codes "PSIR" ++ (record_version ∷ [] ++ (to_be_bytes w32 (length slots) ++ slots_bytes slots))

-- the record of slots and of the bytes that both ends exchanged
abbrev pub record_file : List Slot → List ℕ → List ℕ
record_file slots wire = sealed (record_front slots ++ wire)

-- a frame whose payload is not looked into
pub record RawFrame : Type 0 where
  pub kind : ℕ
  pub payload : List ℕ

-- the bytes of frames, one after another
abbrev pub frames_bytes : List RawFrame → List ℕ
frames_bytes frames = flat_map (λ frame. framed frame.kind frame.payload) frames

-- a frame before the last: its kind is from 1 to 4, and its length fits four bytes
pub record IsEarlier (frame : RawFrame) : Type 0 where
  pub least : 1 ≤ frame.kind
  pub most : frame.kind ≤ 4
  pub short : length frame.payload < 2 ^ 32

-- the bytes that both ends exchanged: those of frames of kinds 1 to 4, and then of one of kind 5
pub record IsWire (wire : List ℕ) : Type 0 where
  pub earlier : List RawFrame
  pub last : List ℕ
  pub kinds : All IsEarlier earlier
  pub short : length last < 2 ^ 32
  pub joined : wire ≡ frames_bytes earlier ++ framed 5 last

-- what a record holds: the slot of each item, and the bytes that both ends exchanged
pub record LoggedSession : Type 0 where
  pub slots : List Slot
  pub wire : List ℕ

-- the parts of a slot fit their fields
abbrev pub FitsSlot : Slot → Type 0
FitsSlot slot = (slot.row < 2 ^ 32) × (slot.index < 2 ^ 8)

-- the parts of a record fit their fields
pub record IsLogged (session : LoggedSession) : Type 0 where
  pub few : length session.slots < 2 ^ 32
  pub fit : All FitsSlot session.slots
  pub frames : IsWire session.wire

-- ---- what is read

-- n slots of 5 bytes, one after another
unfoldable pub slots_of : ℕ → List ℕ → List Slot
slots_of zero bytes = []
slots_of (suc n) bytes =
    record { row = from_be_bytes w32 (take 4 bytes); index = slice_index bytes 4 } ∷ slots_of n (drop 5 bytes)

-- how many slots a record says that it has
abbrev pub slot_count : List ℕ → ℕ
slot_count bytes = from_be_bytes w32 (take 4 (drop 5 bytes))

-- the record that a file spells: its slots, and what stands between them and the seal
unfoldable pub logged_of : List ℕ → LoggedSession
logged_of bytes = record {
  slots = slots_of (slot_count bytes) (drop 9 bytes);
  wire = take (length bytes - 32 - wire_place (slot_count bytes)) (drop (wire_place (slot_count bytes)) bytes);
}

-- ---- what a reader tests

-- the first four bytes are the magic ones
abbrev pub has_record_magic : List ℕ → Bool
has_record_magic bytes = bytes_eq (take 4 bytes) (codes "PSIR")

-- a frame may have this kind
abbrev pub is_kind : ℕ → Bool
is_kind kind = nat_le 1 kind && nat_le kind 5

-- the length that a frame gives its payload
abbrev pub payload_length : List ℕ → ℕ
payload_length bytes = from_be_bytes w32 (take 4 (drop 1 bytes))

-- how many bytes the frame has that bytes begin with
abbrev pub frame_size : List ℕ → ℕ
frame_size bytes = 5 + payload_length bytes

-- bytes begin with a whole frame
abbrev pub has_frame : List ℕ → Bool
has_frame bytes = is_kind (slice_index bytes 0) && nat_le (frame_size bytes) (length bytes)

-- the frame that bytes begin with
abbrev pub first_frame : List ℕ → RawFrame
first_frame bytes = record { kind = slice_index bytes 0; payload = take (payload_length bytes) (drop 5 bytes) }

-- the whole frames of kinds 1 to 4 that bytes begin with, but at most n
unfoldable pub earlier_of : ℕ → List ℕ → List RawFrame
earlier_of zero bytes = []
earlier_of (suc n) bytes =
    if has_frame bytes && not (slice_index bytes 0 == 5)
    then first_frame bytes ∷ earlier_of n (drop (frame_size bytes) bytes)
    else []

-- the place of the first frame that is of kind 5 or not whole, by the bytes from a place on; they hold no more frames
-- than there are bytes
abbrev pub last_place : ℕ → List ℕ → ℕ
last_place at bytes = at + length (frames_bytes (earlier_of (length bytes) bytes))
