-- The laws of records.
use Rattle.std.specs.Prelude.{◌≡◌, ◌+◌, ◌*◌, ℕ, List, [], ◌++◌, fold, length, None}
use Rattle.std.specs.List.{flat_map}
use Rattle.psi_spec.specs.DealFiles.{sealed}
use Rattle.psi_spec.specs.Placement.{Slot}
use Rattle.psi_spec.specs.Records.{IsLogged, IsWire, LoggedSession, logged_of, record_file, record_front}
use Rattle.psi_spec.specs.Frames.{receiver_hello, sender_hello}
use Rattle.psi_spec.specs.Sessions.{moves_with, wire_bytes}
use Rattle.psi_spec.specs.Streams.{IsReceiverStream, IsSenderStream}
use Rattle.psi_log.specs.BadRecords.{bad_record}

-- bytes that are added piece by piece behind the front of some slots, and are sealed then, are the record of those
-- slots and of the joined pieces
abbrev pub WrittenInPieces : Type 0
WrittenInPieces =
    (slots : List Slot) (pieces : List (List ℕ))
    → sealed (fold (λ bytes piece. bytes ++ piece) (record_front slots) pieces)
    ≡ record_file slots (flat_map (λ piece. piece) pieces)

-- the record of slots and frames is not refused, and spells them
abbrev pub RecordsReadBack : Type 0
RecordsReadBack =
    (session : LoggedSession) → IsLogged session
    → (bad_record (record_file session.slots session.wire) ≡ None)
    × (logged_of (record_file session.slots session.wire) ≡ session)

-- the bytes of frames up to the first of kind 5 do not go on as others
abbrev pub WiresEnd : Type 0
WiresEnd = (wire more : List ℕ) → IsWire wire → IsWire (wire ++ more) → more ≡ []

-- the record of a session has 9 bytes, 5 of each slot, as many as both streams, and 32 of its hash
abbrev pub RecordsHaveSizes : Type 0
RecordsHaveSizes =
    (stash : ℕ) (id : List ℕ) (session tag_length m n : ℕ) (columns : List (List ℕ)) (lists : List (List (List ℕ)))
    (own peer : List ℕ) (slots : List Slot)
    → IsReceiverStream stash id session m columns own
    → IsSenderStream stash id session tag_length n lists peer
    → let hello = receiver_hello id session m in
    let answer = sender_hello id session n in
    length (record_file slots (wire_bytes (moves_with hello answer columns lists)))
    ≡ 9 + 5 * length slots + length own + length peer + 32
