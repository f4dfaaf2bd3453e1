-- Why bytes are no record.
use Rattle.std.specs.Prelude.{◌≡◌, ◌+◌, ◌≤◌, ◌==◌, ℕ, true, false, not, List, [], ◌∷◌, length, drop, slice_index, nat_lt, Option, Some, None, Result, Ok, Err, if◌then◌else◌}
use Rattle.psi_spec.specs.DealFiles.{is_sealed}
use Rattle.psi_spec.specs.Records.{record_version, wire_place, slot_count, has_record_magic, is_kind, has_frame, frame_size, last_place}
use Rattle.psi_log.specs.declared.errors.BadRecord.{BadRecord}
use Rattle.psi_log.specs.declared.errors.BadRecord.TheVariants.{Magic, Version, Short, Kind, Seal, Trailing, NoMemory}

-- why bytes at this place do not begin with a whole frame
abbrev pub bad_frame : ℕ → List ℕ → BadRecord
bad_frame at [] = Short at
bad_frame at (kind ∷ rest) = if is_kind kind then Short at else Kind at kind

-- the frame at this place of bytes: where it ends, or why it is not whole
abbrev pub EndsFrame : ℕ → List ℕ → Result ℕ BadRecord → Type 0
EndsFrame at bytes (Ok end) =
    (has_frame (drop at bytes) ≡ true) × (end ≡ at + frame_size (drop at bytes)) × (end ≤ length bytes)
EndsFrame at bytes (Err bad) = (has_frame (drop at bytes) ≡ false) × (bad ≡ bad_frame at (drop at bytes))

-- the first refusal of bytes whose seal is to begin at this place
abbrev pub bad_seal : ℕ → List ℕ → Option BadRecord
bad_seal at bytes =
    if nat_lt (length bytes) (at + 32) then Some (Short at)
    else if nat_lt (at + 32) (length bytes) then Some (Trailing (at + 32))
    else if not (is_sealed bytes) then Some Seal
    else None

-- the first refusal of bytes whose frames are to begin at this place
abbrev pub bad_wire : ℕ → List ℕ → Option BadRecord
bad_wire start bytes =
    let last = last_place start (drop start bytes) in
    if not (has_frame (drop last bytes)) then Some (bad_frame last (drop last bytes))
    else bad_seal (last + frame_size (drop last bytes)) bytes

-- the first refusal of bytes as a record
abbrev pub bad_record : List ℕ → Option BadRecord
bad_record bytes =
    if not (has_record_magic bytes) then Some Magic
    else if nat_lt (length bytes) 5 then Some (Short 4)
    else if not (slice_index bytes 4 == record_version) then Some (Version (slice_index bytes 4))
    else if nat_lt (length bytes) 9 then Some (Short 5)
    else if nat_lt (length bytes) (wire_place (slot_count bytes)) then Some (Short 9)
    else bad_wire (wire_place (slot_count bytes)) bytes

-- what is answered: the value where nothing is bad, and else what is bad first; want of memory may come only where
-- nothing is bad
abbrev pub IsJudged : {V : Type 0} → Option BadRecord → V → Result V BadRecord → Type 0
IsJudged bad value (Ok answered) = (bad ≡ None) × (answered ≡ value)
IsJudged bad value (Err NoMemory) = bad ≡ None
IsJudged bad value (Err refusal) = bad ≡ Some refusal
