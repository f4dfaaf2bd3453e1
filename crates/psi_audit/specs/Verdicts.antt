-- The verdict on the record of a session.
use Rattle.std.specs.Prelude.{◌+◌, ℕ, List, length, map, slice_index, Option}
use Rattle.std.specs.Option.{option_map_or}
use Rattle.psi_spec.specs.Collisions.{Collision, collisions, shown_places}
use Rattle.psi_spec.specs.Deals.{ReceiverDeal, SenderDeal}
use Rattle.psi_spec.specs.Differing.{first_difference}
use Rattle.psi_spec.specs.Limits.{bins_for}
use Rattle.psi_spec.specs.Meeting.{Setup, placed_of}
use Rattle.psi_spec.specs.Placement.{Slot, candidates_of}
use Rattle.psi_spec.specs.Records.{LoggedSession, wire_place}
use Rattle.psi_spec.specs.SessionLaws.{pair_setup}
use Rattle.psi_spec.specs.Sessions.{session_bytes}
use Rattle.psi_deal.specs.Differences.{first_difference as first_field}
use Rattle.psi_cuckoo.specs.Refusal.{first_fault}
use Rattle.psi_cuckoo.specs.declared.errors.BadSlots.{BadSlots}
use Rattle.psi_cuckoo.specs.declared.slot.Slot.{Slot as RowSlot}
use Rattle.psi_audit.specs.declared.verdict.Verdict.{Verdict}
use Rattle.psi_audit.specs.declared.verdict.Verdict.TheVariants.{Consistent, DealsDiffer, Slots, Differs}

-- a slot as it is judged
abbrev pub row_slot : Slot → RowSlot
row_slot slot = record { row = slot.row; index = slot.index }

-- the first fault of slots as a placement of the receiver's items
abbrev pub slots_fault : ReceiverDeal → List (List ℕ) → List Slot → Option BadSlots
slots_fault deal xs slots =
    first_fault deal.stash (bins_for (length xs)) (map (candidates_of deal.key (bins_for (length xs))) xs)
    (map row_slot slots)

-- at this place of the recorded frames another byte stands than in those of the session; the record is counted from
-- its start on
abbrev pub differs_at : LoggedSession → List ℕ → ℕ → Verdict
differs_at log session place =
    Differs (wire_place (length log.slots) + place) (slice_index log.wire place) (slice_index session place)

-- both places of a collision
abbrev pub places_of : Collision → ℕ × ℕ
places_of collision = (collision.item, collision.named)

-- the record is that of the session: the places of the items that are shown, and of the collisions
abbrev pub consistent : Setup → List (List ℕ) → Verdict
consistent s ys = Consistent (shown_places s ys) (map places_of (collisions s ys))

-- the verdict on recorded frames, where the recorded slots are a placement
abbrev pub wire_verdict : ReceiverDeal → SenderDeal → List (List ℕ) → List (List ℕ) → LoggedSession → Verdict
wire_verdict receiver sender xs ys log =
    let session : List ℕ = session_bytes receiver sender (placed_of xs log.slots) ys in
    option_map_or (differs_at log session) (first_difference log.wire session)
    (consistent (pair_setup receiver sender xs log.slots) ys)

-- the verdict on the inputs of a session and its record, by the first that applies: the first field in which the deals
-- are no pair, the first fault of the recorded slots, the first place at which the recorded frames are not those of the
-- session; or else that they are consistent
unfoldable pub verdict_of : ReceiverDeal → SenderDeal → List (List ℕ) → List (List ℕ) → LoggedSession → Verdict
verdict_of receiver sender xs ys log =
    option_map_or DealsDiffer (first_field receiver sender)
    (option_map_or Slots (slots_fault receiver xs log.slots) (wire_verdict receiver sender xs ys log))
