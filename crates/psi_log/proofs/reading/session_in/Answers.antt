use Rattle.std.proofs.Common.{sym, subst, arith}
use Rattle.psi_spec.specs.Records.{IsLogged}
use Rattle.psi_spec.proofs.Records.{record_found}
use Rattle.psi_log.proofs.Faultless.{parts_from_none}
use Rattle.psi_log.proofs.Slots.{parts_are_logged}
use Rattle.psi_log.proofs.reading.session_in.Goals as goal

pub invariant_of-result : goal.invariant_of-result
invariant_of-result c =
    let bytes = c.args.bytes.now in
    let logged = (record_found bytes (λ i. omega (arith, c.type_inv.bytes i)) (parts_from_none bytes c.requires)).0 in
    subst IsLogged (sym (parts_are_logged bytes c.slot_count-count.result c.wire_place.result c.in_ok-slots.slots.items c.slot_count-count.ensures c.wire_place.ensures c.in_ok-slots.ensures)) logged

pub returns : goal.returns
returns c =
    parts_are_logged c.args.bytes.now c.slot_count-count.result c.wire_place.result c.in_ok-slots.slots.items c.slot_count-count.ensures c.wire_place.ensures c.in_ok-slots.ensures
