use Rattle.std.proofs.Common.{◌+◌, refl, arith}
use Rattle.psi_cuckoo.specs.Table.{slot_of}
use Rattle.psi_receiver.proofs.Gathering.{mapped_more, slot_there}
use Rattle.psi_receiver.proofs.rows.put_indices.Goals as goal

pub loop-i-preserved : goal.loop-i-preserved
loop-i-preserved c =
    let at = c.args.at in
    let i = c.loop-i.i in
    let slots = c.args.placement.now in
    let slot = c.unwrap.result in
    let kept = c.loop-i.auto.indices in
    mapped_more (λ slot. slot.index) slots at i c.loop-i.indices (slot_of slot) slot.index (omega arith) (omega arith)
    (slot_there slots (at + i) c.slot.result slot c.slot.ensures c.unwrap.ensures) refl c.loop-i.invariant
