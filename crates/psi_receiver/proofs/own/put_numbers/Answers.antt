use Rattle.std.proofs.Common.{◌+◌, refl, arith}
use Rattle.psi_cuckoo.specs.Table.{slot_of}
use Rattle.psi_receiver.proofs.Gathering.{mapped_more, slot_there}
use Rattle.psi_receiver.proofs.own.put_numbers.Goals as goal

pub loop-i-preserved : goal.loop-i-preserved
loop-i-preserved c =
    let at = c.args.at in
    let i = c.loop-i.i in
    let slots = c.args.placement.now in
    let slot = c.unwrap.result in
    let kept = c.loop-i.auto.numbers in
    mapped_more (λ slot. slot.row) slots at i c.loop-i.numbers (slot_of slot) slot.row (omega arith) (omega arith)
    (slot_there slots (at + i) c.slot.result slot c.slot.ensures c.unwrap.ensures) refl c.loop-i.invariant
