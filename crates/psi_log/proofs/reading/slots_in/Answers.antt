use Rattle.std.proofs.Common.{◌∙◌, ap}
use Rattle.std.specs.Int.{w32, from_be_bytes}
use Rattle.psi_cuckoo.specs.Table.{slot_of}
use Rattle.std.proofs.Common.{map}
use Rattle.psi_log.proofs.Slots.{no_slots, one_more_read}
use Rattle.psi_log.proofs.reading.slots_in.Goals as goal

pub loop-i-init : goal.loop-i-init
loop-i-init c = ap (map slot_of) c.in_ok-slots.ensures.items ∙ no_slots c.args.bytes.now

pub loop-i-preserved : goal.loop-i-preserved
loop-i-preserved c =
    one_more_read c.args.bytes.now c.loop-i.i c.loop-i.slots.items c.push.new.self.items c.from_be_bytes-row.result
    c.loop-i.invariant c.in_ok-push.ensures.items (c.from_be_bytes-row.ensures ∙ ap (from_be_bytes w32) c.array_at.ensures)
