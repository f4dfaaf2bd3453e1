use Rattle.std.proofs.Common.{◌≡◌, ◌∙◌, ap, arith, ◌++◌, length, List, ℕ}
use Rattle.psi_log.proofs.Slots.{one_more_written}
use Rattle.psi_log.proofs.recorder.add_slots.Goals as goal

pub loop-i-preserved : goal.loop-i-preserved
loop-i-preserved c =
    let l = c.loop-i in
    let added = c.in_ok-extend_from_slice.ensures in
    let five : length c.slot_bytes.result ≡ 5 = ap length c.slot_bytes.ensures in
    record {
      bytes = one_more_written c.args.bytes.now.items l.bytes.items c.extend_from_slice.new.self.items c.args.placement.now l.i c.unwrap-slot.result c.slot.result
          c.slot.ensures c.unwrap-slot.ensures l.invariant.bytes (added.items ∙ ap (λ (xs : List ℕ). l.bytes.items ++ xs) c.slot_bytes.ensures);
      len = omega (arith, added.len, five);
      capacity = omega (arith, added.capacity);
    }
