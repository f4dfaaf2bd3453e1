use Rattle.std.proofs.Common.{◌+◌, ◌-◌, ◌*◌, drop, arith}
use Rattle.std.proofs.lemmas.List.{length-take-le, length-drop}
use Rattle.psi_receiver.specs.Slots.{tag_of_word}
use Rattle.psi_receiver.proofs.Gathering.{mapped_part}
use Rattle.psi_receiver.proofs.own.item_tags.Goals as goal

pub loop-turn-preserved : goal.loop-turn-preserved
loop-turn-preserved c =
    let at = 64 * c.loop-turn.turn in
    let end = c.min-end.result in
    let next = 64 * (c.loop-turn.turn + 1) in
    let out = c.loop-turn.out in
    let kept = c.loop-turn.auto.out in
    mapped_part (tag_of_word c.args.deal.now c.args.rows.now) c.args.placement.now out c.tag_batch.new.out at end next (omega arith) (omega arith) (omega arith)
    (omega (arith, c.tag_batch.auto.out, length-take-le (end - at) (drop at out) (omega (arith, length-drop at out))))
    c.loop-turn.invariant c.tag_batch.ensures
