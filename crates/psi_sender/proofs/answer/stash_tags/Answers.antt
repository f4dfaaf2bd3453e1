use Rattle.std.proofs.Common.{◌+◌, ◌-◌, ◌*◌, ◌++◌, map, take, drop, sym, ◌∙◌, ap, ap₂, arith}
use Rattle.std.proofs.lemmas.List.{map-append}
use Rattle.psi_sender.specs.Answering.{word_tag}
use Rattle.psi_sender.proofs.Making.{take_part, take_written}
use Rattle.psi_sender.proofs.answer.stash_tags.Goals as goal

pub loop-turn-preserved : goal.loop-turn-preserved
loop-turn-preserved c =
    let at = 64 * c.loop-turn.turn in
    let end = c.min-end.result in
    let next = 64 * (c.loop-turn.turn + 1) in
    let stored = c.args.stored.now in
    let out = c.loop-turn.out in
    let kept = c.loop-turn.auto.out in
    let formula = word_tag c.args.deal.now c.args.opened.now c.args.row in
    take_written out c.stash_batch.new.out at end next (omega arith) (omega arith) (omega arith)
    ∙ (ap₂ (λ x y. x ++ y) c.loop-turn.invariant c.stash_batch.ensures
    ∙ sym (ap (map formula) (take_part stored at end next (omega arith) (omega arith))
    ∙ map-append formula (take at stored) (take (end - at) (drop at stored))))
