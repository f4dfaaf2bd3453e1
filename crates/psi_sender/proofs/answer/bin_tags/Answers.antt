use Rattle.std.proofs.Common.{◌+◌, ◌-◌, ◌*◌, ◌++◌, take, drop, sym, ◌∙◌, ap₂, arith, length-take}
use Rattle.psi_sender.specs.Answering.{bin_list}
use Rattle.psi_sender.proofs.Making.{take_part, take_written, bin_list-append}
use Rattle.psi_sender.proofs.answer.bin_tags.Goals as goal

pub loop-turn-preserved : goal.loop-turn-preserved
loop-turn-preserved c =
    let at = 64 * c.loop-turn.turn in
    let end = c.min-end.result in
    let next = 64 * (c.loop-turn.turn + 1) in
    let bins = c.args.bins.now in
    let digests = c.args.digests.now in
    let out = c.loop-turn.out in
    let kept = c.loop-turn.auto.out in
    let deal = c.args.deal.now in
    let opened = c.args.opened.now in
    let list = c.args.list in
    let more_bins = take_part bins at end next (omega arith) (omega arith) in
    let more_digests = take_part digests at end next (omega arith) (omega arith) in
    take_written out c.bin_batch.new.out at end next (omega arith) (omega arith) (omega arith)
    ∙ (ap₂ (λ x y. x ++ y) c.loop-turn.invariant c.bin_batch.ensures
    ∙ sym (ap₂ (λ b d. bin_list deal opened list b d) more_bins more_digests
    ∙ bin_list-append deal opened list (take at bins) (take (end - at) (drop at bins)) (take at digests) (take (end - at) (drop at digests)) (omega (arith, length-take at bins, length-take at digests))))
