use Rattle.std.proofs.Common.{◌+◌, ◌-◌, ◌*◌, drop, arith}
use Rattle.std.proofs.lemmas.List.{length-take-le, length-drop}
use Rattle.psi_spec.specs.PairedRows.{line_word}
use Rattle.psi_pairs.proofs.Parts.{mapped_part}
use Rattle.psi_pairs.proofs.words.put_all_words.Goals as goal

pub loop-turn-preserved : goal.loop-turn-preserved
loop-turn-preserved c =
    let at = 64 * c.loop-turn.turn in
    let end = c.min-end.result in
    let next = 64 * (c.loop-turn.turn + 1) in
    let out = c.loop-turn.out in
    let kept = c.loop-turn.auto.out in
    let few = c.len-count.ensures.lines.few in
    mapped_part (line_word c.args.key.now) c.args.lines.now out c.put_words.new.out at end next (omega arith) (omega arith) (omega arith)
    (omega (arith, c.put_words.auto.out, length-take-le (end - at) (drop at out) (omega (arith, length-drop at out))))
    c.loop-turn.invariant c.put_words.ensures
