use Rattle.std.proofs.Common.{◌∙◌, sym, ap, arith}
use Rattle.std.specs.Prelude.{option_map}
use Rattle.psi_spec.specs.Formulas.{item_digest}
use Rattle.psi_pairs.proofs.Parts.{mapped_more}
use Rattle.psi_pairs.proofs.words.put_digests.Goals as goal

pub loop-i-preserved : goal.loop-i-preserved
loop-i-preserved c =
    let at = c.args.at in
    let i = c.loop-i.i in
    let lines = c.args.lines.now in
    let kept = c.loop-i.auto.out in
    mapped_more item_digest lines at i c.loop-i.out c.unwrap.result.now c.digest.result (omega arith) (omega arith)
    (sym c.get.ensures.line ∙ ap (option_map (λ line. line.now)) c.unwrap.ensures) c.digest.ensures c.loop-i.invariant
