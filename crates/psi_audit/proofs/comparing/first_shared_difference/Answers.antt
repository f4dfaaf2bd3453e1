use Rattle.std.proofs.Common.{◌+◌, ◌∙◌, sym, refl, arith}
use Rattle.psi_audit.proofs.Differing.{shared_end}
use Rattle.psi_audit.proofs.comparing.first_shared_difference.Goals as goal

pub returns : goal.returns
returns c =
    let i = c.loop-i.i in
    sym (c.loop-i.invariant ∙ shared_end (c.args.start + i) i c.args.start c.args.recorded.now c.args.bytes.now c.requires refl (omega arith))
