use Rattle.std.proofs.Common.{◌≡◌, ◌∙◌, sym, ap, subst, length, arith}
use Rattle.psi_lines.specs.Cutting.{AreLines}
use Rattle.psi_lines.proofs.Cutting.{length-cut_at, are_lines}
use Rattle.psi_lines.proofs.lines.Lines.len.Goals as goal

pub returns-clause-len : goal.returns-clause-len
returns-clause-len c =
    let count : length c.args.self.now ≡ length c.self.inside.ends.items = ap length (sym c.self.view_is) ∙ length-cut_at 0 c.self.inside.ends.items c.self.inside.bytes.items in
    omega (arith, count)

pub returns-clause-lines : goal.returns-clause-lines
returns-clause-lines c = subst AreLines c.self.view_is (are_lines c.self.inside.ends.items c.self.inside.bytes.items c.self.invariant)
