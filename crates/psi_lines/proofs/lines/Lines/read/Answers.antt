use Rattle.std.proofs.Common.{◌≡◌, ◌∙◌, [], List, ℕ, sym, ap, rules}
use Rattle.psi_spec.specs.Items.{lines_of}
use Rattle.psi_lines.specs.Cutting.{cut_at}
use Rattle.psi_lines.proofs.Reading.{ReadsLines-packed, no_lines}
use Rattle.psi_lines.proofs.lines.Lines.read.Goals as goal

pub returns-in-Some : goal.returns-in-Some
returns-in-Some c = ReadsLines-packed c.args.bytes.now (lines_of c.in-Some.content.now) c.pack.result c.in-Some.ensures.some c.pack.ensures

pub returns-in-None : goal.returns-in-None
returns-in-None c =
    let none = no_lines c.args.bytes.now c.in-None.ensures.none in
    let ends : c.new-in-None.result.items ≡ [] = search rules in
    (none.0, ap (λ (e : List ℕ). cut_at 0 e c.new.result.items) ends ∙ sym none.1)
