use Rattle.std.proofs.Common.{◌≡◌, ◌∙◌, ◌++◌, ℕ, List, ap, arith}
use Rattle.psi_spec.specs.MadeFiles.{made_line}
use Rattle.psi_items.specs.Making.{is_second}
use Rattle.psi_items.proofs.MadeLines.{front_lines, one_more_line, all_lines}
use Rattle.psi_items.proofs.making.make_file.Goals as goal

pub loop-place-preserved : goal.loop-place-preserved
loop-place-preserved c =
    c.in_ok-push_line.ensures
    ∙ (ap (λ (front : List ℕ). front ++ made_line (is_second c.args.file) c.args.shared c.args.number c.line_at.result) c.loop-place.invariant
    ∙ one_more_line (is_second c.args.file) c.args.count c.args.shared c.args.number c.loop-place.place c.line_at.result c.loop-place-test.true c.line_at.ensures)

pub returns : goal.returns
returns c =
    let at_end : c.loop-place.place ≡ c.args.count = omega (arith, c.loop-place-test.false, c.loop-place.auto.place-end) in
    c.loop-place.invariant
    ∙ (ap (λ (place : ℕ). front_lines (is_second c.args.file) c.args.count c.args.shared c.args.number place) at_end
    ∙ all_lines (is_second c.args.file) c.args.count c.args.shared c.args.number)
