use Rattle.std.proofs.Common.{◌≡◌, ◌<◌, ◌∙◌, length, Err, true, false, ap, refl, sym, subst, arith}
use Rattle.std.specs.declared.result.Result.{Result}
use Rattle.std.proofs.lemmas.Result.{err_from_is_err_and}
use Rattle.psi_spec.specs.Hits.{marked}
use Rattle.psi_spec.specs.Texts.{lines_text}
use Rattle.psi_base.specs.Outside.{PrintsAll}
use Rattle.psi_base.specs.declared.faults.Fault.{Fault}
use Rattle.psi_walk.proofs.Elements.{stands_at}
use Rattle.psi_walk.proofs.MarkedLines.{mark_stands, no_line, printed_line, refused_line}
use Rattle.psi_walk.proofs.showing.print_lines.Goals as goal
use Rattle.psi_walk.proofs.showing.print_lines.Goals.{then-marks-place+in_ok-print_line, else-marks-place}

pub returns-in_err-print_line : goal.returns-in_err-print_line
returns-in_err-print_line g c =
    let marks = c.args.marks.now in
    let xs = c.args.items.now in
    let place = c.loop-item.place in
    let at = stands_at xs place c.in-Some.item.now c.in-Some.ensures.item in
    let within : place < length marks = let l = at.within in omega (arith, c.requires) in
    let why : Fault = c.in_err-print_line.field-0.0 in
    let old = g.W.World.outside c.args.world.now in
    let new = g.W.World.outside c.print_line.new.world in
    let failed = err_from_is_err_and c.from_residual.result c.from_residual.ensures.1 in
    let same : c.from_residual.result ≡ Err why = failed.1 ∙ ap Err failed.2 in
    subst (λ (r : Result (Unit {0}) Fault). PrintsAll old (lines_text (marked marks xs)) r new) (sym same)
    (refused_line old (g.W.World.outside c.loop-item.world) new marks xs place true c.in-Some.item.now why
    (mark_stands marks place true within c.if-marks-place.true) at refl c.loop-item.invariant.printed
    c.in_err-print_line.ensures)

pub loop-item-preserved : goal.loop-item-preserved
loop-item-preserved g c =
    let marks = c.args.marks.now in
    let xs = c.args.items.now in
    let place = c.loop-item.place in
    let at = stands_at xs place c.in-Some.item.now c.in-Some.ensures.item in
    let within : place < length marks = let l = at.within in omega (arith, c.requires) in
    let old = g.W.World.outside c.args.world.now in
    let now = g.W.World.outside c.loop-item.world in
    record {
      within = let l = at.within in omega arith;
      printed = elim c.if-marks-place.branch [
        | then-marks-place+in_ok-print_line w ↦
            ap g.W.World.outside w.world-is
            ∙ printed_line old now (g.W.World.outside w.print_line.new.world) marks xs place true c.in-Some.item.now
            (mark_stands marks place true within w.if-marks-place.true) at refl c.loop-item.invariant.printed w.in_ok-print_line.ensures
        | else-marks-place w ↦
            ap g.W.World.outside w.world-is
            ∙ no_line old now marks xs place false c.in-Some.item.now (mark_stands marks place false within w.if-marks-place.false) at refl
            c.loop-item.invariant.printed
      ];
    }
