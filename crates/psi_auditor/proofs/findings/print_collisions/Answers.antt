use Rattle.std.proofs.Common.{◌≡◌, ◌∙◌, ℕ, List, Err, Some, rules, ap, sym, subst, slice_get}
use Rattle.std.specs.declared.result.Result.{Result}
use Rattle.std.proofs.lemmas.Result.{err_from_is_err_and}
use Rattle.psi_base.specs.Outside.{PrintsAll, printed_too}
use Rattle.psi_base.specs.declared.faults.Fault.{Fault}
use Rattle.psi_auditor.specs.Audit.{collision_line, collision_lines}
use Rattle.psi_auditor.proofs.CollisionLines.{line_printed, line_refused}
use Rattle.psi_walk.proofs.Elements.{stands_at}
use Rattle.psi_auditor.proofs.findings.print_collisions.Goals as goal

pub returns-in_err-print_all : goal.returns-in_err-print_all
returns-in_err-print_all g c =
    let pairs = c.args.collisions.now in
    let place = c.loop-place.place in
    let pair = c.unwrap-item.result in
    let is : Some pair ≡ slice_get pairs place = search rules in
    let line : c.bytes.result.now ≡ collision_line pair = c.bytes.ensures ∙ c.collision.ensures in
    let why : Fault = c.in_err-print_all.field-0.0 in
    let old = g.W.World.outside c.args.world.now in
    let now = g.W.World.outside c.loop-place.world in
    let new = g.W.World.outside c.print_all.new.world in
    let failed = err_from_is_err_and c.from_residual.result c.from_residual.ensures.1 in
    let same : c.from_residual.result ≡ Err why = failed.1 ∙ ap Err failed.2 in
    subst (λ (r : Result (Unit {0}) Fault). PrintsAll old (collision_lines pairs) r new) (sym same)
    (line_refused old now new pairs place pair why (stands_at pairs place pair is) c.loop-place.invariant.printed
    (subst (λ (text : List ℕ). PrintsAll now text (Err why) new) line c.in_err-print_all.ensures))

pub loop-place-preserved : goal.loop-place-preserved
loop-place-preserved g c =
    let pairs = c.args.collisions.now in
    let place = c.loop-place.place in
    let pair = c.unwrap-item.result in
    let is : Some pair ≡ slice_get pairs place = search rules in
    let line : c.bytes.result.now ≡ collision_line pair = c.bytes.ensures ∙ c.collision.ensures in
    let now = g.W.World.outside c.loop-place.world in
    record {
      printed =
          line_printed (g.W.World.outside c.args.world.now) now (g.W.World.outside c.print_all.new.world) pairs place pair (stands_at pairs place pair is)
          c.loop-place.invariant.printed (c.in_ok-print_all.ensures ∙ ap (printed_too now) line);
    }
