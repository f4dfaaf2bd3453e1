use Rattle.std.proofs.Common.{◌≡◌, ◌∙◌, ◌++◌, List, ℕ, Err, ap, sym, subst, codes, length}
use Rattle.std.specs.declared.result.Result.{Result}
use Rattle.std.proofs.lemmas.Result.{err_from_is_err_and}
use Rattle.psi_base.specs.Outside.{PrintsAll}
use Rattle.psi_base.specs.declared.faults.Fault.{Fault}
use Rattle.psi_base.proofs.Printing.{refused_first}
use Rattle.psi_auditor.specs.Audit.{audit_text, collision_lines, number_line}
use Rattle.psi_auditor.proofs.findings.print_text.Goals as goal

pub returns-in_err-print_all : goal.returns-in_err-print_all
unfolding audit_text
returns-in_err-print_all g c =
    let shown = c.args.found.now.shown in
    let collisions = c.args.found.now.collisions in
    let rest : List ℕ = number_line (codes "shown ") (length shown) ++ (number_line (codes "collisions ") (length collisions) ++ collision_lines collisions) in
    let why : Fault = c.in_err-print_all.field-0.0 in
    let old = g.W.World.outside c.args.world.now in
    let new = g.W.World.outside c.print_all.new.world in
    let failed = err_from_is_err_and c.from_residual.result c.from_residual.ensures.1 in
    let same : c.from_residual.result ≡ Err why = failed.1 ∙ ap Err failed.2 in
    subst (λ (r : Result (Unit {0}) Fault). PrintsAll old (codes "consistent\n" ++ rest) r new) (sym same)
    (refused_first old (codes "consistent\n") rest why new c.in_err-print_all.ensures)
