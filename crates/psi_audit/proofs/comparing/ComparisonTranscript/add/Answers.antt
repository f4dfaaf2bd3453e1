use Rattle.std.proofs.Common.{◌+◌, sym, ap, subst}
use Rattle.psi_audit.specs.Comparing.{Compared, IsCompared}
use Rattle.psi_audit.proofs.Differing.{not_yet, already}
use Rattle.psi_audit.proofs.comparing.ComparisonTranscript.add.Goals as goal

pub returns-then-is_none : goal.returns-then-is_none
returns-then-is_none c first before h =
    let inside = c.self.inside in
    let old : Compared = record { recorded = inside.recorded.now; compared = inside.compared; difference = inside.difference } in
    not_yet old first.recorded before c.args.bytes.now c.first_shared_difference-self-inside.result (inside.compared + c.min.result) c.if-is_none.ensures
    (subst (IsCompared first.recorded before) (sym c.self.view_is) h) c.first_shared_difference-self-inside.ensures (ap (λ n. inside.compared + n) c.min.ensures)

pub returns-else-is_none : goal.returns-else-is_none
returns-else-is_none c first before h =
    let inside = c.self.inside in
    let old : Compared = record { recorded = inside.recorded.now; compared = inside.compared; difference = inside.difference } in
    subst (IsCompared first.recorded _) c.self.view_is
    (already old first.recorded before c.args.bytes.now c.if-is_none.ensures (subst (IsCompared first.recorded before) (sym c.self.view_is) h))
