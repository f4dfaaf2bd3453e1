use Rattle.std.proofs.Common.{◌≡◌, ◌∙◌, ◌++◌, ◌∷◌, [], List, ℕ, sym, ap, subst}
use Rattle.std.proofs.lemmas.Bool.{ne_eqb}
use Rattle.psi_spec.specs.Items.{lines_of}
use Rattle.psi_spec.specs.PairedLines.{ended_lines}
use Rattle.psi_lines.proofs.Ending.{ended_with_feed, ended_with_byte}
use Rattle.psi_lines.proofs.lines.line_bytes.Goals as goal

pub returns-then-last-eq10-clause-some : goal.returns-then-last-eq10-clause-some
returns-then-last-eq10-clause-some c =
    let rest = c.in_ok-last.rest.now in
    let whole : c.args.bytes.now ≡ rest ++ 10 ∷ [] = c.in_ok-last.ensures.cases.0 ∙ ap (λ (b : ℕ). rest ++ b ∷ []) c.if-last-eq10.true in
    ended_with_feed rest ∙ ap ended_lines (sym whole)

pub returns-else-last-eq10-clause-some : goal.returns-else-last-eq10-clause-some
returns-else-last-eq10-clause-some c =
    let last = c.in_ok-last.last.now in
    subst (λ (bytes : List ℕ). lines_of bytes ≡ ended_lines bytes) (sym c.in_ok-last.ensures.cases.0)
    (ended_with_byte c.in_ok-last.rest.now last (ne_eqb last 10 c.if-last-eq10.false))
