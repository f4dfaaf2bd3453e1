use Rattle.std.proofs.Common.{◌≡◌, ◌+◌, ◌*◌, ℕ, List, length, ap, sym, ◌∙◌}
use Rattle.std.proofs.lemmas.List.Elements.{recursion_from_All}
use Rattle.psi_spec.specs.Columns.{column_bytes}
use Rattle.psi_spec.specs.Matrices.{Matrix}
use Rattle.psi_spec.specs.Sessions.{dealt_masked}
use Rattle.psi_spec.specs.Streams.{layouts, column_frames}
use Rattle.psi_receiver.specs.Running.{ReceiverState}
use Rattle.psi_receiver.proofs.Wires.{columns_long}
use Rattle.psi_receiver.proofs.session.Session.rows.Goals as goal

pub returns : goal.returns
returns c =
    let sent : Matrix = c.self.inside.memory.sent in
    let holds = c.self.invariant.holds in
    let each = recursion_from_All (λ (u : List ℕ). length u ≡ column_bytes sent.rows) sent.columns holds.columns.columns.long in
    ap (λ (s : ReceiverState). length (layouts (column_frames 0 (dealt_masked s.deal s.placed)))) (sym c.self.view_is)
    ∙ (ap (λ (m : Matrix). length (layouts (column_frames 0 m.columns))) (sym holds.sent)
    ∙ (columns_long (column_bytes sent.rows) 0 sent.columns each
    ∙ ((λ i. holds.columns.columns.count i * (7 + column_bytes sent.rows))
    ∙ ap (λ (n : ℕ). 512 * (7 + column_bytes n)) (sym c.rows.ensures.rows))))
