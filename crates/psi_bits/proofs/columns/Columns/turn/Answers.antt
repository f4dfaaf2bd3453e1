use Rattle.std.proofs.Common.{◌≡◌, ◌∙◌, ℕ, All, length, sym, ap, subst}
use Rattle.psi_spec.specs.Columns.{column_bytes}
use Rattle.psi_spec.specs.Matrices.{Matrix}
use Rattle.psi_bits.proofs.Matrices.{long_vectors}
use Rattle.psi_bits.proofs.columns.Columns.turn.Goals as goal

pub put_rows-requires-clause-long : goal.put_rows-requires-clause-long
put_rows-requires-clause-long c =
    let rows : c.self.inside.rows ≡ length c.args.rows.now = ap (λ (m : Matrix). m.rows) c.self.view_is ∙ sym c.requires in
    subst (All (λ v. length v.items ≡ column_bytes (length c.args.rows.now))) (sym c.deref.ensures.value)
    (subst (λ (n : ℕ). All (λ v. length v.items ≡ column_bytes n) c.self.inside.columns.items) rows (long_vectors c.self.inside.columns.items (column_bytes c.self.inside.rows) c.self.invariant.columns.long))
