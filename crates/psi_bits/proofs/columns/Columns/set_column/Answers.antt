use Rattle.std.proofs.Common.{◌≡◌, ◌∙◌, None, length, sym, ap, subst}
use Rattle.psi_spec.specs.Matrices.{Matrix, IsMatrix, IsClean, column_of}
use Rattle.psi_bits.specs.BadColumns.{bad_column}
use Rattle.psi_bits.specs.Lending.{refilled}
use Rattle.psi_bits.proofs.Matrices.{column_from_no_fault, refilled_whole, clean_with_column}
use Rattle.psi_bits.proofs.columns.Columns.set_column.Goals as goal

pub returns-clause-clean : goal.returns-clause-clean
returns-clause-clean c clean =
    let m = c.args.self.now in
    let bytes = c.args.bytes.now in
    let written = c.copy_from_slice.new.self in
    let none : bad_column m.rows bytes ≡ None =
    ap (λ (n : Matrix). bad_column n.rows bytes) (sym c.self.view_is) ∙ (sym c.bad_bytes.ensures ∙ c.in_default.is) in
    let whole : refilled (column_of m c.args.c) written ≡ bytes =
    refilled_whole (column_of m c.args.c) written (c.copy_from_slice.ensures.len ∙ ap length c.column_mut.ensures.bytes) ∙ c.copy_from_slice.ensures.after in
    clean_with_column m c.args.c (refilled (column_of m c.args.c) written) (subst IsMatrix c.self.view_is c.self.invariant) c.requires.column clean
    (subst (IsClean m.rows) (sym whole) (column_from_no_fault m.rows bytes none).1)
