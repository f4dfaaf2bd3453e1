use Rattle.std.proofs.Common.{◌∙◌, ◌<◌, length, sym, ap, arith}
use Rattle.std.proofs.lemmas.List.{length-map}
use Rattle.psi_spec.specs.Columns.{column_bytes}
use Rattle.psi_spec.specs.Matrices.{Matrix}
use Rattle.psi_bits.specs.Shape.{columns_of}
use Rattle.psi_bits.proofs.Matrices.{columns_of-items, long_column}
use Rattle.psi_bits.proofs.columns.Columns.column.Goals as goal

pub returns-clause-long : goal.returns-clause-long
returns-clause-long c =
    let m : Matrix = record { rows = c.self.inside.rows; columns = columns_of c.self.inside.columns.items } in
    let l : c.from.result < 512 = omega arith in
    let within : c.from.result < length c.self.inside.columns.items = omega (arith, length-map c.self.inside.columns.items (λ v. v.items), c.self.invariant.columns.count) in
    ap length (c.deref.ensures.value ∙ sym (columns_of-items c.self.inside.columns.items c.from.result c.index.result.now within c.index.ensures))
    ∙ (long_column m c.from.result c.self.invariant l ∙ ap (λ (n : Matrix). column_bytes n.rows) c.self.view_is)
