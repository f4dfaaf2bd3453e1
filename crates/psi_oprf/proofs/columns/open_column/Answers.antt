use Rattle.std.proofs.Common.{◌≡◌, ◌∙◌, ℕ, List, length, sym, ap, subst}
use Rattle.psi_spec.specs.Bits.{xor}
use Rattle.psi_spec.specs.Columns.{column_bytes}
use Rattle.psi_spec.specs.Matrices.{IsMatrix, IsClean, column_of}
use Rattle.psi_spec.proofs.Clean.{clean-xor}
use Rattle.psi_spec.proofs.Xor.{length-xor}
use Rattle.psi_bits.specs.Lending.{refilled}
use Rattle.psi_bits.proofs.Matrices.{refilled_whole, clean_with_column, long_column}
use Rattle.psi_oprf.proofs.columns.open_column.Goals as goal

pub returns-then-bit-clause-clean : goal.returns-then-bit-clause-clean
returns-then-bit-clause-clean c clean =
    let m = c.args.chosen.now in
    let bytes = c.args.u.now in
    let written = c.xor_bytes.new.out in
    let old : List ℕ = column_of m c.args.c in
    let shape : IsMatrix m = c.column_mut.ensures.matrix in
    let long : length old ≡ column_bytes m.rows = long_column m c.args.c shape c.requires.column in
    let made : written ≡ xor old bytes = c.xor_bytes.ensures ∙ ap (λ (x : List ℕ). xor x bytes) c.column_mut.ensures.bytes in
    let whole : refilled old written ≡ xor old bytes =
    refilled_whole old written (ap length made ∙ (length-xor (column_bytes m.rows) old bytes long c.requires.long ∙ sym long)) ∙ made in
    clean_with_column m c.args.c (refilled old written) shape c.requires.column clean
    (subst (IsClean m.rows) (sym whole) (clean-xor m.rows old bytes (long ∙ sym c.requires.long) (clean c.args.c c.requires.column) c.requires.padding))
