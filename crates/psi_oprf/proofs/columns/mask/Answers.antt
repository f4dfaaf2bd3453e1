use Rattle.std.proofs.Common.{◌≡◌, ◌<◌, ◌∙◌, ℕ, List, sym, ap, arith}
use Rattle.psi_spec.specs.Bits.{bit_of, xor}
use Rattle.psi_spec.specs.Columns.{column_bytes, row_of}
use Rattle.psi_spec.specs.Matrices.{column_of}
use Rattle.psi_spec.specs.ColumnSets.{ColumnSets, masked_columns}
use Rattle.psi_bits.proofs.Matrices.{long_column}
use Rattle.psi_oprf.proofs.Masks.{masked_by, bit_of-masked, all_masked}
use Rattle.psi_oprf.proofs.columns.mask.Goals as goal

-- column k of what is made
made_at : (c : goal.After-xor_columns-2) (k : ℕ) → k < 512
    → column_of c.xor_columns-2.new.columns k
    ≡ xor (xor (row_of c.args.codes.now k) (column_of c.args.zeros.now k)) (column_of c.args.ones.now k)
made_at c k l =
    c.xor_columns-2.ensures.each k l
    ∙ ap (λ (column : List ℕ). xor column (column_of c.args.ones.now k))
    (c.xor_columns.ensures.each k l ∙ ap (λ (column : List ℕ). xor column (column_of c.args.zeros.now k)) (c.flip_back.ensures.columns k l))

pub returns-clause-columns : goal.returns-clause-columns
returns-clause-columns c =
    let sets : ColumnSets = record { zeros = c.args.zeros.now.columns; ones = c.args.ones.now.columns } in
    let columns : c.xor_columns-2.new.columns.columns ≡ masked_columns c.args.codes.now sets =
    all_masked c.args.codes.now c.xor_columns-2.new.columns.columns sets c.xor_columns-2.ensures.count
    c.xor_columns.ensures.matrix.1.columns.count c.xor_columns-2.ensures.matrix.1.columns.count (λ k l. made_at c k (omega arith)) in
    let rows = c.xor_columns-2.ensures.rows ∙ (c.xor_columns.ensures.rows ∙ c.flip_back.ensures.count) in
    λ i. record { rows = rows i; columns = columns i }

pub returns-clause-bits : goal.returns-clause-bits
returns-clause-bits c k j l within =
    let zeros : List ℕ = column_of c.args.zeros.now k in
    let ones : List ℕ = column_of c.args.ones.now k in
    ap (λ (column : List ℕ). bit_of column j) (made_at c k l ∙ masked_by zeros ones c.args.codes.now k)
    ∙ bit_of-masked zeros ones c.args.codes.now k j
    (long_column c.args.zeros.now k c.xor_columns.ensures.matrix.1 l ∙ ap column_bytes (sym c.requires.codes))
    (long_column c.args.ones.now k c.xor_columns-2.ensures.matrix.1 l ∙ ap column_bytes (c.requires.ones ∙ sym c.requires.codes))

pub returns-clause-clean : goal.returns-clause-clean
returns-clause-clean c =
    c.xor_columns-2.ensures.clean c.requires.ones_clean (c.xor_columns.ensures.clean c.requires.zeros_clean c.flip_back.ensures.clean)
