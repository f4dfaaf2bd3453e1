use Rattle.std.proofs.Common.{◌≡◌, ◌<◌, ◌∙◌, ℕ, List, sym, ap}
use Rattle.psi_spec.specs.Bits.{bit_of}
use Rattle.psi_spec.specs.Columns.{column_bytes}
use Rattle.psi_spec.specs.ColumnSets.{ColumnSets, chosen_columns}
use Rattle.psi_spec.specs.Matrices.{column_of}
use Rattle.psi_spec.proofs.Hiding.{chosen_columns-change}
use Rattle.psi_bits.proofs.Matrices.{long_column}
use Rattle.psi_oprf.proofs.Changed.{changed_at, changed_by_both, zeros_of_change, ones_of_change, bit_of-changed_zero, bit_of-changed_one}
use Rattle.psi_oprf.proofs.columns.change.Goals as goal

-- column k of the zero columns, and of the one columns
zero_at : (c : goal.After-change_where-4) (k : ℕ) → k < 512
    → column_of c.change_where-3.new.columns k ≡ changed_at c.args.choice.now 1 c.args.words.now c.args.others.now c.args.zeros.now k
zero_at c =
    changed_by_both c.args.choice.now 1 c.args.words.now c.args.others.now c.flip_back.new.columns c.flip_back-2.new.columns
    c.args.zeros.now c.change_where.new.columns c.change_where-3.new.columns
    (λ k l. (c.change_where.ensures.each k l, c.flip_back.ensures.columns k l))
    (λ k l. (c.change_where-3.ensures.each k l, c.flip_back-2.ensures.columns k l))

one_at : (c : goal.After-change_where-4) (k : ℕ) → k < 512
    → column_of c.change_where-4.new.columns k ≡ changed_at c.args.choice.now 0 c.args.words.now c.args.others.now c.args.ones.now k
one_at c =
    changed_by_both c.args.choice.now 0 c.args.words.now c.args.others.now c.flip_back.new.columns c.flip_back-2.new.columns
    c.args.ones.now c.change_where-2.new.columns c.change_where-4.new.columns
    (λ k l. (c.change_where-2.ensures.each k l, c.flip_back.ensures.columns k l))
    (λ k l. (c.change_where-4.ensures.each k l, c.flip_back-2.ensures.columns k l))

pub returns-clause-sets : goal.returns-clause-sets
returns-clause-sets c =
    let choice = c.args.choice.now in
    let zeros = zeros_of_change choice c.args.words.now c.args.others.now c.args.zeros.now c.args.ones.now c.change_where-3.new.columns
    c.change_where.ensures.before.columns.count c.change_where-3.ensures.count (zero_at c) in
    let ones = ones_of_change choice c.args.words.now c.args.others.now c.args.zeros.now c.args.ones.now c.change_where-4.new.columns
    c.change_where-2.ensures.before.columns.count c.change_where-4.ensures.count (one_at c) in
    λ i. record { zeros = zeros i; ones = ones i }

pub returns-clause-chosen : goal.returns-clause-chosen
returns-clause-chosen c =
    let sets : ColumnSets = record { zeros = c.args.zeros.now.columns; ones = c.args.ones.now.columns } in
    ap (chosen_columns c.args.choice.now) (returns-clause-sets c)
    ∙ chosen_columns-change c.args.zeros.now.rows c.args.choice.now c.args.words.now c.args.others.now c.requires.words c.requires.others sets

pub returns-clause-zero_bits : goal.returns-clause-zero_bits
returns-clause-zero_bits c k j l within =
    ap (λ (column : List ℕ). bit_of column j) (zero_at c k l)
    ∙ bit_of-changed_zero c.args.choice.now c.args.words.now c.args.others.now c.args.zeros.now k j
    (long_column c.args.zeros.now k c.change_where.ensures.before l ∙ ap column_bytes (sym c.requires.words)) (c.requires.others ∙ sym c.requires.words)

pub returns-clause-one_bits : goal.returns-clause-one_bits
returns-clause-one_bits c k j l within =
    ap (λ (column : List ℕ). bit_of column j) (one_at c k l)
    ∙ bit_of-changed_one c.args.choice.now c.args.words.now c.args.others.now c.args.ones.now k j
    (long_column c.args.ones.now k c.change_where-2.ensures.before l ∙ ap column_bytes (c.requires.ones ∙ sym c.requires.words)) (c.requires.others ∙ sym c.requires.words)

pub returns-clause-zeros_clean : goal.returns-clause-zeros_clean
returns-clause-zeros_clean c clean = c.change_where-3.ensures.clean c.flip_back-2.ensures.clean (c.change_where.ensures.clean c.flip_back.ensures.clean clean)

pub returns-clause-ones_clean : goal.returns-clause-ones_clean
returns-clause-ones_clean c clean = c.change_where-4.ensures.clean c.flip_back-2.ensures.clean (c.change_where-2.ensures.clean c.flip_back.ensures.clean clean)
