use Rattle.std.proofs.Common.{◌≡◌, ◌≢◌, ◌<◌, ◌∙◌, ℕ, Bool, List, [], cond, nat_eq, length, sym, ap, ap₂, subst, arith, ⊎_elim}
use Rattle.std.proofs.Math.Bool.{beq}
use Rattle.std.proofs.lemmas.Bool.{cases_eq}
use Rattle.std.proofs.lemmas.List.{length-set, get_or-set_other}
use Rattle.psi_spec.specs.Bits.{bit_of, xor}
use Rattle.psi_spec.specs.Columns.{column_bytes}
use Rattle.psi_spec.specs.Matrices.{IsMatrix, IsClean, column_of}
use Rattle.psi_spec.proofs.ColumnSets.{bit_of-lt}
use Rattle.psi_bits.specs.Lending.{refilled}
use Rattle.psi_bits.proofs.Matrices.{refilled_whole, long_column}
use Rattle.psi_oprf.proofs.Changed.{bit_is, one_more, clean_where, length-where}
use Rattle.psi_oprf.proofs.columns.change_where.Goals as goal

pub loop-c-preserved : goal.loop-c-preserved
loop-c-preserved c =
    let m = c.loop-c.columns in
    let k : ℕ = c.loop-c.c in
    let choice : List ℕ = c.args.choice.now in
    let old : ℕ → List ℕ = λ (i : ℕ). column_of c.args.columns.now i in
    let by : ℕ → List ℕ = λ (i : ℕ). column_of c.args.by.now i in
    let chosen : ℕ → Bool = λ (i : ℕ). nat_eq (bit_of choice i) (cond c.args.bit 1 0) in
    let written : List ℕ = c.xor_where.new.out in
    let shape : IsMatrix m = c.column_mut.ensures.matrix in
    let stays : column_of m k ≡ old k = c.loop-c.invariant.rest k (omega arith) c.loop-c-test.true in
    let test : beq c.bit.result c.args.bit ≡ chosen k = sym (bit_is c.bit.result c.args.bit (bit_of choice k) (bit_of-lt choice k) c.bit.ensures) in
    let made : written ≡ cond (chosen k) (xor (old k) (by k)) (old k) =
    c.xor_where.ensures
    ∙ (ap₂ (λ (column bytes : List ℕ). cond (beq c.bit.result c.args.bit) (xor column bytes) column) (c.column_mut.ensures.bytes ∙ stays) c.column.ensures.bytes
    ∙ ap (λ (b : Bool). cond b (xor (old k) (by k)) (old k)) test) in
    let long : length (column_of m k) ≡ column_bytes m.rows = long_column m k shape c.loop-c-test.true in
    let sizes : length (old k) ≡ column_bytes m.rows = ap length (sym stays) ∙ long in
    let by_long : length (by k) ≡ column_bytes m.rows =
    ap length (sym c.column.ensures.bytes) ∙ (c.column.ensures.long ∙ ap column_bytes (c.requires.by ∙ sym c.loop-c.invariant.rows)) in
    let whole : refilled (column_of m k) written ≡ cond (chosen k) (xor (old k) (by k)) (old k) =
    refilled_whole (column_of m k) written (ap length made ∙ (length-where (chosen k) (column_bytes m.rows) (old k) (by k) sizes by_long ∙ sym long)) ∙ made in
    record {
      rows = c.loop-c.invariant.rows;
      done = one_more m k (refilled (column_of m k) written) (λ (i : ℕ). cond (chosen i) (xor (old i) (by i)) (old i)) (omega (arith, shape.columns.count)) whole c.loop-c.invariant.done;
      rest = λ i l within. get_or-set_other m.columns k i (refilled (column_of m k) written) [] (omega arith) ∙ c.loop-c.invariant.rest i (omega arith) within;
      begun = λ none. absurd (omega arith);
      count = λ _. length-set m.columns k (refilled (column_of m k) written) ∙ shape.columns.count;
      first = λ _. ⊎_elim
          (λ (none : k ≡ 0). subst IsMatrix (c.loop-c.invariant.begun none) shape)
          (λ (some : k ≢ 0). c.loop-c.invariant.first (omega arith))
          (cases_eq k 0);
      by = λ _. c.column.ensures.matrix;
    }

pub returns-clause-clean : goal.returns-clause-clean
returns-clause-clean c by_clean old_clean k l =
    let rows = c.loop-c.columns.rows in
    let begun : 0 < c.loop-c.c = omega arith in
    let first = c.loop-c.invariant.first begun in
    let by = c.loop-c.invariant.by begun in
    let column : List ℕ = column_of c.args.columns.now k in
    let bytes : List ℕ = column_of c.args.by.now k in
    let chosen : Bool = nat_eq (bit_of c.args.choice.now k) (cond c.args.bit 1 0) in
    let long : length column ≡ column_bytes c.args.columns.now.rows = long_column c.args.columns.now k first l in
    let by_long : length bytes ≡ column_bytes c.args.columns.now.rows = long_column c.args.by.now k by l ∙ ap column_bytes c.requires.by in
    subst (IsClean rows) (sym (c.loop-c.invariant.done k (omega arith)))
    (clean_where chosen rows column bytes (long ∙ sym by_long)
    (subst (λ (n : ℕ). IsClean n column) (sym c.loop-c.invariant.rows) (old_clean k l))
    (subst (λ (n : ℕ). IsClean n bytes) (c.requires.by ∙ sym c.loop-c.invariant.rows) (by_clean k l)))
