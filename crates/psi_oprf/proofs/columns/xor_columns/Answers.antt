use Rattle.std.proofs.Common.{◌≡◌, ◌≢◌, ◌<◌, ◌∙◌, ℕ, List, [], length, sym, ap, ap₂, subst, arith, ⊎_elim}
use Rattle.std.proofs.lemmas.Bool.{cases_eq}
use Rattle.std.proofs.lemmas.List.{length-set, get_or-set_other}
use Rattle.psi_spec.specs.Bits.{xor}
use Rattle.psi_spec.specs.Columns.{column_bytes}
use Rattle.psi_spec.specs.Matrices.{IsMatrix, IsClean, column_of}
use Rattle.psi_spec.proofs.Clean.{clean-xor}
use Rattle.psi_spec.proofs.Xor.{length-xor}
use Rattle.psi_bits.specs.Lending.{refilled}
use Rattle.psi_bits.proofs.Matrices.{refilled_whole, long_column}
use Rattle.psi_oprf.proofs.Changed.{one_more}
use Rattle.psi_oprf.proofs.columns.xor_columns.Goals as goal

pub loop-c-preserved : goal.loop-c-preserved
loop-c-preserved c =
    let m = c.loop-c.columns in
    let k : ℕ = c.loop-c.c in
    let old : ℕ → List ℕ = λ (i : ℕ). column_of c.args.columns.now i in
    let by : ℕ → List ℕ = λ (i : ℕ). column_of c.args.by.now i in
    let written : List ℕ = c.xor_bytes.new.out in
    let shape : IsMatrix m = c.column_mut.ensures.matrix in
    let stays : column_of m k ≡ old k = c.loop-c.invariant.rest k (omega arith) c.loop-c-test.true in
    let made : written ≡ xor (old k) (by k) =
    c.xor_bytes.ensures ∙ ap₂ xor (c.column_mut.ensures.bytes ∙ stays) c.column.ensures.bytes in
    let long : length (column_of m k) ≡ column_bytes m.rows = long_column m k shape c.loop-c-test.true in
    let sizes : length (old k) ≡ column_bytes m.rows = ap length (sym stays) ∙ long in
    let by_long : length (by k) ≡ column_bytes m.rows =
    ap length (sym c.column.ensures.bytes) ∙ (c.column.ensures.long ∙ ap column_bytes (c.requires ∙ sym c.loop-c.invariant.rows)) in
    let whole : refilled (column_of m k) written ≡ xor (old k) (by k) =
    refilled_whole (column_of m k) written (ap length made ∙ (length-xor (column_bytes m.rows) (old k) (by k) sizes by_long ∙ sym long)) ∙ made in
    record {
      rows = c.loop-c.invariant.rows;
      done = one_more m k (refilled (column_of m k) written) (λ (i : ℕ). xor (old i) (by i)) (omega (arith, shape.columns.count)) whole c.loop-c.invariant.done;
      rest = λ i l within. get_or-set_other m.columns k i (refilled (column_of m k) written) [] (omega arith) ∙ c.loop-c.invariant.rest i (omega arith) within;
      begun = λ none. absurd (omega arith);
      count = λ _. length-set m.columns k (refilled (column_of m k) written) ∙ shape.columns.count;
      first = λ _. ⊎_elim
          (λ (none : k ≡ 0). subst IsMatrix (c.loop-c.invariant.begun none) shape)
          (λ (some : k ≢ 0). c.loop-c.invariant.first (omega arith))
          (cases_eq k 0);
      by = λ _. c.column.ensures.matrix;
    }

pub returns-clause-clean : goal.returns-clause-clean
returns-clause-clean c by_clean old_clean k l =
    let rows = c.loop-c.columns.rows in
    let begun : 0 < c.loop-c.c = omega arith in
    let first = c.loop-c.invariant.first begun in
    let by = c.loop-c.invariant.by begun in
    let column : List ℕ = column_of c.args.columns.now k in
    let bytes : List ℕ = column_of c.args.by.now k in
    let long : length column ≡ column_bytes c.args.columns.now.rows = long_column c.args.columns.now k first l in
    let by_long : length bytes ≡ column_bytes c.args.columns.now.rows = long_column c.args.by.now k by l ∙ ap column_bytes c.requires in
    subst (IsClean rows) (sym (c.loop-c.invariant.done k (omega arith)))
    (clean-xor rows column bytes (long ∙ sym by_long)
    (subst (λ (n : ℕ). IsClean n column) (sym c.loop-c.invariant.rows) (old_clean k l))
    (subst (λ (n : ℕ). IsClean n bytes) (c.requires ∙ sym c.loop-c.invariant.rows) (by_clean k l)))
