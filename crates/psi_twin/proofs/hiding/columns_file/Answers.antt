use Rattle.std.proofs.Common.{◌+◌, ◌<◌, ◌∙◌, ◌++◌, ℕ, List, ap, ap₂, drop, sym, arith}
use Rattle.std.proofs.lemmas.List.{append-nil}
use Rattle.psi_spec.specs.Changes.{columns_file, joined_columns}
use Rattle.psi_spec.specs.Matrices.{IsMatrix}
use Rattle.psi_twin.proofs.ColumnFiles.{joined-more, joined-past}
use Rattle.psi_twin.proofs.hiding.columns_file.Goals as goal

pub loop-c-preserved : goal.loop-c-preserved
loop-c-preserved c =
    let zeros : List (List ℕ) = c.args.zeros.now.columns in
    let ones : List (List ℕ) = c.args.ones.now.columns in
    let i : ℕ = c.loop-c.c in
    let before : List ℕ = c.loop-c.bytes.items in
    let rest : List ℕ = joined_columns (drop (i + 1) zeros) (drop (i + 1) ones) in
    let zeros_are : IsMatrix c.args.zeros.now = c.column.ensures.matrix in
    let ones_are : IsMatrix c.args.ones.now = c.column-in-loop-c.ensures.matrix in
    record {
      written =
          ap (λ (bytes : List ℕ). bytes ++ rest)
          (c.in_ok-extend_from_slice-2.ensures.items
          ∙ ap₂ (λ (front one : List ℕ). front ++ one)
          (c.in_ok-extend_from_slice.ensures.items ∙ ap (λ (zero : List ℕ). before ++ zero) c.column.ensures.bytes) c.column-in-loop-c.ensures.bytes)
          ∙ (joined-more before zeros ones i (omega (arith, zeros_are.columns.count)) (omega (arith, ones_are.columns.count)) ∙ c.loop-c.invariant.written);
      zeros = λ _. zeros_are;
      ones = λ _. ones_are;
    }

pub returns : goal.returns
unfolding columns_file
returns c =
    let zeros : List (List ℕ) = c.args.zeros.now.columns in
    let ones : List (List ℕ) = c.args.ones.now.columns in
    let bytes : List ℕ = c.loop-c.bytes.items in
    let some : 0 < c.loop-c.c = omega arith in
    let zeros_are : IsMatrix c.args.zeros.now = c.loop-c.invariant.zeros some in
    let ones_are : IsMatrix c.args.ones.now = c.loop-c.invariant.ones some in
    sym (append-nil bytes)
    ∙ (ap (λ (more : List ℕ). bytes ++ more)
    (sym (joined-past zeros ones c.loop-c.c (omega (arith, zeros_are.columns.count)) (omega (arith, ones_are.columns.count))))
    ∙ c.loop-c.invariant.written)
