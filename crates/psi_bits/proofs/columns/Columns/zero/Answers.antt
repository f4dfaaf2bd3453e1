use Rattle.std.proofs.Common.{arith, ◌≡◌, ◌≤◌, ◌∙◌, ℕ, List, length, sym, ap, ap₂, subst}
use Rattle.std.specs.Prelude.{Vec, replicate}
use Rattle.std.specs.Global.{Global}
use Rattle.std.proofs.lemmas.List.{length-replicate}
use Rattle.std.proofs.lemmas.List.Elements.{All-replicate}
use Rattle.psi_spec.specs.Limits.{row_limit}
use Rattle.psi_spec.specs.Columns.{column_bytes}
use Rattle.psi_spec.specs.Matrices.{Matrix, IsMatrix, zero_matrix}
use Rattle.psi_bits.specs.Shape.{columns_of}
use Rattle.psi_bits.proofs.columns.Columns.zero.Goals as goal

-- columns of zeros that were made one by one
zeros : (columns : List (Vec ℕ Global)) (n bytes rows : ℕ) → columns_of columns ≡ replicate n (replicate bytes 0) → n ≡ 512 → bytes ≡ column_bytes rows
    → columns_of columns ≡ replicate 512 (replicate (column_bytes rows) 0)
zeros columns n bytes rows made count size = made ∙ ap₂ (λ (a b : ℕ). replicate a (replicate b 0)) count size

zero_is_matrix : (n rows : ℕ) → n ≡ 512 → 1 ≤ rows → rows ≤ row_limit → IsMatrix (record { rows = rows; columns = replicate n (replicate (column_bytes rows) 0) })
zero_is_matrix n rows count least most = record {
  least = least;
  most = most;
  columns = record {
    count = length-replicate n (replicate (column_bytes rows) 0) ∙ count;
    long = All-replicate (λ column. length column ≡ column_bytes rows) n (replicate (column_bytes rows) 0) (length-replicate (column_bytes rows) 0);
  };
}

pub invariant_of-result : goal.invariant_of-result
invariant_of-result c =
    let bytes : c.div_ceil-bytes.result ≡ column_bytes c.args.rows = omega arith in
    let made = c.loop.invariant ∙ ap (λ (n : ℕ). replicate c.loop.counter (replicate n 0)) bytes in
    subst (λ (xs : List (List ℕ)). IsMatrix (record { rows = c.args.rows; columns = xs })) (sym made)
    (zero_is_matrix c.loop.counter c.args.rows (omega arith) c.requires.least c.requires.most)

pub returns-clause-zero : goal.returns-clause-zero
unfolding zero_matrix
returns-clause-zero c =
    let bytes : c.div_ceil-bytes.result ≡ column_bytes c.args.rows = omega arith in
    ap (λ (xs : List (List ℕ)). let m : Matrix = record { rows = c.args.rows; columns = xs } in m)
    (zeros c.loop.columns.items c.loop.counter c.div_ceil-bytes.result c.args.rows c.loop.invariant (omega arith) bytes)
