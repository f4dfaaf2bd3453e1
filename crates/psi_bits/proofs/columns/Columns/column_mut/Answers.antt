use Rattle.std.proofs.Common.{◌≡◌, ◌∙◌, ◌<◌, List, ℕ, [], length, take, drop, ◌++◌, get_or, set, sym, ap, refl, subst, arith}
use Rattle.std.specs.declared.alloc.Global.{Global}
use Rattle.std.specs.Prelude.{Vec}
use Rattle.std.specs.Vec.{with_items}
use Rattle.std.proofs.lemmas.List.{map-set, length-map}
use Rattle.psi_spec.specs.Columns.{column_bytes}
use Rattle.psi_spec.specs.Matrices.{Matrix, IsMatrix, column_of, with_column}
use Rattle.psi_bits.specs.Shape.{columns_of}
use Rattle.psi_bits.specs.Lending.{refilled}
use Rattle.psi_bits.proofs.Matrices.{columns_of-items, matrix_with_column, long_column, length-refilled}
use Rattle.psi_bits.proofs.columns.Columns.column_mut.Goals as goal

-- the columns after one was written over
written : (rows : ℕ) (columns : List (Vec ℕ Global)) (c : ℕ) (x : Vec ℕ Global) (w : List ℕ) → c < length columns → x ≡ get_or columns c x
    → columns_of (set columns c (with_items x w)) ≡ set (columns_of columns) c (refilled (get_or (columns_of columns) c []) w)
written rows columns c x w l e =
    map-set (λ (v : Vec ℕ Global). v.items) columns c (with_items x w)
    ∙ ap (λ (xs : List ℕ). set (columns_of columns) c xs) (ap (λ (n : ℕ). take n (w ++ drop (length w) x.items)) x.ok.0 ∙ ap (λ (xs : List ℕ). refilled xs w) (sym (columns_of-items columns c x l e)))

written_matrix : (rows : ℕ) (columns : List (Vec ℕ Global)) (c : ℕ) (x : Vec ℕ Global) (w : List ℕ) → IsMatrix (record { rows = rows; columns = columns_of columns }) → c < 512 → x ≡ get_or columns c x
    → IsMatrix (record { rows = rows; columns = columns_of (set columns c (with_items x w)) })
written_matrix rows columns c x w h l e =
    let m : Matrix = record { rows = rows; columns = columns_of columns } in
    let within : c < length columns = omega (arith, length-map columns (λ (v : Vec ℕ Global). v.items), h.columns.count) in
    subst (λ (xs : List (List ℕ)). IsMatrix (record { rows = rows; columns = xs })) (sym (written rows columns c x w within e))
    (matrix_with_column m c (refilled (column_of m c) w) h (length-refilled (column_of m c) w ∙ long_column m c h l))

pub invariant_of-self-lent : goal.invariant_of-self-lent
invariant_of-self-lent c w =
    let l : c.from.result < 512 = omega arith in
    written_matrix c.self.inside.rows c.self.inside.columns.items c.from.result c.index_mut.result.now w c.self.invariant l c.index_mut.ensures.value

pub returns : goal.returns
returns c =
    let columns = c.self.inside.columns.items in
    let x = c.index_mut.result.now in
    let m : Matrix = record { rows = c.self.inside.rows; columns = columns_of columns } in
    let l : c.from.result < 512 = omega arith in
    let within : c.from.result < length columns = omega (arith, length-map columns (λ (v : Vec ℕ Global). v.items), c.self.invariant.columns.count) in
    let old : x.items ≡ column_of c.args.self.now c.args.c =
    sym (columns_of-items columns c.from.result x within c.index_mut.ensures.value) ∙ (ap (λ (n : Matrix). column_of n c.from.result) c.self.view_is ∙ ap (column_of c.args.self.now) c.from.ensures) in
    let long : length (column_of m c.from.result) ≡ column_bytes m.rows = long_column m c.from.result c.self.invariant l in (
      (
        refl,
        λ w. ap (λ (xs : List (List ℕ)). record { rows = c.self.inside.rows; columns = xs }) (written c.self.inside.rows columns c.from.result x w within c.index_mut.ensures.value)
            ∙ (ap (λ (n : Matrix). with_column n c.from.result (refilled (column_of n c.from.result) w)) c.self.view_is
            ∙ ap (λ (i : ℕ). with_column c.args.self.now i (refilled (column_of c.args.self.now i) w)) c.from.ensures),
      ),
      record {
        writes = tt;
        bytes = c.as_mut_slice.ensures.value ∙ old;
        matrix = subst IsMatrix c.self.view_is c.self.invariant;
        long = ap length (c.as_mut_slice.ensures.value ∙ sym (columns_of-items columns c.from.result x within c.index_mut.ensures.value)) ∙ (long ∙ ap (λ (n : Matrix). column_bytes n.rows) c.self.view_is);
      },
    )
