use Rattle.std.proofs.Common.{arith, ◌≡◌, ◌<◌, ◌+◌, ◌-◌, ◌*◌, ℕ, [], length, get_or, take, drop, min, sym, ap, ap₂, subst, ◌∙◌}
use Rattle.psi_spec.specs.Bits.{bit_of}
use Rattle.psi_spec.specs.Columns.{column_bytes, row_of}
use Rattle.psi_spec.specs.Matrices.{column_of}
use Rattle.psi_spec.proofs.Packing.{AreBytes-row_of, bit_of-row_of, same_from_bits_of}
use Rattle.psi_spec.proofs.ColumnSets.{length-row_of_words}
use Rattle.psi_lanes.specs.Strips.{IsBytes}
use Rattle.psi_lanes.proofs.Groups.{by_groups, get_or-group}
use Rattle.psi_lanes.proofs.flips_back.flip_back.Goals as goal

pub strips-preserved : goal.strips-preserved
strips-preserved c =
    let rows = c.args.rows.now in
    let old = c.strips.columns in
    let new = c.flip_part.new.columns in
    let strip = c.strips.strip in
    let size : column_bytes old.rows ≡ column_bytes c.args.columns.now.rows = ap column_bytes c.strips.invariant.rows in
    let end : c.min-end.result ≡ min (length rows) (64 * strip + 64) =
    c.min-end.ensures ∙ ap (λ n. min n (64 * strip + 64)) (c.rows-count.ensures.rows ∙ sym c.requires) in
    record {
      rows = c.flip_part.ensures.rows ∙ c.strips.invariant.rows;
      bits = λ k j p.
          by_groups (λ n. n < 8 * column_bytes c.args.columns.now.rows → bit_of (column_of new k) n ≡ bit_of (get_or rows n []) k) strip
          (λ n l room. c.flip_part.ensures.below k n p (omega arith) ∙ c.strips.invariant.bits k n p l room)
          (λ i l room. let e : 64 * strip + i ≡ 8 * (8 * strip) + i = omega arith in
          ap (bit_of (column_of new k)) e
          ∙ c.flip_part.ensures.inside k i p l (omega (arith, size))
          ∙ ap (λ xs. bit_of (get_or xs i []) k) (ap₂ (λ n words. take (n - 64 * strip) (drop (64 * strip) words)) end c.words-words.ensures)
          ∙ ap (λ word. bit_of word k) (get_or-group rows strip i [] l))
          j;
      whole = λ k p q. let P : ℕ → Type 0 = λ n. IsBytes n (column_of new k) in subst P size (c.flip_part.ensures.whole k p);
    }

pub returns-clause-columns : goal.returns-clause-columns
returns-clause-columns c k p =
    let rows = c.args.rows.now in
    let column = column_of c.strips.columns k in
    let shape = c.rows-count.ensures.matrix in
    let whole : IsBytes (column_bytes c.args.columns.now.rows) column = c.strips.invariant.whole k p (omega (arith, shape.least)) in
    let long : length column ≡ column_bytes (length rows) = whole.long ∙ ap column_bytes (sym c.requires) in
    same_from_bits_of column (row_of rows k) (long ∙ sym (length-row_of_words rows k)) whole.small (AreBytes-row_of rows k)
    (λ j l. c.strips.invariant.bits k j p (omega (arith, whole.long)) (omega (arith, whole.long)) ∙ sym (bit_of-row_of rows k j))
