use Rattle.std.proofs.Common.{arith, ◌≡◌, ◌+◌, ◌*◌, ℕ, List, [], get_or, sym, ap, subst, ◌∙◌}
use Rattle.psi_spec.specs.Bits.{bit_of}
use Rattle.psi_spec.specs.Columns.{column_bytes}
use Rattle.psi_spec.specs.Matrices.{column_of}
use Rattle.psi_lanes.specs.Strips.{IsBytes}
use Rattle.psi_lanes.proofs.Groups.{by_groups}
use Rattle.psi_lanes.proofs.flips_back.flip_strip.Goals as goal

pub groups-preserved : goal.groups-preserved
groups-preserved c =
    let old = c.args.columns.now in
    let mid = c.groups.columns in
    let new = c.store_columns.new.columns in
    let at = c.args.at in
    let group = c.groups.group in
    let kept = c.store_columns.ensures.below in
    let size : column_bytes mid.rows ≡ column_bytes old.rows = ap column_bytes c.groups.invariant.rows in
    let was : (i : ℕ) → column_of mid (64 * group + i) ≡ column_of old (64 * group + i) = λ i. c.groups.invariant.rest (64 * group + i) (omega arith) in
    record {
      rows = c.store_columns.ensures.rows ∙ c.groups.invariant.rows;
      inside = λ k j p q room.
          by_groups (λ n. bit_of (column_of new n) (8 * at + j) ≡ bit_of (get_or c.args.strip.now j []) n) group
          (λ n l. ap (λ xs. bit_of xs (8 * at + j)) (kept n l) ∙ c.groups.invariant.inside n j l q room)
          (λ i l. (c.store_columns.ensures.puts i l).inside j q (omega (arith, size, (c.store_columns.ensures.whole i l).long)) ∙ c.flip_tile.ensures i j l q ∙ c.load_rows.ensures j i q l)
          k p;
      below = λ k j p q.
          by_groups (λ n. bit_of (column_of new n) j ≡ bit_of (column_of old n) j) group
          (λ n l. ap (λ xs. bit_of xs j) (kept n l) ∙ c.groups.invariant.below n j l q)
          (λ i l. (c.store_columns.ensures.puts i l).below j q ∙ ap (λ xs. bit_of xs j) (was i))
          k p;
      whole =
          by_groups (λ n. IsBytes (column_bytes old.rows) (column_of new n)) group
          (λ n l. let P : List ℕ → Type 0 = λ xs. IsBytes (column_bytes old.rows) xs in subst P (sym (kept n l)) (c.groups.invariant.whole n l))
          (λ i l. let P : ℕ → Type 0 = λ n. IsBytes n (column_of new (64 * group + i)) in subst P size (c.store_columns.ensures.whole i l));
      rest = λ k p. c.store_columns.ensures.above k (omega arith) ∙ c.groups.invariant.rest k (omega arith);
    }
