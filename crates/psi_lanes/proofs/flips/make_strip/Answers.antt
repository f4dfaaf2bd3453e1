use Rattle.std.proofs.Common.{arith, ◌≡◌, ◌+◌, ◌*◌, [], length, get_or, ◌∙◌}
use Rattle.psi_spec.specs.Bits.{bit_of}
use Rattle.psi_spec.specs.Matrices.{column_of}
use Rattle.psi_spec.proofs.Packing.{row_of_from_bits}
use Rattle.psi_lanes.proofs.Groups.{by_groups}
use Rattle.psi_lanes.proofs.flips.make_strip.Goals as goal

pub groups-preserved : goal.groups-preserved
groups-preserved c = record {
  bits = λ j k p.
      by_groups (λ n. bit_of (get_or c.store_rows.new.strip j []) n ≡ bit_of (column_of c.args.columns.now n) (8 * c.args.at + j)) c.groups.group
      (λ n l. c.store_rows.ensures.below j n p l ∙ c.groups.invariant.bits j n p l)
      (λ i l. c.store_rows.ensures.inside j i p l ∙ c.flip_tile.ensures j i p l ∙ c.load_columns.ensures i j l p)
      k;
  whole = λ j p q. c.store_rows.ensures.whole j p;
}

pub returns : goal.returns
returns c j p =
    let columns = c.args.columns.now.columns in
    let count : length columns ≡ 8 * 64 = c.requires.matrix.columns.count in
    let whole = c.groups.invariant.whole j p (omega arith) in
    row_of_from_bits 64 columns (8 * c.args.at + j) (get_or c.groups.strip j []) count whole.long whole.small
    (λ k l. c.groups.invariant.bits j k p (omega (arith, count)))
