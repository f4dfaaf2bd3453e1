use Rattle.std.proofs.Common.{ℕ, ◌≡◌, ◌<◌, [], refl, arith, slice_index, slice_index_or}
use Rattle.psi_lanes.specs.Lanes.{lane}
use Rattle.psi_lanes.proofs.Each.{lane-at}
use Rattle.psi_lanes.proofs.rounds.add_state.Goals as goal

pub returns-clause-value : goal.returns-clause-value
returns-clause-value c j lt =
    let s = c.args.h.now in
    let v = c.args.v.now in
    let at : (i : ℕ) → i < 8 → slice_index (lane j s) i ≡ slice_index (slice_index_or s i []) j = λ i l. lane-at j i s (rw c.requires.h.0 l) in
    let by : (i : ℕ) → i < 8 → slice_index (lane j v) i ≡ slice_index (slice_index_or v i []) j = λ i l. lane-at j i v (rw c.requires.v.0 l) in
    rw (
      at 0 (omega arith),
      at 1 (omega arith),
      at 2 (omega arith),
      at 3 (omega arith),
      at 4 (omega arith),
      at 5 (omega arith),
      at 6 (omega arith),
      at 7 (omega arith),
      by 0 (omega arith),
      by 1 (omega arith),
      by 2 (omega arith),
      by 3 (omega arith),
      by 4 (omega arith),
      by 5 (omega arith),
      by 6 (omega arith),
      by 7 (omega arith),
    )
    (rw (c.add.ensures.1 j lt, c.add-2.ensures.1 j lt, c.add-3.ensures.1 j lt, c.add-4.ensures.1 j lt, c.add-5.ensures.1 j lt, c.add-6.ensures.1 j lt, c.add-7.ensures.1 j lt, c.add-8.ensures.1 j lt) refl)
