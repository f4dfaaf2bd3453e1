use Rattle.std.proofs.Common.{ℕ, ◌≡◌, ◌<◌, [], refl, arith, slice_index, slice_index_or}
use Rattle.std.proofs.lemmas.Simd.{get_or-replicate}
use Rattle.psi_lanes.specs.Lanes.{lane}
use Rattle.psi_lanes.proofs.Each.{lane-at}
use Rattle.psi_lanes.proofs.rounds.round.Goals as goal

pub returns-clause-value : goal.returns-clause-value
returns-clause-value c j lt =
    let v = c.args.v in
    let at : (i : ℕ) → i < 8 → slice_index (lane j v) i ≡ slice_index (slice_index_or v i []) j = λ i l. lane-at j i v (rw c.requires.v.0 l) in
    let constant = get_or-replicate 8 j c.args.constant 0 lt in
    rw (at 0 (omega arith), at 1 (omega arith), at 2 (omega arith), at 3 (omega arith), at 4 (omega arith), at 5 (omega arith), at 6 (omega arith), at 7 (omega arith))
    (rw (
      c.add-4.ensures.1 j lt,
      c.add-5.ensures.1 j lt,
      c.add-temp1.ensures.1 j lt,
      c.add-3.ensures.1 j lt,
      c.add-2.ensures.1 j lt,
      c.add.ensures.1 j lt,
      c.add-temp2.ensures.1 j lt,
      c.big_sigma1.ensures.1 j lt,
      c.ch.ensures.1 j lt,
      c.big_sigma0.ensures.1 j lt,
      c.maj.ensures.1 j lt,
      constant,
    ) refl)
