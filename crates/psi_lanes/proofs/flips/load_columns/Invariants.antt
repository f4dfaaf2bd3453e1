use Rattle.std.proofs.Common.{◌≡◌, ◌<◌, ◌+◌, ◌*◌, ℕ, get_or}
use Rattle.std.specs.Int.{bit_at}
use Rattle.psi_spec.specs.Bits.{bit_of}
use Rattle.psi_spec.specs.Matrices.{column_of}
use Rattle.psi_lanes.proofs.flips.load_columns.Given as goal

-- the words so far
abbrev pub invariant-loop-i : goal.invariant-loop-i
invariant-loop-i l = (k j : ℕ) → k < l.i → j < 64
    → bit_at (get_or l.tile k 0) j ≡ bit_of (column_of l.columns (64 * l.group + k)) (8 * l.at + j)
