use Rattle.std.proofs.Common.{◌≡◌, ◌<◌, ◌+◌, ◌*◌, ℕ, [], get_or}
use Rattle.std.specs.Int.{bit_at}
use Rattle.psi_spec.specs.Bits.{bit_of}
use Rattle.psi_lanes.proofs.flips_back.load_rows.Given as goal

-- the words so far
abbrev pub invariant-loop-j : goal.invariant-loop-j
invariant-loop-j l = (k i : ℕ) → k < l.j → i < 64
    → bit_at (get_or l.tile k 0) i ≡ bit_of (get_or l.strip k []) (64 * l.group + i)
