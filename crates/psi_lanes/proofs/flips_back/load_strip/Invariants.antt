use Rattle.std.proofs.Common.{◌≡◌, ◌<◌, ℕ, [], get_or}
use Rattle.psi_spec.specs.Bits.{bit_of}
use Rattle.psi_lanes.proofs.flips_back.load_strip.Given as goal

-- the rows so far
abbrev pub invariant-loop-j : goal.invariant-loop-j
invariant-loop-j l = (k i : ℕ) → k < l.j → i < 512 → bit_of (get_or l.strip k []) i ≡ bit_of (get_or l.words k []) i
