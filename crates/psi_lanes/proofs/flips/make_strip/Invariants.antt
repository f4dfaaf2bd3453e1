use Rattle.std.proofs.Common.{◌≡◌, ◌<◌, ◌+◌, ◌*◌, ℕ, [], get_or}
use Rattle.psi_spec.specs.Bits.{bit_of}
use Rattle.psi_spec.specs.Matrices.{column_of}
use Rattle.psi_lanes.specs.Strips.{IsBytes}
use Rattle.psi_lanes.proofs.flips.make_strip.Given as goal

-- the bits of the groups so far
abbrev pub invariant-groups : goal.invariant-groups
invariant-groups l = record {
  bits : (j c : ℕ) → j < 64 → c < 64 * l.group
      → bit_of (get_or l.strip j []) c ≡ bit_of (column_of l.columns c) (8 * l.at + j);
  whole : (j : ℕ) → j < 64 → 0 < l.group → IsBytes 64 (get_or l.strip j []);
}
