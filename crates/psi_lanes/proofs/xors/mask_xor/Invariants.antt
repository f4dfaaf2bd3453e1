use Rattle.std.proofs.Common.{◌≡◌, ◌<◌, ◌≤◌, ℕ, [], get_or}
use Rattle.psi_spec.specs.Bits.{xor, both}
use Rattle.psi_lanes.proofs.xors.mask_xor.Given as goal

-- the words so far are changed, and the others are as they were
abbrev pub invariant-loop-j : goal.invariant-loop-j
invariant-loop-j l = record {
  done : (k : ℕ) → k < l.j → get_or l.out k [] ≡ xor (get_or l.fn.out k []) (both l.mask (get_or l.words k []));
  rest : (k : ℕ) → l.j ≤ k → get_or l.out k [] ≡ get_or l.fn.out k [];
}
