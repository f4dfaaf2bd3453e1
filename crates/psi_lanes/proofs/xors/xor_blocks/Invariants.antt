use Rattle.std.proofs.Common.{◌≡◌, ◌<◌, ◌≤◌, ◌*◌, ℕ, get_or, bit_xor}
use Rattle.psi_lanes.proofs.xors.xor_blocks.Given as goal

-- the bytes of the blocks so far are changed, and the others are as they were
abbrev pub invariant-loop-block : goal.invariant-loop-block
invariant-loop-block l = record {
  done : (k : ℕ) → k < 32 * l.block → get_or l.out k 0 ≡ bit_xor (get_or l.fn.out k 0) (get_or l.bytes k 0);
  rest : (k : ℕ) → 32 * l.block ≤ k → get_or l.out k 0 ≡ get_or l.fn.out k 0;
}
