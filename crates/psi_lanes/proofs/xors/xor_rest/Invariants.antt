use Rattle.std.proofs.Common.{◌≡◌, ◌<◌, ◌≤◌, ℕ, get_or, bit_xor}
use Rattle.psi_lanes.proofs.xors.xor_rest.Given as goal

-- the bytes so far are changed, and the others are as they were
abbrev pub invariant-loop-k : goal.invariant-loop-k
invariant-loop-k l = record {
  done : (j : ℕ) → l.at ≤ j → j < l.k → get_or l.out j 0 ≡ bit_xor (get_or l.fn.out j 0) (get_or l.bytes j 0);
  below : (j : ℕ) → j < l.at → get_or l.out j 0 ≡ get_or l.fn.out j 0;
  rest : (j : ℕ) → l.k ≤ j → get_or l.out j 0 ≡ get_or l.fn.out j 0;
}
