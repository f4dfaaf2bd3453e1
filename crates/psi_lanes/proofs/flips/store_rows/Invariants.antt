use Rattle.std.proofs.Common.{◌≡◌, ◌<◌, ◌≤◌, ◌*◌, ℕ, [], get_or}
use Rattle.psi_lanes.specs.Strips.{IsBytes, PutsWord}
use Rattle.psi_lanes.proofs.flips.store_rows.Given as goal

-- the rows so far have the word, and the others are as they were
abbrev pub invariant-loop-j : goal.invariant-loop-j
invariant-loop-j l = record {
  done : (k : ℕ) → k < l.j → PutsWord (8 * l.group) (get_or l.tile k 0) (get_or l.fn.strip k []) (get_or l.strip k []);
  whole : (k : ℕ) → k < l.j → IsBytes 64 (get_or l.strip k []);
  rest : (k : ℕ) → l.j ≤ k → get_or l.strip k [] ≡ get_or l.fn.strip k [];
}
