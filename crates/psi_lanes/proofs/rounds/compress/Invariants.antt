use Rattle.std.proofs.Common.{◌<◌, ◌*◌, ℕ, List}
use Rattle.psi_lanes.specs.Lanes.{AreLanes, lane}
use Rattle.psi_lanes.specs.Rounds.{IsAfterRounds, IsScheduled, word_list}
use Rattle.psi_lanes.proofs.rounds.compress.Given as goal

-- words and working variables are those after the rounds so far
abbrev pub invariant-loop-turn : goal.invariant-loop-turn
invariant-loop-turn l = record {
  lanes : AreLanes 8 l.v;
  value : (j : ℕ) → j < 8 → (b : List ℕ) → IsScheduled 16 b (word_list j l.fn.w) → IsAfterRounds b (lane j l.h) (word_list j l.w) (lane j l.v) (4 * l.turn);
}
