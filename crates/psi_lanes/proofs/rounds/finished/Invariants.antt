use Rattle.std.proofs.Common.{◌≡◌, ◌<◌, ◌*◌, ℕ, List}
use Rattle.sha2.specs.Sha256.{rounds, schedule}
use Rattle.psi_lanes.specs.Lanes.{AreLanes, lane}
use Rattle.psi_lanes.specs.Rounds.{IsScheduled, word_list}
use Rattle.psi_lanes.proofs.rounds.finished.Given as goal

-- the working variables are those after the rounds so far
abbrev pub invariant-loop-turn : goal.invariant-loop-turn
invariant-loop-turn l = record {
  lanes : AreLanes 8 l.v;
  value : (j : ℕ) → j < 8 → (b : List ℕ) → IsScheduled 64 b (word_list j l.w)
      → lane j l.fn.v ≡ rounds (lane j l.h) (schedule b 48) (4 * l.turns) → lane j l.v ≡ rounds (lane j l.h) (schedule b 48) (4 * l.turn);
}
