use Rattle.std.proofs.Common.{◌<◌, ℕ}
use Rattle.psi_lanes.specs.Rounds.{IsScheduled, word_list}
use Rattle.psi_lanes.proofs.end_block.whole_schedule.Given as goal

-- the words so far are those of the schedule
abbrev pub invariant-loop-t : goal.invariant-loop-t
invariant-loop-t l = (j : ℕ) → j < 8 → IsScheduled l.t l.block (word_list j l.words)
