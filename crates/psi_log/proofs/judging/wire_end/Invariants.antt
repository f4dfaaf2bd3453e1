use Rattle.std.proofs.Common.{length, ◌-◌, ◌≤◌}
use Rattle.psi_log.proofs.Walking.{HasCome}
use Rattle.psi_log.proofs.judging.wire_end.Given as goal

abbrev pub invariant-loop-at : goal.invariant-loop-at
invariant-loop-at l = record { within : l.at ≤ length l.bytes; come : HasCome l.start l.at l.bytes }

abbrev pub decreases-loop-at : goal.decreases-loop-at
decreases-loop-at l = length l.bytes - l.at
