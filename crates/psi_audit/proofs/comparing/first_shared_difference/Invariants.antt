use Rattle.std.proofs.Common.{◌≡◌, ◌+◌, drop}
use Rattle.psi_audit.specs.Comparing.{shared_from}
use Rattle.psi_audit.proofs.comparing.first_shared_difference.Given as goal

-- the bytes so far are the recorded ones
abbrev pub invariant-loop-i : goal.invariant-loop-i
invariant-loop-i l = shared_from l.start (drop l.start l.recorded) l.bytes ≡ shared_from (l.start + l.i) (drop (l.start + l.i) l.recorded) (drop l.i l.bytes)
