-- The numbers of the reasons.
use Rattle.std.specs.Prelude.{ℕ}
use Rattle.psi_frames.specs.declared.reasons.Reason.{Reason}
use Rattle.psi_frames.specs.declared.reasons.Reason.TheVariants as reason

-- the number of a reason
abbrev pub number_of_reason : Reason → ℕ
number_of_reason (reason.Kind found wanted) = 1
number_of_reason (reason.Length found wanted) = 2
number_of_reason (reason.Version found) = 3
number_of_reason (reason.Deal found) = 4
number_of_reason (reason.Session found) = 5
number_of_reason (reason.Count found) = 6
number_of_reason (reason.Index found wanted) = 7
number_of_reason (reason.Padding byte) = 8
number_of_reason (reason.Order at) = 9
number_of_reason (reason.List found wanted) = 10
