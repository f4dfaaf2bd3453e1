-- What the steady world in memory holds.
use Rattle.psi_base.specs.State.{State, state_of}
use Rattle.psi_base.specs.declared.quiet.QuietMem.{QuietMem}

-- what it holds: a state in which no call is listed to fail
abbrev pub quiet_of : QuietMem → State
quiet_of quiet = state_of quiet.world
