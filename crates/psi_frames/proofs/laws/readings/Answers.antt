use Rattle.psi_frames.proofs.Readings.{reading_stays, reads_awaited, reads_frames, reads_on, takes_awaited}
use Rattle.psi_frames.proofs.laws.readings.Goals as goal

pub returns-clause-exact : goal.returns-clause-exact
returns-clause-exact c = reads_frames

pub returns-clause-awaited : goal.returns-clause-awaited
returns-clause-awaited c = reads_awaited

pub returns-clause-on : goal.returns-clause-on
returns-clause-on c = reads_on

pub returns-clause-stays : goal.returns-clause-stays
returns-clause-stays c = reading_stays

pub returns-clause-frames : goal.returns-clause-frames
returns-clause-frames c = takes_awaited
