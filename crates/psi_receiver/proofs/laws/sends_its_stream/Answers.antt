use Rattle.psi_receiver.proofs.Fronts.{sends_its_stream}
use Rattle.psi_receiver.proofs.laws.sends_its_stream.Goals as goal

pub returns : goal.returns
returns c = sends_its_stream
