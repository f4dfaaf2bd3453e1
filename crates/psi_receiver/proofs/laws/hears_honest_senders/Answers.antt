use Rattle.psi_receiver.proofs.Honest.{hears_honest_senders}
use Rattle.psi_receiver.proofs.laws.hears_honest_senders.Goals as goal

pub returns : goal.returns
returns c = hears_honest_senders
