use Rattle.psi_sender.proofs.Honest.{serves_honest_receivers}
use Rattle.psi_sender.proofs.laws.serves_honest_receivers.Goals as goal

pub returns : goal.returns
returns c = serves_honest_receivers
