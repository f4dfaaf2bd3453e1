use Rattle.psi_spec.proofs.Pairing.{lists_are_hidden}
use Rattle.psi_spec.proofs.laws.paired_lines_are_hidden.Goals as goal

pub returns : goal.returns
returns c = lists_are_hidden
