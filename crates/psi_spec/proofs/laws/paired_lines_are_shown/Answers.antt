use Rattle.psi_spec.proofs.Pairing.{lists_show_equal, pairs_find_shown_lines}
use Rattle.psi_spec.proofs.laws.paired_lines_are_shown.Goals as goal

pub returns-clause-equal : goal.returns-clause-equal
returns-clause-equal c = lists_show_equal

pub returns-clause-found : goal.returns-clause-found
returns-clause-found c = pairs_find_shown_lines
