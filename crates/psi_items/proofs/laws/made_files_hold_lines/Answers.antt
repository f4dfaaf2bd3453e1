use Rattle.psi_items.proofs.MadeItems.{made_files_hold_lines}
use Rattle.psi_items.proofs.laws.made_files_hold_lines.Goals as goal

pub returns : goal.returns
returns c = made_files_hold_lines
