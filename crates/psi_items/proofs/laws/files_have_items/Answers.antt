use Rattle.psi_items.proofs.Members.{AreItems-items_of}
use Rattle.psi_items.proofs.laws.files_have_items.Goals as goal

pub returns : goal.returns
returns c = AreItems-items_of
