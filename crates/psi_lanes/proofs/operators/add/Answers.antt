use Rattle.psi_lanes.proofs.Each.{each2}
use Rattle.psi_lanes.proofs.operators.add.Goals as goal

pub returns : goal.returns
returns c = each2 _ c.args.x c.args.y c.requires.x c.requires.y
