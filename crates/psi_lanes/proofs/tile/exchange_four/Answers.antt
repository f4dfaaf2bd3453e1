use Rattle.psi_lanes.proofs.Fours.{makes_pair, keeps_before}
use Rattle.psi_lanes.proofs.tile.exchange_four.Goals as goal

pub returns-clause-made : goal.returns-clause-made
returns-clause-made c =
    makes_pair c.args.shift c.args.mask c.args.at c.args.from.now c.args.to.now c.requires.from c.requires.to c.requires.place

pub returns-clause-below : goal.returns-clause-below
returns-clause-below c =
    keeps_before c.args.shift c.args.mask c.args.at c.args.from.now c.args.to.now c.requires.from c.requires.to c.requires.place
