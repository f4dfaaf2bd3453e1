use Rattle.std.proofs.Common.{arith}
use Rattle.psi_lanes.proofs.Exchange.{exchanged}
use Rattle.psi_lanes.proofs.tile.exchange.Goals as goal

pub returns : goal.returns
returns c =
    exchanged c.args.shift c.args.mask c.requires.positive c.requires.fits c.requires.masks c.args.from.now c.loop-quarter.to
    (λ k l. c.loop-quarter.invariant k (omega arith))
