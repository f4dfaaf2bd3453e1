use Rattle.psi_lanes.proofs.Composed.{transposed}
use Rattle.psi_lanes.proofs.Masks.{mask32, mask16, mask8, mask4, mask2, mask1}
use Rattle.psi_lanes.proofs.tile.flip_tile.Goals as goal

pub exchange-requires-clause-masks : goal.exchange-requires-clause-masks
exchange-requires-clause-masks c = mask32

pub exchange-requires-2-clause-masks : goal.exchange-requires-2-clause-masks
exchange-requires-2-clause-masks c = mask16

pub exchange-requires-3-clause-masks : goal.exchange-requires-3-clause-masks
exchange-requires-3-clause-masks c = mask8

pub exchange-requires-4-clause-masks : goal.exchange-requires-4-clause-masks
exchange-requires-4-clause-masks c = mask4

pub exchange-requires-5-clause-masks : goal.exchange-requires-5-clause-masks
exchange-requires-5-clause-masks c = mask2

pub exchange-requires-6-clause-masks : goal.exchange-requires-6-clause-masks
exchange-requires-6-clause-masks c = mask1

pub returns : goal.returns
returns c =
    transposed c.args.tile.now c.exchange.new.to c.exchange-2.new.to c.exchange-3.new.to c.exchange-4.new.to c.exchange-5.new.to c.exchange-6.new.to
    c.exchange.ensures c.exchange-2.ensures c.exchange-3.ensures c.exchange-4.ensures c.exchange-5.ensures c.exchange-6.ensures
