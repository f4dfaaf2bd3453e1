use Rattle.psi_base.specs.Outside.{link_to}
use Rattle.psi_base.specs.State.{state_of}
use Rattle.psi_base.proofs.Unlisted.{opens_steady}
use Rattle.psi_base.proofs.quiet.QuietMemWorld.open_link.Goals as goal

pub invariant_of-self : goal.invariant_of-self
invariant_of-self c = record { quiet = (opens_steady (state_of c.args.self.now.world) (link_to c.args.side c.args.address.now) c.open_link.result (state_of c.open_link.new.self) c.args.self.now.quiet c.open_link.ensures.opens c.open_link.ensures.exact).1 }

pub returns-clause-opens : goal.returns-clause-opens
returns-clause-opens c = (opens_steady (state_of c.args.self.now.world) (link_to c.args.side c.args.address.now) c.open_link.result (state_of c.open_link.new.self) c.args.self.now.quiet c.open_link.ensures.opens c.open_link.ensures.exact).0
