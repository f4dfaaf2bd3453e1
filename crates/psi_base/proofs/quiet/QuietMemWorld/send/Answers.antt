use Rattle.psi_base.specs.State.{state_of}
use Rattle.psi_base.proofs.Unlisted.{sends_steady}
use Rattle.psi_base.proofs.quiet.QuietMemWorld.send.Goals as goal

pub invariant_of-self : goal.invariant_of-self
invariant_of-self c = record { quiet = (sends_steady (state_of c.args.self.now.world) c.args.bytes.now c.send.result (state_of c.send.new.self) c.args.self.now.quiet c.send.ensures.sends c.send.ensures.exact).1 }

pub returns-clause-sends : goal.returns-clause-sends
returns-clause-sends c = (sends_steady (state_of c.args.self.now.world) c.args.bytes.now c.send.result (state_of c.send.new.self) c.args.self.now.quiet c.send.ensures.sends c.send.ensures.exact).0
