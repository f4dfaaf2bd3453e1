use Rattle.psi_base.specs.State.{state_of}
use Rattle.psi_base.proofs.Unlisted.{receives_steady}
use Rattle.psi_base.proofs.quiet.QuietMemWorld.recv.Goals as goal

pub invariant_of-self : goal.invariant_of-self
invariant_of-self c = record { quiet = (receives_steady (state_of c.args.self.now.world) c.args.buf.now c.recv.result c.recv.new.buf (state_of c.recv.new.self) c.args.self.now.quiet c.recv.ensures.receives c.recv.ensures.exact).1 }

pub returns-clause-receives : goal.returns-clause-receives
returns-clause-receives c = (receives_steady (state_of c.args.self.now.world) c.args.buf.now c.recv.result c.recv.new.buf (state_of c.recv.new.self) c.args.self.now.quiet c.recv.ensures.receives c.recv.ensures.exact).0
