use Rattle.psi_base.specs.State.{state_of}
use Rattle.psi_base.proofs.Unlisted.{prints_steady}
use Rattle.psi_base.proofs.quiet.QuietMemWorld.print.Goals as goal

pub invariant_of-self : goal.invariant_of-self
invariant_of-self c = record { quiet = (prints_steady (state_of c.args.self.now.world) c.args.bytes.now c.print.result (state_of c.print.new.self) c.args.self.now.quiet c.print.ensures.prints c.print.ensures.exact).1 }

pub returns-clause-prints : goal.returns-clause-prints
returns-clause-prints c = (prints_steady (state_of c.args.self.now.world) c.args.bytes.now c.print.result (state_of c.print.new.self) c.args.self.now.quiet c.print.ensures.prints c.print.ensures.exact).0
