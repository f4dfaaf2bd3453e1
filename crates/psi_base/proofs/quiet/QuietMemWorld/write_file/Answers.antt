use Rattle.psi_base.specs.State.{state_of}
use Rattle.psi_base.proofs.Unlisted.{writes_steady}
use Rattle.psi_base.proofs.quiet.QuietMemWorld.write_file.Goals as goal

pub invariant_of-self : goal.invariant_of-self
invariant_of-self c = record { quiet = (writes_steady (state_of c.args.self.now.world) c.args.name.now c.args.bytes.now c.write_file.result (state_of c.write_file.new.self) c.args.self.now.quiet c.write_file.ensures.writes c.write_file.ensures.exact).1 }

pub returns-clause-writes : goal.returns-clause-writes
returns-clause-writes c = (writes_steady (state_of c.args.self.now.world) c.args.name.now c.args.bytes.now c.write_file.result (state_of c.write_file.new.self) c.args.self.now.quiet c.write_file.ensures.writes c.write_file.ensures.exact).0
