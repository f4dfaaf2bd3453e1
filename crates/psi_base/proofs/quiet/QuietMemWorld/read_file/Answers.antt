use Rattle.psi_base.specs.State.{state_of}
use Rattle.psi_base.specs.Outside.{as_list}
use Rattle.psi_base.proofs.Unlisted.{reads_steady}
use Rattle.psi_base.proofs.quiet.QuietMemWorld.read_file.Goals as goal

pub invariant_of-self : goal.invariant_of-self
invariant_of-self c = record { quiet = (reads_steady (state_of c.args.self.now.world) c.args.name.now c.args.max (as_list c.read_file.result) (state_of c.read_file.new.self) c.args.self.now.quiet c.read_file.ensures.reads c.read_file.ensures.exact).1 }

pub returns-clause-reads : goal.returns-clause-reads
returns-clause-reads c = (reads_steady (state_of c.args.self.now.world) c.args.name.now c.args.max (as_list c.read_file.result) (state_of c.read_file.new.self) c.args.self.now.quiet c.read_file.ensures.reads c.read_file.ensures.exact).0
