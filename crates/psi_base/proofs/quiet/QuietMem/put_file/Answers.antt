use Rattle.psi_base.specs.State.{state_of, state_with_file}
use Rattle.psi_base.proofs.Unlisted.{unlisted_after}
use Rattle.psi_base.proofs.quiet.QuietMem.put_file.Goals as goal

pub invariant_of-self : goal.invariant_of-self
invariant_of-self c =
    let old = state_of c.args.self.now.world in
    record { quiet = unlisted_after old (state_with_file old c.args.name.now c.args.bytes.now) c.put_file.result (state_of c.put_file.new.self) c.args.self.now.quiet c.args.self.now.quiet c.put_file.ensures.put c.put_file.ensures.refused }
