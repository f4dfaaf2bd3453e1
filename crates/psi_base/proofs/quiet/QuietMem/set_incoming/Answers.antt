use Rattle.psi_base.specs.State.{state_of, state_with_incoming}
use Rattle.psi_base.proofs.Unlisted.{unlisted_after}
use Rattle.psi_base.proofs.quiet.QuietMem.set_incoming.Goals as goal

pub invariant_of-self : goal.invariant_of-self
invariant_of-self c =
    let old = state_of c.args.self.now.world in
    record { quiet = unlisted_after old (state_with_incoming old c.args.bytes.now c.args.cuts.now) c.set_incoming.result (state_of c.set_incoming.new.self) c.args.self.now.quiet c.args.self.now.quiet c.set_incoming.ensures.set c.set_incoming.ensures.refused }
