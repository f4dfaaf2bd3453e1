use Rattle.std.proofs.Common.{sym, subst}
use Rattle.psi_frames.specs.Script.{IsSettled, IsWithin}
use Rattle.psi_receiver.specs.Running.{Stage, next_of}
use Rattle.psi_receiver.proofs.Received.{receives}
use Rattle.psi_receiver.proofs.Within.{within_receiver}
use Rattle.psi_receiver.proofs.run.run_receiver.Goals as goal

pub converse-requires-clause-settled : goal.converse-requires-clause-settled
converse-requires-clause-settled g c =
    let core = c.args.end.now.core in
    subst (λ (stage : Stage). IsSettled (next_of core.deal core.placed stage)) (sym c.requires.new.stage) tt

pub converse-requires-clause-few : goal.converse-requires-clause-few
converse-requires-clause-few g c =
    let core = c.args.end.now.core in
    subst (λ (stage : Stage). IsWithin 19457 (next_of core.deal core.placed stage)) (sym c.requires.new.stage) (within_receiver core.deal core.placed c.requires.deal)

pub returns : goal.returns
returns g c =
    receives g.W.World.known c.args.end.now c.converse.new.end (g.W.World.outside c.args.world.now) (g.W.World.outside c.converse.new.world) c.converse.result
    c.requires.new c.requires.deal c.converse.ensures.converses c.converse.ensures.owes c.converse.ensures.done
