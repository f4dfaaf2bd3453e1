use Rattle.psi_twin.specs.Twin.{twin_tree}
use Rattle.psi_walk.specs.Tree.{ended}
use Rattle.psi_walk.proofs.Walks.{run_of}
use Rattle.psi_twin.proofs.TwinLaws.{twin_keeps}
use Rattle.psi_twin.proofs.twin.twin_command.Goals as goal

pub returns-clause-promise : goal.returns-clause-promise
returns-clause-promise g c = λ fit.
    twin_keeps g.W.World.known c.args.words.now (g.W.World.outside c.args.world.now) (ended c.outcome_of.result (g.W.World.outside c.twin_steps.new.world))
    (run_of g.W.World.known c.args.words.now twin_tree (g.W.World.outside c.args.world.now) (g.W.World.outside c.twin_steps.new.world) c.twin_steps.result c.outcome_of.result
    (c.outcome_of.ensures (g.W.World.outside c.twin_steps.new.world)) c.twin_steps.ensures)
