use Rattle.psi_link.specs.Receive.{receive_tree}
use Rattle.psi_walk.specs.Tree.{ended}
use Rattle.psi_walk.proofs.Walks.{run_of}
use Rattle.psi_link.proofs.ReceivePromise.{receive_keeps}
use Rattle.psi_link.proofs.receive.receive_command.Goals as goal

pub returns-clause-promise : goal.returns-clause-promise
returns-clause-promise g c = λ fit.
    receive_keeps g.W.World.known c.args.words.now (g.W.World.outside c.args.world.now) (ended c.outcome_of.result (g.W.World.outside c.receive_steps.new.world))
    (run_of g.W.World.known c.args.words.now (receive_tree c.args.words.now) (g.W.World.outside c.args.world.now) (g.W.World.outside c.receive_steps.new.world) c.receive_steps.result c.outcome_of.result
    (c.outcome_of.ensures (g.W.World.outside c.receive_steps.new.world)) c.receive_steps.ensures)
