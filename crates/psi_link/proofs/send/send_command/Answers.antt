use Rattle.psi_link.specs.Send.{send_tree}
use Rattle.psi_walk.specs.Tree.{ended}
use Rattle.psi_walk.proofs.Walks.{run_of}
use Rattle.psi_link.proofs.SendLaws.{send_keeps}
use Rattle.psi_link.proofs.send.send_command.Goals as goal

pub returns-clause-promise : goal.returns-clause-promise
returns-clause-promise g c = λ fit.
    send_keeps g.W.World.known c.args.words.now (g.W.World.outside c.args.world.now) (ended c.outcome_of.result (g.W.World.outside c.send_steps.new.world))
    (run_of g.W.World.known c.args.words.now (send_tree c.args.words.now) (g.W.World.outside c.args.world.now) (g.W.World.outside c.send_steps.new.world) c.send_steps.result c.outcome_of.result
    (c.outcome_of.ensures (g.W.World.outside c.send_steps.new.world)) c.send_steps.ensures)
