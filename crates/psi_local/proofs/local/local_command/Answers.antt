use Rattle.psi_local.specs.Local.{local_tree}
use Rattle.psi_walk.specs.Tree.{ended}
use Rattle.psi_walk.proofs.Walks.{run_of}
use Rattle.psi_local.proofs.LocalLaws.{local_keeps}
use Rattle.psi_local.proofs.local.local_command.Goals as goal

pub returns-clause-promise : goal.returns-clause-promise
returns-clause-promise g c = λ fit.
    local_keeps g.W.World.known c.args.words.now (g.W.World.outside c.args.world.now) (ended c.outcome_of.result (g.W.World.outside c.local_steps.new.world))
    (run_of g.W.World.known c.args.words.now (local_tree c.args.words.now) (g.W.World.outside c.args.world.now) (g.W.World.outside c.local_steps.new.world) c.local_steps.result c.outcome_of.result
    (c.outcome_of.ensures (g.W.World.outside c.local_steps.new.world)) c.local_steps.ensures)
