use Rattle.psi_local.specs.Make.{make_tree}
use Rattle.psi_walk.specs.Tree.{ended}
use Rattle.psi_walk.proofs.Walks.{run_of}
use Rattle.psi_local.proofs.MakeLaws.{make_keeps}
use Rattle.psi_local.proofs.make.make_command.Goals as goal

pub returns-clause-promise : goal.returns-clause-promise
returns-clause-promise g c = λ fit.
    make_keeps g.W.World.known c.args.words.now (g.W.World.outside c.args.world.now) (ended c.outcome_of.result (g.W.World.outside c.make_steps.new.world))
    (run_of g.W.World.known c.args.words.now (make_tree c.args.words.now) (g.W.World.outside c.args.world.now) (g.W.World.outside c.make_steps.new.world) c.make_steps.result c.outcome_of.result
    (c.outcome_of.ensures (g.W.World.outside c.make_steps.new.world)) c.make_steps.ensures)
