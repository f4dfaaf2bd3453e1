use Rattle.psi_dealer.specs.Renew.{renew_tree}
use Rattle.psi_walk.specs.Tree.{ended}
use Rattle.psi_walk.proofs.Walks.{run_of}
use Rattle.psi_dealer.proofs.RenewLaws.{renew_keeps}
use Rattle.psi_dealer.proofs.renew.renew_command.Goals as goal

pub returns-clause-promise : goal.returns-clause-promise
returns-clause-promise g c = λ fit.
    renew_keeps g.W.World.known c.args.words.now (g.W.World.outside c.args.world.now) (ended c.outcome_of.result (g.W.World.outside c.renew_steps.new.world))
    (run_of g.W.World.known c.args.words.now renew_tree (g.W.World.outside c.args.world.now) (g.W.World.outside c.renew_steps.new.world) c.renew_steps.result c.outcome_of.result
    (c.outcome_of.ensures (g.W.World.outside c.renew_steps.new.world)) c.renew_steps.ensures)
