use Rattle.psi_dealer.specs.Deal.{deal_tree}
use Rattle.psi_walk.specs.Tree.{ended}
use Rattle.psi_walk.proofs.Walks.{run_of}
use Rattle.psi_dealer.proofs.DealLaws.{deal_keeps}
use Rattle.psi_dealer.proofs.deal.deal_command.Goals as goal

pub returns-clause-promise : goal.returns-clause-promise
returns-clause-promise g c = λ fit.
    deal_keeps g.W.World.known c.args.words.now (g.W.World.outside c.args.world.now) (ended c.outcome_of.result (g.W.World.outside c.deal_steps.new.world))
    (run_of g.W.World.known c.args.words.now (deal_tree c.args.words.now) (g.W.World.outside c.args.world.now) (g.W.World.outside c.deal_steps.new.world) c.deal_steps.result c.outcome_of.result
    (c.outcome_of.ensures (g.W.World.outside c.deal_steps.new.world)) c.deal_steps.ensures)
