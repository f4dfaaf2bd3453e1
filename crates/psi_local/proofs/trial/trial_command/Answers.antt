use Rattle.psi_local.specs.Trial.{trial_tree}
use Rattle.psi_walk.specs.Tree.{ended}
use Rattle.psi_walk.proofs.Walks.{run_of}
use Rattle.psi_local.proofs.TrialLaws.{trial_keeps}
use Rattle.psi_local.proofs.trial.trial_command.Goals as goal

pub returns-clause-promise : goal.returns-clause-promise
returns-clause-promise g c = λ fit.
    trial_keeps g.W.World.known c.args.words.now (g.W.World.outside c.args.world.now) (ended c.outcome_of.result (g.W.World.outside c.trial_steps.new.world))
    (run_of g.W.World.known c.args.words.now (trial_tree c.args.words.now) (g.W.World.outside c.args.world.now) (g.W.World.outside c.trial_steps.new.world) c.trial_steps.result c.outcome_of.result
    (c.outcome_of.ensures (g.W.World.outside c.trial_steps.new.world)) c.trial_steps.ensures)
