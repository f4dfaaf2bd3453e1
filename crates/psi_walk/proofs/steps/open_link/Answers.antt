use Rattle.std.proofs.Common.{refl, rules}
use Rattle.psi_base.specs.declared.faults.Fault.TheVariants as fault
use Rattle.psi_walk.specs.Walk.{Follows, passed, cut}
use Rattle.psi_walk.proofs.steps.open_link.Goals as goal

pub returns-in-Ok-clause-steps : goal.returns-in-Ok-clause-steps
unfolding Follows
returns-in-Ok-clause-steps g c = λ next end h. passed tt (g.W.World.outside c.open_link.new.self) (search rules) h

pub returns-in-Err-Failed-clause-steps : goal.returns-in-Err-Failed-clause-steps
unfolding Follows
returns-in-Err-Failed-clause-steps g c = λ next. cut fault.Failed (g.W.World.outside c.open_link.new.self) (search rules) refl

pub returns-in-Err-NoMemory-clause-steps : goal.returns-in-Err-NoMemory-clause-steps
unfolding Follows
returns-in-Err-NoMemory-clause-steps g c = λ next. cut fault.NoMemory (g.W.World.outside c.open_link.new.self) (search rules) refl
