use Rattle.std.proofs.Common.{refl, rules}
use Rattle.psi_base.specs.declared.faults.ReadFault.TheVariants as read
use Rattle.psi_walk.specs.Walk.{Follows, passed, cut}
use Rattle.psi_walk.proofs.steps.read_bytes.Goals as goal

pub returns-in-Ok-clause-steps : goal.returns-in-Ok-clause-steps
unfolding Follows
returns-in-Ok-clause-steps g c = λ are_bytes next end h.
    passed c.in-Ok.bytes.items (g.W.World.outside c.read_file.new.self) (are_bytes, search rules) h

pub returns-in-Err-Failed-clause-steps : goal.returns-in-Err-Failed-clause-steps
unfolding Follows
returns-in-Err-Failed-clause-steps g c = λ next. cut read.Failed (g.W.World.outside c.read_file.new.self) (search rules) refl

pub returns-in-Err-TooLong-clause-steps : goal.returns-in-Err-TooLong-clause-steps
unfolding Follows
returns-in-Err-TooLong-clause-steps g c = λ next. cut (read.TooLong c.in-Err-TooLong.taken) (g.W.World.outside c.read_file.new.self) (search rules) refl

pub returns-in-Err-NoMemory-clause-steps : goal.returns-in-Err-NoMemory-clause-steps
unfolding Follows
returns-in-Err-NoMemory-clause-steps g c = λ next. cut read.NoMemory (g.W.World.outside c.read_file.new.self) (search rules) refl
