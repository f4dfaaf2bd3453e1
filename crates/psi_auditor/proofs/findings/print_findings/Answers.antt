use Rattle.std.proofs.Common.{refl, rules}
use Rattle.psi_base.specs.declared.faults.Fault.TheVariants as fault
use Rattle.psi_walk.specs.Walk.{Does, Follows, passed, cut}
use Rattle.psi_auditor.proofs.findings.print_findings.Goals as goal

pub returns-in-Ok : goal.returns-in-Ok
unfolding Follows Does
returns-in-Ok g c = λ words taken wire rest end h. passed tt (g.W.World.outside c.print_text.new.world) c.in-Ok.ensures h

pub returns-in-Err-Failed : goal.returns-in-Err-Failed
unfolding Follows Does
returns-in-Err-Failed g c = λ words taken wire rest. cut fault.Failed (g.W.World.outside c.print_text.new.world) (search rules) refl

pub returns-in-Err-NoMemory : goal.returns-in-Err-NoMemory
unfolding Follows Does
returns-in-Err-NoMemory g c = λ words taken wire rest. cut fault.NoMemory (g.W.World.outside c.print_text.new.world) (search rules) refl
