use Rattle.std.proofs.Common.{arith}
use Rattle.psi_cuckoo.proofs.Paths.{names_at}
use Rattle.psi_cuckoo.proofs.table.Task.candidate.Goals as goal

pub returns : goal.returns
returns c = names_at c.args.self.now.candidates.now c.args.item c.args.index (c.requires.task.three c.args.item c.requires.item) c.requires.least (omega arith)
