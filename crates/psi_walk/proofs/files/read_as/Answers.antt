use Rattle.std.proofs.Common.{ℕ, List}
use Rattle.psi_spec.specs.Limits.{file_limit}
use Rattle.psi_walk.specs.Files.{reads_file}
use Rattle.psi_walk.specs.Tree.{decides}
use Rattle.psi_walk.proofs.Walks.{then_judged}
use Rattle.psi_walk.proofs.files.read_as.Goals as goal

pub returns-in-Ok-clause-steps : goal.returns-in-Ok-clause-steps
unfolding reads_file
returns-in-Ok-clause-steps g c =
    then_judged g.W.World.known c.args.words.now c.args.word file_limit (g.T.FromFile.held c.args.word)
    (g.W.World.outside c.args.world.now) (g.W.World.outside c.read_bytes.new.world) c.in-Ok.bytes.items c.judge.result
    c.in-Ok.ensures.steps c.in-Ok.ensures.unchanged (rw c.deref.ensures.value at c.judge.ensures.are_bytes) (rw c.deref.ensures.value at c.judge.ensures.settles)

pub returns-in-Err-clause-steps : goal.returns-in-Err-clause-steps
unfolding reads_file
returns-in-Err-clause-steps g c = λ next. c.in-Err.ensures.steps (λ (bytes : List ℕ). decides (g.T.FromFile.held c.args.word bytes) next)
