use Rattle.std.proofs.Common.{[], ◌∷◌, ◌++◌, subst, sym}
use Rattle.psi_frames.specs.Expected.{seen}
use Rattle.psi_receiver.specs.Running.{KeptSince, ReceiverState}
use Rattle.psi_receiver.proofs.Kept.{kept_on}
use Rattle.psi_receiver.proofs.receiver.ReceiverCoreEnd.take.Goals as goal

pub returns-clause-keeps : goal.returns-clause-keeps
returns-clause-keeps c first before wire kept =
    let s : ReceiverState = c.self.inside.session in
    let was = subst (λ (r : ReceiverState). KeptSince first r before) (sym c.self.view_is) kept in
    kept_on first s c.take.new.self c.refill.new.self before (before ++ seen c.args.frame.now ∷ []) was c.take.ensures.deal c.take.ensures.placed (c.take.ensures.marks before was.marks)
    c.refill.ensures.deal c.refill.ensures.placed c.refill.ensures.lists c.refill.ensures.tells.found
