use Rattle.std.proofs.Common.{List, [], ◌++◌, subst, sym}
use Rattle.std.proofs.lemmas.List.{append-nil}
use Rattle.psi_spec.specs.Frames.{Frame}
use Rattle.psi_receiver.specs.Own.{AreMarked, Marked}
use Rattle.psi_receiver.specs.Running.{KeptSince, ReceiverState}
use Rattle.psi_receiver.proofs.Kept.{kept_on}
use Rattle.psi_receiver.proofs.receiver.ReceiverCoreEnd.sent.Goals as goal

pub returns-clause-keeps : goal.returns-clause-keeps
returns-clause-keeps c first before wire kept =
    let s : ReceiverState = c.self.inside.session in
    let was = subst (λ (r : ReceiverState). KeptSince first r before) (sym c.self.view_is) kept in
    let marks = subst (λ (lists : List Marked). AreMarked s.deal.tag_length before lists) (sym c.sent.ensures.lists) was.marks in
    kept_on first s c.sent.new.self c.refill.new.self before (before ++ []) was c.sent.ensures.deal c.sent.ensures.placed
    (subst (λ (frames : List Frame). AreMarked s.deal.tag_length frames c.sent.new.self.lists) (sym (append-nil before)) marks)
    c.refill.ensures.deal c.refill.ensures.placed c.refill.ensures.lists c.refill.ensures.tells.found
