use Rattle.std.proofs.Common.{ap, subst, sym, ◌∙◌}
use Rattle.psi_receiver.specs.Running.{ReceiverState, TellsShown}
use Rattle.psi_receiver.proofs.Holding.{session_tells}
use Rattle.psi_receiver.proofs.session.Session.shown.Goals as goal

pub returns-clause-tells : goal.returns-clause-tells
returns-clause-tells c = λ ready.
    let s = c.self.inside in
    subst (λ (r : ReceiverState). TellsShown r) c.self.view_is
    (session_tells s.deal.now s.items.now s.placement.now s.memory s.phase c.self.invariant
    (λ none. ap (λ (r : ReceiverState). r.rest) c.self.view_is ∙ ready (sym (ap (λ (r : ReceiverState). r.pending) c.self.view_is) ∙ none)))
