use Rattle.std.proofs.Common.{◌++◌, ℕ, List, take, ap, ap₂, sym, subst, ◌∙◌}
use Rattle.psi_receiver.specs.Logging.{LoggedState}
use Rattle.psi_receiver.specs.Running.{KeptSince}
use Rattle.psi_receiver.proofs.logged.LoggedReceiverEnd.sent.Goals as goal

pub returns-clause-keeps : goal.returns-clause-keeps
returns-clause-keeps c first before wire kept =
    let was = subst (λ (e : LoggedState). KeptSince first.core e.core before) (sym c.self.view_is) kept.core in
    record {
      core = c.sent.ensures.keeps first.core before wire was;
      log =
          c.add.ensures.bytes
          ∙ ap₂ (λ (log sent : List ℕ). log ++ take c.args.n sent) (ap (λ (e : LoggedState). e.log) c.self.view_is ∙ kept.log)
          (c.pending.ensures.gives ∙ ap (λ (e : LoggedState). e.core.pending) c.self.view_is);
    }
