use Rattle.std.proofs.Common.{arith, ◌≡◌, ◌∙◌, length, ap, subst}
use Rattle.std.proofs.lemmas.Grind.{common_steps}
use Rattle.psi_spec.specs.Deals.{IsSenderDeal}
use Rattle.psi_spec.specs.DealFiles.{sender_bytes}
use Rattle.psi_spec.proofs.DealFiles.{length-sender_bytes}
use Rattle.psi_deal.proofs.files.write_sender.Goals as goal

pub returns-clause-size : goal.returns-clause-size
unfolding sender_bytes
returns-clause-size c =
    let deal = c.args.deal.now in
    let file : c.in_ok-seal.field-0.items ≡ sender_bytes deal = grind (arith, common_steps) in
    ap length file ∙ length-sender_bytes deal (subst IsSenderDeal c.deal.view_is c.deal.invariant)
