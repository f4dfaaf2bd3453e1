use Rattle.std.proofs.Common.{rules, ◌≡◌, ◌∙◌, length, ap, subst}
use Rattle.psi_spec.specs.Deals.{IsReceiverDeal}
use Rattle.psi_spec.specs.DealFiles.{receiver_bytes}
use Rattle.psi_spec.proofs.DealFiles.{length-receiver_bytes}
use Rattle.psi_deal.proofs.files.write_receiver.Goals as goal

pub returns-clause-size : goal.returns-clause-size
unfolding receiver_bytes
returns-clause-size c =
    let deal = c.args.deal.now in
    let file : c.in_ok-seal.field-0.items ≡ receiver_bytes deal = search rules in
    ap length file ∙ length-receiver_bytes deal (subst IsReceiverDeal c.deal.view_is c.deal.invariant)
