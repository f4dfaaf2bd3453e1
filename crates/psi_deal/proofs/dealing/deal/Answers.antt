use Rattle.std.proofs.Common.{rules}
use Rattle.psi_spec.specs.Deals.{ReceiverDeal, SenderDeal, dealt_receiver, dealt_sender}
use Rattle.psi_spec.proofs.Dealing.{dealt_are_pairs}
use Rattle.psi_deal.specs.BadDeals.{IsJudged, bad_request}
use Rattle.psi_deal.proofs.Faultless.{pair_answered}
use Rattle.psi_deal.proofs.dealing.deal.Goals as goal

pub returns-clause-pair : goal.returns-clause-pair
returns-clause-pair c =
    let receiver : ReceiverDeal = dealt_receiver c.args.seed.now c.args.session c.args.tag_length c.args.stash in
    let sender : SenderDeal = dealt_sender c.args.seed.now c.args.session c.args.tag_length c.args.stash in
    let answers : IsJudged (bad_request c.args.tag_length c.args.stash) (receiver, sender) c.map_err.result = search rules in
    pair_answered (bad_request c.args.tag_length c.args.stash) receiver sender c.map_err.result answers
    (dealt_are_pairs c.args.seed.now c.args.session c.args.tag_length c.args.stash)
