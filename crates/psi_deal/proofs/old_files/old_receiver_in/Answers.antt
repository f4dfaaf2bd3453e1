use Rattle.std.proofs.Common.{◌≡◌, ◌∙◌, drop, sym, ap, subst, arith}
use Rattle.std.proofs.lemmas.List.{take_rest}
use Rattle.psi_spec.specs.Deals.{IsReceiverDeal, seed_pairs}
use Rattle.psi_spec.specs.OldDealFiles.{old_receiver_of}
use Rattle.psi_deal.specs.Pairs.{pairs_of, receiver_view}
use Rattle.psi_deal.proofs.OldFaultless.{good_old_from_none, good_old_receiver, old_receiver_made}
use Rattle.psi_deal.proofs.old_files.old_receiver_in.Goals as goal

pub invariant_of-result : goal.invariant_of-result
invariant_of-result c =
    let bytes = c.args.bytes.now in
    let head = c.read-head.result in
    let pairs = c.in_ok-pairs.pairs.items in
    let e = c.read-head.ensures in
    let seeds : pairs_of pairs ≡ seed_pairs 512 (drop 47 bytes) = c.in_ok-pairs.ensures ∙ ap (seed_pairs 512) (take_rest bytes 47) in
    let made : receiver_view head pairs ≡ old_receiver_of bytes = old_receiver_made bytes head pairs e.id e.session e.key e.tag_length e.stash seeds in
    let file = good_old_receiver bytes (λ i. omega (arith, c.type_inv.bytes i)) (good_old_from_none bytes c.requires.good) c.requires.role in
    subst IsReceiverDeal (sym made) file.sizes

pub returns : goal.returns
returns c =
    let bytes = c.args.bytes.now in
    let e = c.read-head.ensures in
    old_receiver_made bytes c.read-head.result c.in_ok-pairs.pairs.items e.id e.session e.key e.tag_length e.stash (c.in_ok-pairs.ensures ∙ ap (seed_pairs 512) (take_rest bytes 47))
