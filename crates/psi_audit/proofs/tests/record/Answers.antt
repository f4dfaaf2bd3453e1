use Rattle.std.proofs.Common.{rules, ◌≡◌, ◌∙◌, length, map, ap, arith}
use Rattle.psi_spec.specs.Limits.{bins_for}
use Rattle.psi_spec.specs.Placement.{IsPlacement, candidates_of}
use Rattle.psi_audit.proofs.Judged.{candidates_are, one_placement_so}
use Rattle.psi_audit.proofs.Lawful.{few_of}
use Rattle.psi_audit.proofs.tests.record.Goals as goal

pub new-requires-clause-placed : goal.new-requires-clause-placed
new-requires-clause-placed g c =
    let deal = c.args.receiver.now in
    let xs = c.args.x.now in
    let bins : c.bins-bin_count.result ≡ bins_for (length xs) = c.bins-bin_count.ensures ∙ ap bins_for c.len.ensures.len in
    let cands : c.deref-2.result.now ≡ map (candidates_of deal.key (bins_for (length xs))) xs =
    c.deref-2.ensures.value ∙ (c.in_ok-candidates.ensures.made ∙ candidates_are c.key.result.now deal.key c.bins-bin_count.result (bins_for (length xs)) xs c.deref.result.now c.key.ensures bins (c.deref.ensures.value ∙ c.in_ok-digests.ensures)) in
    let placed : IsPlacement c.stash.result c.bins-bin_count.result c.deref-2.result.now c.expect-placement.result = search rules in
    one_placement_so c.expect-placement.result c.stash.result deal.stash c.bins-bin_count.result (bins_for (length xs)) c.deref-2.result.now (map (candidates_of deal.key (bins_for (length xs))) xs) c.stash.ensures.stash bins cands placed

pub exchange-requires-clause-few_of_receiver : goal.exchange-requires-clause-few_of_receiver
exchange-requires-clause-few_of_receiver g c =
    omega (arith, ap (λ all. length all) c.in_ok-own.ensures.placed, few_of c.args.x.now c.expect-placement.result, c.len.ensures.items.few)
