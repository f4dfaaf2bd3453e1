use Rattle.std.proofs.Common.{rules, ◌∙◌, ap, arith, length}
use Rattle.psi_spec.specs.Limits.{bins_for}
use Rattle.psi_spec.specs.Placement.{IsPlacement}
use Rattle.psi_receiver.proofs.Placed.{placement_of}
use Rattle.psi_session.proofs.Exchanged.{few_placed}
use Rattle.psi_session.proofs.tests.common_items_are_shown.Goals as goal

pub new-requires-clause-placed : goal.new-requires-clause-placed
new-requires-clause-placed g c =
    let placed : IsPlacement c.stash.result c.bins-bins.result c.deref-2.result.now c.expect-placement.result = search rules in
    placement_of c.in_ok-own_deal.own_deal c.in_ok-items.items c.deref.result.now c.deref-2.result.now c.key.result.now c.stash.result c.bins-bins.result c.expect-placement.result
    c.stash.ensures.stash c.key.ensures (c.bins-bins.ensures ∙ ap bins_for c.len.ensures.len) (c.deref.ensures.value ∙ c.in_ok-digests.ensures)
    (c.deref-2.ensures.value ∙ c.in_ok-candidates.ensures.made) placed

pub exchange-requires-clause-few_of_receiver : goal.exchange-requires-clause-few_of_receiver
exchange-requires-clause-few_of_receiver g c =
    let placed = c.in_ok-receiver.ensures.placed in
    let items = c.len.ensures.items in
    omega (arith, ap (λ all. length all) placed, few_placed c.in_ok-items.items c.expect-placement.result, items.few)
