use Rattle.std.proofs.Common.{rules, ◌∙◌, ap}
use Rattle.psi_spec.specs.Limits.{bins_for}
use Rattle.psi_spec.specs.Placement.{IsPlacement}
use Rattle.psi_receiver.proofs.Placed.{placement_of}
use Rattle.psi_receiver.proofs.tests.placement.Goals as goal

pub returns : goal.returns
returns g c =
    let placed : IsPlacement c.stash.result c.bins-bins.result c.deref.result.now c.expect-placement.result = search rules in
    placement_of c.args.deal.now c.args.items.now c.args.digests.now c.deref.result.now c.key.result.now c.stash.result c.bins-bins.result c.expect-placement.result
    c.stash.ensures.stash c.key.ensures (c.bins-bins.ensures ∙ ap bins_for c.len.ensures.len) c.requires
    (c.deref.ensures.value ∙ c.in_ok-candidates.ensures.made) placed
