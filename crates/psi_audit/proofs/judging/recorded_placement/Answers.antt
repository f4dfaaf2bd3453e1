use Rattle.std.proofs.Common.{◌≡◌, ◌∙◌, length, map, ap, subst}
use Rattle.std.specs.Prelude.{OnOk, IfErr, Some, None}
use Rattle.psi_spec.specs.Limits.{bins_for}
use Rattle.psi_spec.specs.Placement.{candidates_of}
use Rattle.psi_cuckoo.specs.declared.errors.BadSlots.TheVariants.{NoMemory}
use Rattle.psi_audit.proofs.Judged.{candidates_are, fault_so, placement_so}
use Rattle.psi_audit.proofs.judging.recorded_placement.Goals as goal

pub returns-clause-placed : goal.returns-clause-placed
returns-clause-placed c =
    let deal = c.args.receiver.now in
    let xs = c.args.x.now in
    let bins : c.bins-bins.result ≡ bins_for (length xs) = c.bins-bins.ensures ∙ ap bins_for c.len.ensures.len in
    let cands : c.deref.result.now ≡ map (candidates_of deal.key (bins_for (length xs))) xs =
    c.deref.ensures.value ∙ (c.in_ok-candidates.ensures.made ∙ candidates_are c.key.result.now deal.key c.bins-bins.result (bins_for (length xs)) xs c.args.digests.now c.key.ensures bins c.requires.digests) in
    placement_so c.check_placement.result c.stash.result deal.stash c.bins-bins.result (bins_for (length xs)) c.deref.result.now (map (candidates_of deal.key (bins_for (length xs))) xs) c.stash.ensures.stash bins cands c.check_placement.ensures.placement

pub returns-clause-right : goal.returns-clause-right
returns-clause-right c =
    let deal = c.args.receiver.now in
    let xs = c.args.x.now in
    let bins : c.bins-bins.result ≡ bins_for (length xs) = c.bins-bins.ensures ∙ ap bins_for c.len.ensures.len in
    let cands : c.deref.result.now ≡ map (candidates_of deal.key (bins_for (length xs))) xs =
    c.deref.ensures.value ∙ (c.in_ok-candidates.ensures.made ∙ candidates_are c.key.result.now deal.key c.bins-bins.result (bins_for (length xs)) xs c.args.digests.now c.key.ensures bins c.requires.digests) in
    let same = fault_so c.stash.result deal.stash c.bins-bins.result (bins_for (length xs)) c.deref.result.now (map (candidates_of deal.key (bins_for (length xs))) xs) c.args.slots.now c.stash.ensures.stash bins cands in
    subst (λ f. OnOk c.check_placement.result (f ≡ None)) same c.check_placement.ensures.right

pub returns-clause-wrong : goal.returns-clause-wrong
returns-clause-wrong c =
    let deal = c.args.receiver.now in
    let xs = c.args.x.now in
    let bins : c.bins-bins.result ≡ bins_for (length xs) = c.bins-bins.ensures ∙ ap bins_for c.len.ensures.len in
    let cands : c.deref.result.now ≡ map (candidates_of deal.key (bins_for (length xs))) xs =
    c.deref.ensures.value ∙ (c.in_ok-candidates.ensures.made ∙ candidates_are c.key.result.now deal.key c.bins-bins.result (bins_for (length xs)) xs c.args.digests.now c.key.ensures bins c.requires.digests) in
    let same = fault_so c.stash.result deal.stash c.bins-bins.result (bins_for (length xs)) c.deref.result.now (map (candidates_of deal.key (bins_for (length xs))) xs) c.args.slots.now c.stash.ensures.stash bins cands in
    subst (λ f. IfErr c.check_placement.result (λ e. (e ≡ NoMemory → ⊥) → f ≡ Some e)) same c.check_placement.ensures.wrong
