use Rattle.std.proofs.Common.{◌≡◌, ◌∙◌, length, map, None, Some, ap, ap₂, refl, subst}
use Rattle.psi_spec.specs.Limits.{bins_for}
use Rattle.psi_spec.specs.Placement.{candidates_of}
use Rattle.psi_cuckoo.specs.Refusal.{Refuses}
use Rattle.psi_cuckoo.specs.declared.errors.NoFit.{NoFit}
use Rattle.psi_oprf.specs.Candidates.{digest_candidates}
use Rattle.psi_walk.specs.Placing.{placing_of}
use Rattle.psi_walk.specs.Tree.{slots_for}
use Rattle.psi_walk.proofs.Digests.{candidates_are, crowds_so, picked_so, placement_so}
use Rattle.psi_walk.proofs.placing.place_items.Goals as goal

pub returns-in-Ok-clause-places : goal.returns-in-Ok-clause-places
unfolding placing_of slots_for
returns-in-Ok-clause-places c =
    let deal = c.args.deal.now in
    let xs = c.args.items.now in
    let bins : c.bins-bin_count.result ≡ bins_for (length xs) = c.bins-bin_count.ensures ∙ ap bins_for c.len.ensures.len in
    let candidates : c.deref.result.now ≡ map (candidates_of deal.key (bins_for (length xs))) xs =
    c.deref.ensures.value ∙ c.in_ok-candidates.ensures.made ∙ ap₂ (λ key n. map (digest_candidates key n) c.args.digests.now) c.key.ensures bins
    ∙ candidates_are deal.key (bins_for (length xs)) xs c.args.digests.now c.requires in (
      placement_so c.stash.result deal.stash c.bins-bin_count.result (bins_for (length xs)) c.deref.result.now
          (map (candidates_of deal.key (bins_for (length xs))) xs) c.in-Ok.placement c.stash.ensures.stash bins candidates c.in-Ok.ensures.placement,
      picked_so c.stash.result deal.stash c.bins-bin_count.result (bins_for (length xs)) c.deref.result.now
          (map (candidates_of deal.key (bins_for (length xs))) xs) (Some c.in-Ok.placement) c.stash.ensures.stash bins candidates c.in-Ok.ensures.picked,
    )

pub returns-in-Ok-clause-placed : goal.returns-in-Ok-clause-placed
returns-in-Ok-clause-placed c =
    let deal = c.args.deal.now in
    let xs = c.args.items.now in
    let bins : c.bins-bin_count.result ≡ bins_for (length xs) = c.bins-bin_count.ensures ∙ ap bins_for c.len.ensures.len in
    let candidates : c.deref.result.now ≡ map (candidates_of deal.key (bins_for (length xs))) xs =
    c.deref.ensures.value ∙ c.in_ok-candidates.ensures.made ∙ ap₂ (λ key n. map (digest_candidates key n) c.args.digests.now) c.key.ensures bins
    ∙ candidates_are deal.key (bins_for (length xs)) xs c.args.digests.now c.requires in
    placement_so c.stash.result deal.stash c.bins-bin_count.result (bins_for (length xs)) c.deref.result.now
    (map (candidates_of deal.key (bins_for (length xs))) xs) c.in-Ok.placement c.stash.ensures.stash bins candidates c.in-Ok.ensures.placement

pub returns-in-Err-Crowded-clause-places : goal.returns-in-Err-Crowded-clause-places
unfolding placing_of slots_for
returns-in-Err-Crowded-clause-places c =
    let deal = c.args.deal.now in
    let xs = c.args.items.now in
    let bins : c.bins-bin_count.result ≡ bins_for (length xs) = c.bins-bin_count.ensures ∙ ap bins_for c.len.ensures.len in
    let candidates : c.deref.result.now ≡ map (candidates_of deal.key (bins_for (length xs))) xs =
    c.deref.ensures.value ∙ c.in_ok-candidates.ensures.made ∙ ap₂ (λ key n. map (digest_candidates key n) c.args.digests.now) c.key.ensures bins
    ∙ candidates_are deal.key (bins_for (length xs)) xs c.args.digests.now c.requires in
    let refusal = subst (λ (why : NoFit). Refuses c.stash.result c.deref.result.now why) c.in-Err-Crowded.field-0-is c.in-Err-Crowded.ensures.refusal in
    let crowded =
    crowds_so c.stash.result deal.stash c.deref.result.now (map (candidates_of deal.key (bins_for (length xs))) xs) c.in-Err-Crowded.items
    c.in-Err-Crowded.touched c.stash.ensures.stash candidates refusal in
    let none = c.in-Err-Crowded.ensures.none_picked (λ e. cc) in (
      refl,
      (
        crowded.0,
        picked_so c.stash.result deal.stash c.bins-bin_count.result (bins_for (length xs)) c.deref.result.now
            (map (candidates_of deal.key (bins_for (length xs))) xs) None c.stash.ensures.stash bins candidates none,
      ),
      crowded.1,
    )
