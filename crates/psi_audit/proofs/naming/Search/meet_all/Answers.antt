use Rattle.std.proofs.Common.{◌≡◌, ◌+◌, ◌<◌, ◌∙◌, [], length, get_or, sym, ap, arith}
use Rattle.std.specs.Prelude.{option_map}
use Rattle.std.proofs.lemmas.Option.{get_or_from_slice_get}
use Rattle.psi_spec.specs.Limits.{bins_for}
use Rattle.psi_spec.specs.Formulas.{code, item_digest}
use Rattle.psi_oprf.specs.Candidates.{digest_candidates}
use Rattle.psi_audit.specs.Naming.{setup_in}
use Rattle.psi_audit.proofs.Lookups.{met_all_more}
use Rattle.psi_audit.proofs.Tags.{bins_low}
use Rattle.psi_audit.proofs.naming.Search.meet_all.Goals as goal

pub meet_item-requires-clause-bins : goal.meet_item-requires-clause-bins
meet_item-requires-clause-bins c =
    let bins = c.bins-bins.ensures ∙ ap bins_for c.len.ensures.len in
    bins_low c.key.result.now c.bins-bins.result (bins_for (length c.args.inputs.now.own.now)) (item_digest c.unwrap-bytes.result.now) c.new-item.result.bins bins (omega (arith, c.bins-bins.ensures)) c.new-item.ensures.bins_are

pub loop-place-preserved : goal.loop-place-preserved
loop-place-preserved c =
    let i = c.args.inputs.now in
    let place = c.loop-place.place in
    let item = c.unwrap-bytes.result.now in
    let bins = c.bins-bins.ensures ∙ ap bins_for c.len.ensures.len in
    let within : place < length i.peer.now = let n = c.len-place-end.ensures.len in omega arith in
    let is : get_or i.peer.now place [] ≡ item = get_or_from_slice_get i.peer.now place item [] (sym c.get.ensures.item ∙ ap (option_map (λ item. item.now)) c.unwrap-bytes.ensures) in
    met_all_more (setup_in i) (3 + i.receiver.now.stash) i.peer.now place item c.new-item.result c.args.self.now c.loop-place.self c.meet_item.new.self within is
    (record {
      digest = c.new-item.ensures.digest;
      bins_are = c.new-item.ensures.bins_are ∙ (λ j. digest_candidates (c.key.ensures j) (bins j) (item_digest item));
      stash_code = c.new-item.ensures.stash_code ∙ ap (λ key. code key 0 (item_digest item)) c.key.ensures;
    }) c.loop-place.invariant c.in_ok-meet_item.ensures
