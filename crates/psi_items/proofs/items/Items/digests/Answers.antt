use Rattle.std.proofs.Common.{◌≡◌, ◌<◌, ◌∙◌, ◌∷◌, ◌++◌, [], length, get_or, map, take, sym, ap, ap₂, arith}
use Rattle.std.specs.Prelude.{option_map}
use Rattle.std.proofs.lemmas.List.{map-append, take_more}
use Rattle.std.proofs.lemmas.Option.{get_or_from_slice_get}
use Rattle.psi_spec.specs.Formulas.{item_digest}
use Rattle.psi_items.proofs.items.Items.digests.Goals as goal

pub loop-place-preserved : goal.loop-place-preserved
loop-place-preserved c =
    let i = c.loop-place.place in
    let items = c.args.self.now in
    let item = c.unwrap-item.result.now in
    let within : i < length items = let n = c.len-place-end.ensures.len in omega arith in
    let is : get_or items i [] ≡ item = get_or_from_slice_get items i item [] (sym c.get.ensures.item ∙ ap (option_map (λ item. item.now)) c.unwrap-item.ensures) in
    c.in_ok-push.ensures.items
    ∙ (ap₂ (λ all one. all ++ one ∷ []) c.loop-place.invariant (c.digest.ensures ∙ ap item_digest (sym is))
    ∙ sym (ap (map item_digest) (take_more items i [] within) ∙ map-append item_digest (take i items) (get_or items i [] ∷ [])))
