use Rattle.std.proofs.Common.{◌≡◌, ◌∙◌, [], not, get_or, sym, ap}
use Rattle.std.specs.List.{list_any}
use Rattle.std.specs.Prelude.{option_map}
use Rattle.std.specs.Str.{bytes_eq}
use Rattle.std.proofs.lemmas.Option.{get_or_from_slice_get}
use Rattle.psi_audit.proofs.Positions.{not_any}
use Rattle.psi_audit.proofs.strangers.is_foreign.Goals as goal

pub returns : goal.returns
returns c =
    let own = c.args.inputs.now.own.now in
    let ys = c.args.inputs.now.peer.now in
    let item = c.unwrap-item.result.now in
    let is : get_or own c.args.place [] ≡ item = get_or_from_slice_get own c.args.place item [] (sym c.get.ensures.item ∙ ap (option_map (λ item. item.now)) c.unwrap-item.ensures) in
    not_any (bytes_eq item) ys c.find.result c.is_none.result c.find.ensures.place c.is_none.ensures ∙ ap (λ x. not (list_any (bytes_eq x) ys)) (sym is)
