use Rattle.std.proofs.Common.{ap, ◌∙◌, is_some}
use Rattle.psi_items.proofs.Keys.{list_any-keys, position-keys, Contains-from_test}
use Rattle.psi_items.proofs.items.Items.find.Goals as goal

pub returns-in_err-place-clause-place : goal.returns-in_err-place-clause-place
returns-in_err-place-clause-place c = c.from_residual.ensures ∙ c.in_err-place.ensures.index ∙ position-keys c.self.inside.set.keys c.args.self.now c.args.item.now c.self.view_is

pub returns-in_err-place-clause-found : goal.returns-in_err-place-clause-found
returns-in_err-place-clause-found c =
    Contains-from_test c.args.self.now c.args.item.now (is_some c.from_residual.result)
    (ap is_some c.from_residual.ensures ∙ c.in_err-place.ensures.found ∙ list_any-keys c.self.inside.set.keys c.args.self.now c.args.item.now c.self.view_is)

pub returns-clause-place : goal.returns-clause-place
returns-clause-place c = c.in_ok-place.ensures.index ∙ position-keys c.self.inside.set.keys c.args.self.now c.args.item.now c.self.view_is

pub returns-clause-found : goal.returns-clause-found
returns-clause-found c =
    Contains-from_test c.args.self.now c.args.item.now _ (c.in_ok-place.ensures.found ∙ list_any-keys c.self.inside.set.keys c.args.self.now c.args.item.now c.self.view_is)
