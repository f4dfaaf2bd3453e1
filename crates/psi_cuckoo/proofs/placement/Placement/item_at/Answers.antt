use Rattle.std.proofs.Common.{◌≡◌, ◌∙◌, ℕ, List, None, Some, option_map, sym, subst, arith}
use Rattle.std.specs.Prelude.{slice_get}
use Rattle.std.specs.declared.option.Option.{Option}
use Rattle.std.proofs.lemmas.List.{get_or_default, get_or_past}
use Rattle.psi_spec.specs.Placement.{Slot}
use Rattle.psi_cuckoo.proofs.Placed.{item_in_row}
use Rattle.psi_cuckoo.proofs.placement.Placement.item_at.Goals as goal

-- what an answer says of the slots
abbrev Tells : ℕ → Option ℕ → List Slot → Type 0
Tells row found slots = (i : ℕ) → ((found ≡ Some i → option_map (λ (slot : Slot). slot.row) (slice_get slots i) ≡ Some row) × (option_map (λ (slot : Slot). slot.row) (slice_get slots i) ≡ Some row → found ≡ Some i))

pub returns-then-row-len : goal.returns-then-row-len
returns-then-row-len c =
    let table = c.self.inside.table in
    let within = get_or_default table.occupants.items c.args.row c.index.result.now None (omega arith) in
    subst (Tells c.args.row c.index.result.now) c.self.view_is (item_in_row table.slots.items table.occupants.items c.args.row c.index.result.now c.self.invariant.0 (c.index.ensures ∙ within))

pub returns-else-row-len : goal.returns-else-row-len
returns-else-row-len c =
    let table = c.self.inside.table in
    let past = get_or_past table.occupants.items c.args.row None (omega arith) in
    subst (Tells c.args.row None) c.self.view_is (item_in_row table.slots.items table.occupants.items c.args.row None c.self.invariant.0 (sym past))
