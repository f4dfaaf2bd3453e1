use Rattle.std.proofs.Common.{ℕ, List, ap, map, sym, ◌∙◌}
use Rattle.std.specs.declared.option.Option.{Option}
use Rattle.psi_spec.specs.Placement.{Slot}
use Rattle.psi_spec.specs.Picking.{moved}
use Rattle.psi_cuckoo.specs.Table.{slot_of}
use Rattle.psi_cuckoo.specs.Picks.{waiting_moves}
use Rattle.psi_cuckoo.proofs.table.Table.follow.Goals as goal

-- the items of the path move, and then the one that waits
pub returns-clause-moves : goal.returns-clause-moves
returns-clause-moves c =
    let freed : List Slot = map slot_of c.move_along-row.new.self.slots.items in
    let row = c.move_along-row.result in
    c.move_along-row.ensures.moves
    ∙ (ap (λ (o : Option ℕ). moved freed (waiting_moves o row)) (sym c.move_along-row.ensures.waits)
    ∙ sym c.seat_waiting.ensures.moves)
