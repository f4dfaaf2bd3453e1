use Rattle.std.proofs.Common.{◌<◌, ◌≤◌, ◌==◌, [], length, get_or, is_some, sym, ap, ◌∙◌, arith}
use Rattle.std.specs.List.{list_any}
use Rattle.psi_cuckoo.specs.Table.{slot_at}
use Rattle.psi_cuckoo.specs.declared.slot.Slot.{Slot}
use Rattle.psi_cuckoo.proofs.Judging.{fault_is_none, fault_is_twice, index_test, may_from_test, row_from_may, taken_row}
use Rattle.psi_cuckoo.proofs.Paths.{occupant_read}
use Rattle.psi_cuckoo.proofs.checking.judge.Goals as goal

pub returns-then-is_some-clause-wrong : goal.returns-then-is_some-clause-wrong
returns-then-is_some-clause-wrong c =
    let task = c.args.task.now in
    let candidates = task.candidates.now in
    let slots = c.args.slots.now in
    let item = c.args.item in
    let slot : Slot = slot_at slots item in
    let table = c.args.table.now in
    let few : slot.index ≤ 3 = omega arith in
    let may = sym c.if-not-names_row.ensures in
    let low = row_from_may task.stash task.bins candidates item slot c.requires.task.named few (may_from_test task.stash task.bins (get_or candidates item []) slot may) in
    let inside : slot.row < length table.occupants.items = omega (arith, c.requires.seated.rows, low) in
    let read = occupant_read table.occupants.items slot.row c.index.result.now c.index.ensures inside in
    let taken = ap (list_any (λ (before : Slot). before.row == slot.row)) (sym c.requires.before) ∙ (taken_row table.slots.items table.occupants.items slot.row c.requires.seated.standing ∙ (ap is_some read ∙ sym c.if-is_some.ensures)) in
    fault_is_twice task.stash task.bins candidates slots item (index_test slot.index few) may taken

pub returns-clause-right : goal.returns-clause-right
returns-clause-right c =
    let task = c.args.task.now in
    let candidates = task.candidates.now in
    let slots = c.args.slots.now in
    let item = c.args.item in
    let slot : Slot = slot_at slots item in
    let table = c.args.table.now in
    let few : slot.index ≤ 3 = omega arith in
    let may = sym c.if-not-names_row.ensures in
    let low = row_from_may task.stash task.bins candidates item slot c.requires.task.named few (may_from_test task.stash task.bins (get_or candidates item []) slot may) in
    let inside : slot.row < length table.occupants.items = omega (arith, c.requires.seated.rows, low) in
    let read = occupant_read table.occupants.items slot.row c.index.result.now c.index.ensures inside in
    let free = ap (list_any (λ (before : Slot). before.row == slot.row)) (sym c.requires.before) ∙ (taken_row table.slots.items table.occupants.items slot.row c.requires.seated.standing ∙ (ap is_some read ∙ sym c.if-is_some.ensures)) in
    fault_is_none task.stash task.bins candidates slots item (index_test slot.index few) may free
