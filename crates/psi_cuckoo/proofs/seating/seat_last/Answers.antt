use Rattle.std.proofs.Common.{◌≡◌, ◌+◌, ◌-◌, ℕ, List, None, Some, ap, cond, length, map, option_map, subst, sym, ◌∙◌}
use Rattle.std.specs.Prelude.{IfOk}
use Rattle.std.specs.declared.option.Option.{Option}
use Rattle.psi_spec.specs.Placement.{Slot}
use Rattle.psi_spec.specs.Picking.{Visit as Way, moved}
use Rattle.psi_cuckoo.specs.Table.{occupant_at, slot_of}
use Rattle.psi_cuckoo.specs.Picks.{path_moves, stash_slot, waiting_moves, ways_of}
use Rattle.psi_cuckoo.specs.declared.search.Path.{Path}
use Rattle.psi_cuckoo.proofs.Picks.{room_alone, room_aside, room_from_all}
use Rattle.psi_cuckoo.proofs.seating.seat_last.Goals as goal

-- a path from the item that waits
pub returns-in-Some-clause-picks : goal.returns-in-Some-clause-picks
returns-in-Some-clause-picks c =
    let task = c.args.task.now in
    let slots = c.args.table.now.slots.items in
    let ways : List Way = ways_of (task.bins + task.stash) slots c.find_path.new.self.visits.items in
    let moves : List (ℕ × Slot) = path_moves task.candidates.now ways c.in-Some.path.last c.in-Some.path.index in
    room_alone task.stash task.bins task.candidates.now slots moves (c.in_ok-path.ensures.way ∙ ap (option_map (λ (path : Path). path_moves task.candidates.now ways path.last path.index)) c.in-Some.is)
    ∙ ap (λ (seats : List Slot). Some seats) c.follow.ensures.moves

-- a row of the stash
pub returns-in-Some-free_stash_row-clause-picks : goal.returns-in-Some-free_stash_row-clause-picks
returns-in-Some-free_stash_row-clause-picks c =
    let task = c.args.task.now in
    let slots = c.args.table.now.slots.items in
    let row = c.in-Some-free_stash_row.row in
    let ways : List Way = ways_of (task.bins + task.stash) slots c.find_path.new.self.visits.items in
    let none = c.in_ok-path.ensures.way ∙ ap (option_map (λ (path : Path). path_moves task.candidates.now ways path.last path.index)) c.in_default.is in
    let first = c.free_stash_row.ensures.first ∙ ap (option_map stash_slot) c.in-Some-free_stash_row.is in
    let waits : occupant_at c.args.table.now.occupants.items (task.bins + task.stash) ≡ Some (length slots - 1) = c.requires.waits ∙ ap (λ (n : ℕ). Some n) c.requires.last in
    room_aside task.stash task.bins task.candidates.now slots (stash_slot row) none first
    ∙ ap (λ (seats : List Slot). Some seats) (sym (c.seat_waiting.ensures.moves ∙ ap (λ (o : Option ℕ). moved (map slot_of slots) (waiting_moves o row)) waits))

-- what a search from all items behind the bins finds
pub returns-clause-picks : goal.returns-clause-picks
returns-clause-picks c =
    let task = c.args.task.now in
    let slots = c.args.table.now.slots.items in
    let ways : List Way = ways_of (task.bins + task.stash) slots c.find_path.new.self.visits.items in
    let none = c.in_ok-path.ensures.way ∙ ap (option_map (λ (path : Path). path_moves task.candidates.now ways path.last path.index)) c.in_default.is in
    let full = c.free_stash_row.ensures.first ∙ ap (option_map stash_slot) c.in_default-free_stash_row.is in
    let room = room_from_all task.stash task.bins task.candidates.now slots none full in
    subst (λ (o : Option (List Slot)). IfOk c.make_room.result (λ done. o ≡ cond done (Some (map slot_of c.make_room.new.table.slots.items)) None)) (sym room) c.make_room.ensures.picks
