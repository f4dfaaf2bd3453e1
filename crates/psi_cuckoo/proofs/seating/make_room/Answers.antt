use Rattle.std.proofs.Common.{◌+◌, List, Some, ap, map, option_map, ◌∙◌}
use Rattle.psi_spec.specs.Placement.{Slot}
use Rattle.psi_spec.specs.Picking.{Visit as Way, moved}
use Rattle.psi_cuckoo.specs.Table.{slot_of}
use Rattle.psi_cuckoo.specs.Picks.{path_moves, ways_of}
use Rattle.psi_cuckoo.specs.declared.search.Path.{Path}
use Rattle.psi_cuckoo.proofs.seating.make_room.Goals as goal

-- there is no way
pub returns-in_default-clause-picks : goal.returns-in_default-clause-picks
returns-in_default-clause-picks c =
    let task = c.args.task.now in
    let slots = c.args.table.now.slots.items in
    let ways : List Way = ways_of (task.bins + task.stash) slots c.find_path_from_all.new.self.visits.items in
    ap (option_map (moved (map slot_of slots))) (c.in_ok-path.ensures.way ∙ ap (option_map (λ (path : Path). path_moves task.candidates.now ways path.last path.index)) c.in_default.is)

-- the items of the way move, and then the one that waits
pub returns-clause-picks : goal.returns-clause-picks
returns-clause-picks c =
    let task = c.args.task.now in
    let slots = c.args.table.now.slots.items in
    let ways : List Way = ways_of (task.bins + task.stash) slots c.find_path_from_all.new.self.visits.items in
    ap (option_map (moved (map slot_of slots))) (c.in_ok-path.ensures.way ∙ ap (option_map (λ (path : Path). path_moves task.candidates.now ways path.last path.index)) c.in-Some.is)
    ∙ ap (λ (seats : List Slot). Some seats) c.follow.ensures.moves
