use Rattle.std.proofs.Common.{◌≡◌, ◌+◌, Bool, length, subst, arith, refl}
use Rattle.std.specs.Prelude.{MatchBool}
use Rattle.psi_cuckoo.specs.Table.{IsReady}
use Rattle.psi_cuckoo.specs.Search.{IsEnded}
use Rattle.psi_cuckoo.proofs.Placed.{placement_from_ready}
use Rattle.psi_cuckoo.proofs.Reached.{IsStuck, stuck_from_ended, stuck_count, stuck_crowded}
use Rattle.psi_cuckoo.proofs.placing.seat_or_refuse.Goals as goal

-- all items have slots
pub returns-then-branch-clause-placement : goal.returns-then-branch-clause-placement
returns-then-branch-clause-placement c =
    let task = c.args.task.now in
    let table = c.seat_all.new.table in
    let seated = subst (λ (b : Bool). MatchBool b ((length table.slots.items ≡ length task.candidates.now) × IsReady task table) (IsEnded task table c.seat_all.new.search)) c.if-branch.true c.in_ok-seat_all.ensures.seated in
    placement_from_ready task.stash task.bins task.candidates.now table.slots.items table.occupants.items seated.1.seated seated.1.waiting seated.0

-- what the search knows at its end
stuck : (c : goal.In_ok-items) → IsStuck (c.args.task.now.stash + 1) c.args.task.now.bins c.args.task.now.candidates.now c.seat_all.new.table.slots.items c.seat_all.new.table.occupants.items c.seat_all.new.search.visits.items c.seat_all.new.search.numbers.items c.in_ok-items.items
stuck c =
    let task = c.args.task.now in
    let table = c.seat_all.new.table in
    let search = c.seat_all.new.search in
    let ended = subst (λ (b : Bool). MatchBool b ((length table.slots.items ≡ length task.candidates.now) × IsReady task table) (IsEnded task table search)) c.if-branch.false c.in_ok-seat_all.ensures.seated in
    let count : c.len.result ≡ length table.slots.items = omega arith in
    stuck_from_ended task table search c.len.result c.in_ok-items.items c.requires.task ended count c.in_ok-items.ensures.rising c.in_ok-seat_all.ensures.count

pub returns-clause-crowded : goal.returns-clause-crowded
returns-clause-crowded c =
    let task = c.args.task.now in
    let table = c.seat_all.new.table in
    let search = c.seat_all.new.search in
    stuck_crowded (task.stash + 1) task.bins task.candidates.now table.slots.items table.occupants.items search.visits.items search.numbers.items c.in_ok-items.items (stuck c) task.stash refl

pub returns-clause-touched : goal.returns-clause-touched
returns-clause-touched c =
    let task = c.args.task.now in
    let table = c.seat_all.new.table in
    let search = c.seat_all.new.search in
    stuck_count (task.stash + 1) task.bins task.candidates.now table.slots.items table.occupants.items search.visits.items search.numbers.items c.in_ok-items.items (stuck c)
