use Rattle.std.proofs.Common.{◌≡◌, ◌<◌, ◌+◌, ◌-◌, ◌∙◌, [], ℕ, List, None, Some, ap, cond, length, map, get_or, refl, subst, sym, arith, inl}
use Rattle.std.specs.Prelude.{IfNone, IfOk}
use Rattle.std.specs.declared.option.Option.{Option}
use Rattle.std.proofs.lemmas.List.{get_or-set_same}
use Rattle.psi_spec.specs.Placement.{Slot as Seat}
use Rattle.psi_spec.specs.Picking.{choices_of, first_free}
use Rattle.psi_cuckoo.proofs.Found.{taken_more}
use Rattle.psi_cuckoo.proofs.Picks.{next_in_bin, next_is}
use Rattle.psi_spec.specs.Placement.{MayHave}
use Rattle.psi_cuckoo.specs.Table.{AllTaken, occupant_at, slot_of}
use Rattle.psi_cuckoo.specs.declared.slot.Slot.{Slot}
use Rattle.psi_cuckoo.proofs.Paths.{names_at}
use Rattle.psi_cuckoo.proofs.Rows.{added_seats, added_free}
use Rattle.psi_cuckoo.proofs.seating.seat_next.Goals as goal

pub returns-in-Some-clause-seated : goal.returns-in-Some-clause-seated
returns-in-Some-clause-seated c =
    let task = c.args.task.now in
    let old = c.args.table.now in
    let new = c.add_item.new.self in
    let slot : Slot = c.in-Some.slot in
    let count : c.len-item.result ≡ length old.slots.items = omega arith in
    let may = subst (λ (n : ℕ). MayHave (task.stash + 1) task.bins (get_or task.candidates.now n []) (slot_of slot)) count (c.in-Some.ensures.may (task.stash + 1)) in
    record {
      seated = added_seats (task.stash + 1) task.bins task.candidates.now old.slots.items old.occupants.items slot new.slots.items new.occupants.items c.requires.ready.seated may c.in-Some.ensures.free c.in_ok-add_item.ensures.slots c.in_ok-add_item.ensures.occupants;
      waiting = added_free (task.stash + 1) task.bins task.candidates.now old.slots.items old.occupants.items slot new.slots.items new.occupants.items (length old.slots.items) (task.bins + task.stash) c.requires.ready.waiting (λ e. let low : slot.row < task.bins = c.in-Some.ensures.bin in absurd (omega arith)) c.in_ok-add_item.ensures.occupants;
    }

pub seat_last-requires-clause-table : goal.seat_last-requires-clause-table
seat_last-requires-clause-table c =
    let task = c.args.task.now in
    let old = c.args.table.now in
    let new = c.add_item-2.new.self in
    let slot : Slot = record { row = task.bins + task.stash; index = 0 } in
    let free = c.requires.ready.waiting in
    let seated = c.requires.ready.seated in
    let may : MayHave (task.stash + 1) task.bins (get_or task.candidates.now (length old.slots.items) []) (slot_of slot) = inl (refl, omega arith, omega arith) in
    added_seats (task.stash + 1) task.bins task.candidates.now old.slots.items old.occupants.items slot new.slots.items new.occupants.items seated may free c.in_ok-add_item-2.ensures.slots c.in_ok-add_item-2.ensures.occupants

pub returns-in-Some-clause-picks : goal.returns-in-Some-clause-picks
returns-in-Some-clause-picks c =
    let task = c.args.task.now in
    let slots = c.args.table.now.slots.items in
    let count : c.len-item.result ≡ length slots = omega arith in
    let first = subst (λ (n : ℕ). first_free (map slot_of slots) (choices_of task.candidates.now n) ≡ Some (slot_of c.in-Some.slot)) count c.in-Some.ensures.first in
    let rows : List ℕ = get_or task.candidates.now (length slots) [] in
    let low = λ (k : ℕ) (l : k < length rows).
    let three = c.requires.task.three (length slots) c.requires.next in
    let same : k + 1 - 1 ≡ k = omega arith in
    subst (λ (j : ℕ). get_or rows j 0 < task.bins) same (c.requires.task.named (length slots) (k + 1) (get_or rows (k + 1 - 1) 0) (names_at task.candidates.now (length slots) (k + 1) three (omega arith) (omega (arith, l, three)))) in
    next_in_bin task.stash task.bins task.candidates.now slots c.in-Some.slot c.add_item.new.self.slots.items low first c.in_ok-add_item.ensures.slots

pub seat_last-requires-clause-waits : goal.seat_last-requires-clause-waits
seat_last-requires-clause-waits c =
    let old = c.args.table.now in
    let row : ℕ = c.args.task.now.bins + c.args.task.now.stash in
    let count : c.len-item.result ≡ length old.slots.items = omega arith in
    let put : occupant_at c.add_item-2.new.self.occupants.items row ≡ Some (length old.slots.items) =
    ap (λ (os : List (Option ℕ)). occupant_at os row) c.in_ok-add_item-2.ensures.occupants ∙ get_or-set_same old.occupants.items row (Some (length old.slots.items)) None c.requires.ready.waiting.0 in
    put ∙ ap (λ (n : ℕ). Some n) (sym count)

pub returns-clause-picks : goal.returns-clause-picks
returns-clause-picks c =
    let task = c.args.task.now in
    let slots = c.args.table.now.slots.items in
    let new : List Slot = c.add_item-2.new.self.slots.items in
    let next = next_is task.stash task.bins task.candidates.now slots new c.in_ok-add_item-2.ensures.slots in
    subst (λ (o : Option (List Seat)). IfOk c.seat_last.result (λ done. o ≡ cond done (Some (map slot_of c.seat_last.new.table.slots.items)) None)) (sym next) c.seat_last.ensures.picks

-- where none of its candidates is free, none is once it waits
pub seat_last-requires-clause-taken : goal.seat_last-requires-clause-taken
seat_last-requires-clause-taken c =
    let candidates = c.args.task.now.candidates.now in
    let old = c.args.table.now.occupants.items in
    let row : ℕ = c.args.task.now.bins + c.args.task.now.stash in
    let full = subst (λ (o : Option Slot). IfNone o (AllTaken candidates old c.len-item.result)) c.in_default.is c.free_candidate.ensures.full in
    taken_more candidates old c.add_item-2.new.self.occupants.items c.len-item.result row (length c.args.table.now.slots.items) c.in_ok-add_item-2.ensures.occupants c.requires.ready.waiting.0 full
