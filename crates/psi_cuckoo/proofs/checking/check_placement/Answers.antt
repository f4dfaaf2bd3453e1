use Rattle.std.proofs.Common.{◌≡◌, ◌≢◌, ℕ, Some, length, map, sym, ap, ◌∙◌, subst, arith}
use Rattle.std.specs.Prelude.{IsOkUnless, Result, Err}
use Rattle.std.proofs.lemmas.List.{length-map}
use Rattle.std.proofs.lemmas.Result.{err_from_is_err_and}
use Rattle.psi_spec.specs.Placement.{IsPlacement}
use Rattle.psi_cuckoo.specs.Table.{slot_of}
use Rattle.psi_cuckoo.specs.Refusal.{first_fault}
use Rattle.psi_cuckoo.specs.declared.errors.BadSlots.{BadSlots}
use Rattle.psi_cuckoo.specs.declared.errors.BadSlots.TheVariants.{NoMemory}
use Rattle.psi_cuckoo.specs.declared.placement.Placement.{Placement}
use Rattle.psi_spec.proofs.Crowding.{length_zip}
use Rattle.psi_cuckoo.proofs.Judging.{first_is_none, only_memory, placement_right}
use Rattle.psi_cuckoo.proofs.Placed.{name_bins, placement_from_seats}
use Rattle.psi_cuckoo.proofs.checking.check_placement.Goals as goal

pub returns-then-slots-cands-clause-accepted : goal.returns-then-slots-cands-clause-accepted
returns-then-slots-cands-clause-accepted c placement = absurd (c.if-slots-cands.true (sym (length_zip _ c.args.cands.now (map slot_of c.args.slots.now) placement.each ∙ length-map c.args.slots.now slot_of)))

pub seat_given-requires-clause-task : goal.seat_given-requires-clause-task
seat_given-requires-clause-task c = record {
  rows = omega arith;
  items = omega arith;
  three = c.told-cands;
  named = name_bins c.args.bins c.args.cands.now c.requires.candidates;
}

pub returns-in_err-seat_given-clause-accepted : goal.returns-in_err-seat_given-clause-accepted
returns-in_err-seat_given-clause-accepted c placement =
    let stash_is : c.from.result ≡ c.args.stash = omega arith in
    let fault = c.in_err-seat_given.field-0.0 in
    let failed = err_from_is_err_and c.from_residual-in_err-seat_given.result c.from_residual-in_err-seat_given.ensures.1 in
    let same : c.from_residual-in_err-seat_given.result ≡ Err fault = failed.1 ∙ ap Err failed.2 in
    let none = first_is_none c.args.stash c.args.bins c.args.cands.now c.args.slots.now c.if-slots-cands.false (λ j l. placement_right c.args.stash c.args.bins c.args.cands.now c.args.slots.now j c.told-cands c.if-slots-cands.false placement l) in
    let only = only_memory fault (first_fault c.args.stash c.args.bins c.args.cands.now c.args.slots.now) none (subst (λ (n : ℕ). fault ≢ NoMemory → first_fault n c.args.bins c.args.cands.now c.args.slots.now ≡ Some fault) stash_is c.in_err-seat_given.ensures.wrong) in
    subst (λ (r : Result Placement BadSlots). IsOkUnless r NoMemory) (sym same) only

pub returns-clause-placement : goal.returns-clause-placement
returns-clause-placement c =
    let table = c.seat_given.new.table in
    let stash_is : c.from.result ≡ c.args.stash = omega arith in
    let seated = c.in_ok-seat_given.ensures.seated in
    let all : length table.slots.items ≡ length c.args.cands.now = ap length c.in_ok-seat_given.ensures.kept ∙ c.if-slots-cands.false in
    subst (IsPlacement c.args.stash c.args.bins c.args.cands.now) (sym c.new-2.ensures)
    (subst (λ (n : ℕ). IsPlacement n c.args.bins c.args.cands.now (map slot_of table.slots.items)) stash_is
    (placement_from_seats c.from.result c.args.bins c.args.cands.now table.slots.items table.occupants.items seated.may seated.standing all))
