use Rattle.std.proofs.Common.{◌≡◌, ◌≢◌, ◌<◌, ◌+◌, ◌++◌, ◌∷◌, ◌==◌, ℕ, false, List, [], None, Some, length, get_or, take, is_some, refl, sym, ap, ◌∙◌, subst, arith, ⊎_elim}
use Rattle.psi_spec.specs.Placement.{MayHave}
use Rattle.std.specs.Prelude.{IfErr, Result, Err}
use Rattle.std.specs.List.{list_any}
use Rattle.psi_cuckoo.specs.declared.errors.BadSlots.{BadSlots}
use Rattle.psi_cuckoo.specs.declared.errors.BadSlots.TheVariants.{NoMemory}
use Rattle.std.specs.declared.option.Option.{Option}
use Rattle.std.proofs.lemmas.Bool.{cases_eq}
use Rattle.std.proofs.lemmas.List.{length-take, take_more}
use Rattle.std.proofs.lemmas.Result.{err_from_is_err_and}
use Rattle.psi_cuckoo.specs.Table.{IsFree, no_slot, occupant_at, slot_at, slot_of}
use Rattle.psi_cuckoo.specs.declared.slot.Slot.{Slot}
use Rattle.psi_cuckoo.specs.Refusal.{fault_of, first_fault}
use Rattle.psi_cuckoo.proofs.Judging.{first_is, first_is_none, index_from_may, may_from_test, right_parts, row_from_may, taken_row}
use Rattle.psi_cuckoo.proofs.Rows.{added_seats}
use Rattle.psi_cuckoo.proofs.checking.seat_given.Goals as goal

none_from_is_some : (found : Option ℕ) → is_some found ≡ false → found ≡ None
none_from_is_some None h = refl
none_from_is_some (Some x) h = cc

pub loop-item-preserved : goal.loop-item-preserved
loop-item-preserved c =
    let task = c.args.task.now in
    let candidates = task.candidates.now in
    let slots = c.args.slots.now in
    let item = c.loop-item.item in
    let slot : Slot = slot_at slots item in
    let old = c.loop-item.table in
    let new = c.add_item.new.self in
    let so_far = c.loop-item.invariant in
    let within : item < length slots = omega arith in
    let count : length old.slots.items ≡ item = ap length so_far.kept ∙ omega (arith, length-take item slots) in
    let right = c.in_ok-judge.ensures.right in
    let parts = right_parts task.stash task.bins candidates slots item right in
    let may = may_from_test task.stash task.bins (get_or candidates item []) slot parts.1 in
    let few = index_from_may task.stash task.bins (get_or candidates item []) slot (c.requires.task.three item (omega (arith, c.requires.count))) may in
    let low = row_from_may task.stash task.bins candidates item slot c.requires.task.named few may in
    let free : IsFree old.occupants.items slot.row = (
      omega (arith, so_far.seated.rows, low),
      none_from_is_some (occupant_at old.occupants.items slot.row)
          (sym (taken_row old.slots.items old.occupants.items slot.row so_far.seated.standing) ∙ (ap (list_any (λ (before : Slot). before.row == slot.row)) so_far.kept ∙ parts.2)),
    ) in
    let more : new.slots.items ≡ take (item + 1) slots = c.in_ok-add_item.ensures.slots ∙ (ap (λ (ss : List Slot). ss ++ slot ∷ []) so_far.kept ∙ sym (take_more slots item no_slot within)) in
    record {
      kept = more;
      seated = added_seats task.stash task.bins candidates old.slots.items old.occupants.items slot new.slots.items new.occupants.items so_far.seated (subst (λ (n : ℕ). MayHave task.stash task.bins (get_or candidates n []) (slot_of slot)) (sym count) may) free c.in_ok-add_item.ensures.slots c.in_ok-add_item.ensures.occupants;
      right = λ j l. ⊎_elim
          (λ e. subst (λ (n : ℕ). fault_of task.stash task.bins candidates slots n ≡ None) (sym e) right)
          (λ ne. so_far.right j (omega arith))
          (cases_eq j item);
    }

pub returns-in_err-judge-clause-wrong : goal.returns-in_err-judge-clause-wrong
returns-in_err-judge-clause-wrong c =
    let task = c.args.task.now in
    let candidates = task.candidates.now in
    let slots = c.args.slots.now in
    let item = c.loop-item.item in
    let fault = c.in_err-judge.field-0.0 in
    let failed = err_from_is_err_and c.from_residual.result c.from_residual.ensures.1 in
    let same : c.from_residual.result ≡ Err fault = failed.1 ∙ ap Err failed.2 in
    let wrong = first_is task.stash task.bins candidates slots item fault c.requires.count c.loop-item.invariant.right (omega arith) c.in_err-judge.ensures.wrong in
    subst (λ (r : Result (Unit {0}) BadSlots). IfErr r (λ e. e ≢ NoMemory → first_fault task.stash task.bins candidates slots ≡ Some e)) (sym same) (λ other. wrong)

pub returns-clause-right : goal.returns-clause-right
returns-clause-right c = first_is_none c.args.task.now.stash c.args.task.now.bins c.args.task.now.candidates.now c.args.slots.now c.requires.count (λ j l. c.loop-item.invariant.right j (omega arith))
