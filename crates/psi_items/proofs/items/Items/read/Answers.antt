use Rattle.std.proofs.Common.{◌≡◌, ◌∙◌, ◌+◌, sym, ap, subst, refl, Err, List, ℕ, Vec, Global, rules, tests}
use Rattle.std.proofs.lemmas.List.{length_push}
use Rattle.std.proofs.lemmas.Result.{err_from_is_err_and}
use Rattle.std.specs.Slice.Iter.{split_rest, split_done, split_callee}
use Rattle.psi_items.specs.Members.{AreItems}
use Rattle.psi_items.specs.Reading.{ReadsItems}
use Rattle.psi_items.proofs.Keys.{items_in, AreItems-nil}
use Rattle.psi_items.proofs.Reading.{HasRead, HasRead-begun, HasRead-more, HasRead-done, HasRead-bad}
use Rattle.psi_items.proofs.Splitting.{next_line, all_lines}
use Rattle.psi_items.proofs.items.Items.read.Goals as goal

pub invariant_of-items : goal.invariant_of-items
invariant_of-items c = subst (λ (keys : List (Vec ℕ Global)). AreItems (items_in keys)) (sym c.new.ensures.empty) AreItems-nil

pub loop-line-init : goal.loop-line-init
loop-line-init c = record {
  count = refl;
  read = subst (λ (keys : List (Vec ℕ Global)). HasRead c.args.bytes.now 0 (items_in keys)) (sym c.new.ensures.empty) (HasRead-begun c.args.bytes.now);
}

pub loop-line-preserved : goal.loop-line-preserved
loop-line-preserved c =
    let bytes = c.args.bytes.now in
    let read = c.loop-line.invariant in
    let begun = c.into_iter-line-iterator.ensures.into_iter_gives in
    let split = c.split-line-items.ensures in
    let next = next_line _ _ _ _ _ c.loop-line.number c.loop-line.yielded read.count c.loop-line.yielded_by c.next.ensures.steps _ bytes
    (ap split_rest begun ∙ split.rest) (ap split_done begun ∙ split.done) (ap split_callee begun ∙ split.closure) (λ x b q k. search (rules, tests))
    c.in-Some.line c.in-Some.is in
    record {
      count = ap (λ n. n + 1) read.count ∙ sym (length_push c.loop-line.yielded c.in-Some.line);
      read = HasRead-more bytes c.loop-line.number c.loop-line.items c.in-Some.line.now c.add_line.new.self next read.read c.in_ok-add_line.ensures.added;
    }

pub returns-in_err-add_line : goal.returns-in_err-add_line
returns-in_err-add_line c =
    let bytes = c.args.bytes.now in
    let read = c.loop-line.invariant in
    let begun = c.into_iter-line-iterator.ensures.into_iter_gives in
    let split = c.split-line-items.ensures in
    let next = next_line _ _ _ _ _ c.loop-line.number c.loop-line.yielded read.count c.loop-line.yielded_by c.next.ensures.steps _ bytes
    (ap split_rest begun ∙ split.rest) (ap split_done begun ∙ split.done) (ap split_callee begun ∙ split.closure) (λ x b q k. search (rules, tests))
    c.in-Some.line c.in-Some.is in
    let failed = err_from_is_err_and c.from_residual.result c.from_residual.ensures.1 in
    let same : c.from_residual.result ≡ Err c.in_err-add_line.field-0.0 = failed.1 ∙ ap Err failed.2 in
    subst (ReadsItems bytes) (sym same) (HasRead-bad bytes c.loop-line.number c.loop-line.items c.in-Some.line.now c.add_line.new.self c.in_err-add_line.field-0.0 next read.read c.in_err-add_line.ensures.added)

pub returns : goal.returns
returns c =
    let bytes = c.args.bytes.now in
    let read = c.loop-line.invariant in
    let begun = c.into_iter-line-iterator.ensures.into_iter_gives in
    let split = c.split-line-items.ensures in
    let all = all_lines _ _ _ _ _ c.loop-line.number c.loop-line.yielded read.count c.loop-line.yielded_by c.next.ensures.steps _ bytes
    (ap split_rest begun ∙ split.rest) (ap split_done begun ∙ split.done) (ap split_callee begun ∙ split.closure) (λ x b q k. search (rules, tests))
    c.in-None.is in
    HasRead-done bytes c.loop-line.number c.loop-line.items all read.read
