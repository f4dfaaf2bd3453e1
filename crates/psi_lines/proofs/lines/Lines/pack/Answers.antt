use Rattle.std.proofs.Common.{◌≡◌, ◌∙◌, ◌+◌, refl, sym, ap, subst, length, Err, ℕ, rules, tests}
use Rattle.std.proofs.lemmas.List.{length_push}
use Rattle.std.proofs.lemmas.Result.{err_from_is_err_and}
use Rattle.std.specs.Slice.Iter.{split_rest, split_done, split_callee}
use Rattle.psi_spec.specs.Items.{lines_of}
use Rattle.psi_items.proofs.Splitting.{next_line, all_lines}
use Rattle.psi_lines.specs.Reading.{PacksLines}
use Rattle.psi_lines.proofs.Reading.{HasReadLines, HasReadLines-more, HasReadLines-done, HasReadLines-bad}
use Rattle.psi_lines.proofs.lines.Lines.pack.Goals as goal

pub loop-line-preserved : goal.loop-line-preserved
loop-line-preserved c =
    let content = c.args.content.now in
    let n = length c.loop-line.yielded in
    let begun = c.into_iter-line-iterator.ensures.into_iter_gives in
    let split = c.split-line-items.ensures in
    let next = next_line _ _ _ _ _ n c.loop-line.yielded refl c.loop-line.yielded_by c.next.ensures.steps _ content
    (ap split_rest begun ∙ split.rest) (ap split_done begun ∙ split.done) (ap split_callee begun ∙ split.closure) (λ x b q k. search (rules, tests))
    c.in-Some.line c.in-Some.is in
    let ends = c.add_line.new.ends.items in
    let bytes = c.add_line.new.bytes.items in
    let grown : HasReadLines content (n + 1) ends bytes =
    HasReadLines-more content n c.loop-line.ends.items c.loop-line.bytes.items c.in-Some.line.now ends bytes next c.loop-line.invariant.read c.in_ok-add_line.ensures in
    record { read = subst (λ (k : ℕ). HasReadLines content k ends bytes) (sym (length_push c.loop-line.yielded c.in-Some.line)) grown }

pub returns-in_err-add_line : goal.returns-in_err-add_line
returns-in_err-add_line c =
    let content = c.args.content.now in
    let n = length c.loop-line.yielded in
    let begun = c.into_iter-line-iterator.ensures.into_iter_gives in
    let split = c.split-line-items.ensures in
    let next = next_line _ _ _ _ _ n c.loop-line.yielded refl c.loop-line.yielded_by c.next.ensures.steps _ content
    (ap split_rest begun ∙ split.rest) (ap split_done begun ∙ split.done) (ap split_callee begun ∙ split.closure) (λ x b q k. search (rules, tests))
    c.in-Some.line c.in-Some.is in
    let result = c.from_residual-in_err-add_line.result in
    let bad = c.in_err-add_line.field-0.0 in
    let failed = err_from_is_err_and result c.from_residual-in_err-add_line.ensures.1 in
    let same : result ≡ Err bad = failed.1 ∙ ap Err failed.2 in
    subst (PacksLines (lines_of content)) (sym same)
    (HasReadLines-bad content n c.loop-line.ends.items c.loop-line.bytes.items c.in-Some.line.now c.add_line.new.ends.items c.add_line.new.bytes.items bad
    next c.loop-line.invariant.read c.in_err-add_line.ensures)

pub returns : goal.returns
returns c =
    let content = c.args.content.now in
    let n = length c.loop-line.yielded in
    let begun = c.into_iter-line-iterator.ensures.into_iter_gives in
    let split = c.split-line-items.ensures in
    let all = all_lines _ _ _ _ _ n c.loop-line.yielded refl c.loop-line.yielded_by c.next.ensures.steps _ content
    (ap split_rest begun ∙ split.rest) (ap split_done begun ∙ split.done) (ap split_callee begun ∙ split.closure) (λ x b q k. search (rules, tests))
    c.in-None.is in
    HasReadLines-done content n c.loop-line.ends.items c.loop-line.bytes.items all c.loop-line.invariant.read
