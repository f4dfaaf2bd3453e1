use Rattle.std.proofs.Common.{◌∙◌, Err, ap, sym, subst}
use Rattle.std.proofs.lemmas.Result.{err_from_is_err_and}
use Rattle.psi_spec.specs.Records.{last_place}
use Rattle.std.proofs.Common.{drop}
use Rattle.psi_log.specs.BadRecords.{EndsFrame}
use Rattle.psi_log.proofs.Walking.{ends_at_done, ends_at_end, ends_at_fault, goes_on}
use Rattle.psi_log.proofs.judging.wire_end.Goals as goal

pub returns-in_err-end : goal.returns-in_err-end
returns-in_err-end c =
    let start = c.args.start in
    let bytes = c.args.bytes.now in
    let failed = err_from_is_err_and c.from_residual.result c.from_residual.ensures.1 in
    subst (EndsFrame (last_place start (drop start bytes)) bytes) (sym (failed.1 ∙ ap Err failed.2))
    (ends_at_fault start c.loop-at.at bytes c.in_err-end.field-0.0 c.loop-at.invariant.come c.in_err-end.ensures)

pub returns-then-bytes-at-eq-DONE : goal.returns-then-bytes-at-eq-DONE
returns-then-bytes-at-eq-DONE c =
    ends_at_done c.args.start c.loop-at.at c.in_ok-end.end c.args.bytes.now c.loop-at.invariant.come c.if-bytes-at-eq-DONE.true c.in_ok-end.ensures

pub loop-at-preserved : goal.loop-at-preserved
loop-at-preserved c = record {
  within = c.in_ok-end.ensures.2;
  come = goes_on c.args.start c.loop-at.at c.in_ok-end.end c.args.bytes.now c.loop-at.invariant.come c.if-bytes-at-eq-DONE.false c.in_ok-end.ensures;
}

pub returns : goal.returns
returns c = ends_at_end c.args.start c.loop-at.at c.args.bytes.now c.loop-at.invariant.come c.loop-at-test.false
