use Rattle.std.proofs.Common.{rules, arith, Err}
use Rattle.psi_spec.specs.Records.{logged_of}
use Rattle.psi_log.specs.BadRecords.{IsJudged, bad_record}
use Rattle.psi_log.proofs.Faultless.{answer_is_found, answer_is_only}
use Rattle.psi_log.proofs.reading.read_record.Goals as goal

pub returns-in-Some-clause-only : goal.returns-in-Some-clause-only
returns-in-Some-clause-only c session is e =
    let bytes = c.args.bytes.now in
    let exact : IsJudged (bad_record bytes) (logged_of bytes) (Err c.in-Some.bad) = search rules in
    answer_is_only bytes (Err c.in-Some.bad) session exact is e

pub returns-clause-found : goal.returns-clause-found
returns-clause-found c =
    let bytes = c.args.bytes.now in
    let exact : IsJudged (bad_record bytes) (logged_of bytes) c.map_err.result = search rules in
    answer_is_found bytes c.map_err.result (λ i. omega (arith, c.type_inv.bytes i)) exact

pub returns-clause-only : goal.returns-clause-only
returns-clause-only c session is e =
    let bytes = c.args.bytes.now in
    let exact : IsJudged (bad_record bytes) (logged_of bytes) c.map_err.result = search rules in
    answer_is_only bytes c.map_err.result session exact is e
