use Rattle.std.proofs.Common.{rules, arith, Err}
use Rattle.psi_spec.specs.DealFiles.{sender_file_size, sender_of}
use Rattle.psi_deal.specs.BadDeals.{IsJudged, bad_deal}
use Rattle.psi_deal.proofs.Faultless.{sender_found, sender_only}
use Rattle.psi_deal.proofs.files.read_sender.Goals as goal

pub returns-in-Some-clause-only : goal.returns-in-Some-clause-only
returns-in-Some-clause-only c deal is e =
    let bytes = c.args.bytes.now in
    let exact : IsJudged (bad_deal 1 sender_file_size bytes) (sender_of bytes) (Err c.in-Some.bad) = search rules in
    sender_only bytes (Err c.in-Some.bad) deal exact is e

pub returns-clause-found : goal.returns-clause-found
returns-clause-found c =
    let bytes = c.args.bytes.now in
    let exact : IsJudged (bad_deal 1 sender_file_size bytes) (sender_of bytes) c.map_err.result = search rules in
    sender_found bytes c.map_err.result (λ i. omega (arith, c.type_inv.bytes i)) exact

pub returns-clause-only : goal.returns-clause-only
returns-clause-only c deal is e =
    let bytes = c.args.bytes.now in
    let exact : IsJudged (bad_deal 1 sender_file_size bytes) (sender_of bytes) c.map_err.result = search rules in
    sender_only bytes c.map_err.result deal exact is e
