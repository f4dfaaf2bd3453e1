use Rattle.std.proofs.Common.{rules, arith, Err}
use Rattle.psi_spec.specs.DealFiles.{receiver_file_size, receiver_of}
use Rattle.psi_deal.specs.BadDeals.{IsJudged, bad_deal}
use Rattle.psi_deal.proofs.Faultless.{receiver_found, receiver_only}
use Rattle.psi_deal.proofs.files.read_receiver.Goals as goal

pub returns-in-Some-clause-only : goal.returns-in-Some-clause-only
returns-in-Some-clause-only c deal is e =
    let bytes = c.args.bytes.now in
    let exact : IsJudged (bad_deal 0 receiver_file_size bytes) (receiver_of bytes) (Err c.in-Some.bad) = search rules in
    receiver_only bytes (Err c.in-Some.bad) deal exact is e

pub returns-clause-found : goal.returns-clause-found
returns-clause-found c =
    let bytes = c.args.bytes.now in
    let exact : IsJudged (bad_deal 0 receiver_file_size bytes) (receiver_of bytes) c.map_err.result = search rules in
    receiver_found bytes c.map_err.result (λ i. omega (arith, c.type_inv.bytes i)) exact

pub returns-clause-only : goal.returns-clause-only
returns-clause-only c deal is e =
    let bytes = c.args.bytes.now in
    let exact : IsJudged (bad_deal 0 receiver_file_size bytes) (receiver_of bytes) c.map_err.result = search rules in
    receiver_only bytes c.map_err.result deal exact is e
