use Rattle.std.proofs.Common.{rules, arith, Err}
use Rattle.psi_deal.specs.BadDeals.{IsJudged, bad_old_deal}
use Rattle.psi_deal.specs.OldDeals.{old_deal_of}
use Rattle.psi_deal.proofs.OldFaultless.{old_found, old_only}
use Rattle.psi_deal.proofs.old_files.read_old.Goals as goal

pub returns-in-Some-clause-only : goal.returns-in-Some-clause-only
returns-in-Some-clause-only c deal file =
    let bytes = c.args.bytes.now in
    let exact : IsJudged (bad_old_deal bytes) (old_deal_of bytes) (Err c.in-Some.bad) = search rules in
    old_only bytes (Err c.in-Some.bad) deal exact file

pub returns-clause-found : goal.returns-clause-found
returns-clause-found c =
    let bytes = c.args.bytes.now in
    let exact : IsJudged (bad_old_deal bytes) (old_deal_of bytes) c.map_err.result = search rules in
    old_found bytes c.map_err.result (λ i. omega (arith, c.type_inv.bytes i)) exact

pub returns-clause-only : goal.returns-clause-only
returns-clause-only c deal file =
    let bytes = c.args.bytes.now in
    let exact : IsJudged (bad_old_deal bytes) (old_deal_of bytes) c.map_err.result = search rules in
    old_only bytes c.map_err.result deal exact file
