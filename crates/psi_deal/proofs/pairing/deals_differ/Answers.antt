use Rattle.std.proofs.Common.{rules, ◌≡◌, length, Some}
use Rattle.psi_deal.specs.declared.errors.DealField.TheVariants.{Seed}
use Rattle.psi_deal.specs.Differences.{first_difference}
use Rattle.psi_deal.proofs.Differing.{pair_exactly}
use Rattle.psi_deal.proofs.pairing.deals_differ.Goals as goal

pub returns-in_err-column-clause-pair : goal.returns-in_err-column-clause-pair
returns-in_err-column-clause-pair c =
    let first = c.args.first.now in
    let second = c.args.second.now in
    let sizes : length first.seeds ≡ length second.chosen = search rules in
    let field : c.from_residual.result ≡ first_difference first second = search rules in
    pair_exactly c.from_residual.result first second sizes field

pub returns-clause-pair : goal.returns-clause-pair
returns-clause-pair c =
    let first = c.args.first.now in
    let second = c.args.second.now in
    let sizes : length first.seeds ≡ length second.chosen = search rules in
    let field : Some (Seed c.in_ok-column.column) ≡ first_difference first second = search rules in
    pair_exactly (Some (Seed c.in_ok-column.column)) first second sizes field
