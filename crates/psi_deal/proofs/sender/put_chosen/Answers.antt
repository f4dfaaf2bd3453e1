use Rattle.std.proofs.Common.{◌≡◌, ℕ, List, [], length, get_or, sym, subst, arith}
use Rattle.psi_spec.specs.Columns.{column}
use Rattle.psi_spec.specs.Matrices.{IsClean}
use Rattle.psi_spec.proofs.Clean.{clean-column}
use Rattle.psi_deal.proofs.Filling.{clean_filled}
use Rattle.psi_deal.proofs.sender.put_chosen.Goals as goal

pub returns-clause-clean : goal.returns-clause-clean
returns-clause-clean c k l =
    let rows = c.args.out.now.rows in
    let count = c.loop-c.invariant.count in
    let seeds : length c.args.seeds.now ≡ 512 = c.requires in
    subst (λ (r : ℕ). IsClean r (get_or c.loop-c.out.columns k [])) (sym c.loop-c.invariant.rows)
    (clean_filled (λ (seed : List ℕ). column seed c.args.session rows) c.args.seeds.now c.loop-c.out.columns c.loop-c.c rows (λ seed. clean-column seed c.args.session rows) (omega arith) (omega arith) seeds c.loop-c.invariant.made k l)
