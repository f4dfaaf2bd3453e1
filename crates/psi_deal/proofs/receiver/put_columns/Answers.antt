use Rattle.std.proofs.Common.{◌≡◌, ◌∙◌, ℕ, [], length, map, get_or, sym, ap, subst, arith}
use Rattle.std.proofs.lemmas.List.{length-map, take-map}
use Rattle.psi_spec.specs.Columns.{column}
use Rattle.psi_spec.specs.Matrices.{IsClean}
use Rattle.psi_spec.specs.Deals.{SeedPair, chosen_seed}
use Rattle.psi_deal.specs.Pairs.{pair_of, pairs_of}
use Rattle.psi_spec.proofs.Clean.{clean-column}
use Rattle.psi_deal.proofs.Filling.{clean_filled}
use Rattle.psi_deal.proofs.receiver.put_columns.Goals as goal

pub returns-clause-clean : goal.returns-clause-clean
returns-clause-clean c k l =
    let rows = c.args.out.now.rows in
    let count = c.loop-c.invariant.count in
    let seeds : length (pairs_of c.args.pairs.now) ≡ 512 = omega (arith, length-map c.args.pairs.now pair_of) in
    subst (λ (r : ℕ). IsClean r (get_or c.loop-c.out.columns k [])) (sym c.loop-c.invariant.rows)
    (clean_filled (λ (pair : SeedPair). column (chosen_seed c.args.which pair) c.args.session rows) (pairs_of c.args.pairs.now) c.loop-c.out.columns c.loop-c.c rows (λ pair. clean-column (chosen_seed c.args.which pair) c.args.session rows) (omega arith) (omega arith) seeds
    (c.loop-c.invariant.made ∙ ap (map (λ (pair : SeedPair). column (chosen_seed c.args.which pair) c.args.session rows)) (sym (take-map pair_of c.loop-c.c c.args.pairs.now))) k l)
