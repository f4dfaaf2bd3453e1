use Rattle.std.proofs.Common.{[], get_or}
use Rattle.std.proofs.lemmas.List.{get_or_default}
use Rattle.psi_deal.specs.declared.seeds.SeedPair.{SeedPair}
use Rattle.psi_deal.proofs.SeedLists.{one_more_chosen}
use Rattle.psi_deal.proofs.seeds.chosen_seeds.Goals as goal

pub loop-c-preserved : goal.loop-c-preserved
loop-c-preserved c =
    let at = c.loop-c.c in
    let none : SeedPair = record { zero = []; one = [] } in
    let pair : SeedPair = get_or c.args.pairs.now at none in
    one_more_chosen c.args.choice.now c.args.pairs.now at pair c.loop-c.seeds.items c.push.new.self.items c.chosen_seed.result.now c.loop-c-test.true
    (get_or_default c.args.pairs.now at none pair c.loop-c-test.true) c.loop-c.invariant c.in_ok-push.ensures.items c.chosen_seed.ensures
