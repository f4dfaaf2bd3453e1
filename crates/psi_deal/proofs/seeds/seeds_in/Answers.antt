use Rattle.std.proofs.Common.{◌∙◌}
use Rattle.psi_deal.proofs.SeedLists.{no_seeds, one_more_seed}
use Rattle.psi_deal.proofs.seeds.seeds_in.Goals as goal

pub loop-c-init : goal.loop-c-init
loop-c-init c = c.in_ok-seeds.ensures.items ∙ no_seeds c.args.bytes.now

pub loop-c-preserved : goal.loop-c-preserved
loop-c-preserved c = one_more_seed c.args.bytes.now c.loop-c.c c.loop-c.seeds.items c.push.new.self.items c.array_at.result c.loop-c.invariant c.in_ok-push.ensures.items c.array_at.ensures
