use Rattle.std.proofs.Common.{◌≡◌, ◌∙◌, ◌*◌, ap}
use Rattle.psi_deal.specs.Pairs.{pair_of, pairs_of}
use Rattle.psi_deal.specs.declared.seeds.SeedPair.{SeedPair}
use Rattle.psi_spec.proofs.Dealing.{pair_from}
use Rattle.psi_deal.proofs.SeedLists.{no_pairs, one_more_pair}
use Rattle.psi_deal.proofs.seeds.pairs_in.Goals as goal

pub loop-c-init : goal.loop-c-init
loop-c-init c = ap pairs_of c.in_ok-pairs.ensures.items ∙ no_pairs c.args.bytes.now

pub loop-c-preserved : goal.loop-c-preserved
loop-c-preserved c =
    let pair : SeedPair = record { zero = c.array_at-zero.result; one = c.array_at-one.result } in
    let made : pair_of pair ≡ pair_from c.args.bytes.now (64 * c.loop-c.c) = λ i. record { zero = c.array_at-zero.ensures i; one = c.array_at-one.ensures i } in
    one_more_pair c.args.bytes.now c.loop-c.c c.loop-c.pairs.items c.push.new.self.items pair c.loop-c.invariant c.in_ok-push.ensures.items made
