use Rattle.std.proofs.Common.{◌≤◌, ◌∙◌, ℕ, List, [], length, get_or, sym, arith}
use Rattle.std.specs.Str.{bytes_eq}
use Rattle.std.proofs.lemmas.List.{length-map}
use Rattle.psi_spec.specs.Deals.{chosen_from}
use Rattle.psi_spec.proofs.Dealing.{length-chosen_from}
use Rattle.psi_deal.specs.Pairs.{pair_of, pairs_of}
use Rattle.psi_deal.proofs.Differing.{differ_here, same_from_not, other_from_not, none_left}
use Rattle.psi_deal.proofs.pairing.seeds_differ.Goals as goal

pub returns-then-ne : goal.returns-then-ne
returns-then-ne c =
    let seeds = c.args.seeds.now in
    let other = other_from_not (bytes_eq c.chosen_seed.result.now (get_or seeds c.from-i.result [])) (sym c.ne.ensures ∙ c.if-ne.true) in
    sym (c.loop-c.invariant ∙ differ_here c.args.choice.now c.args.pairs.now seeds c.loop-c.c c.from-i.result c.chosen_seed.result.now _ c.from-i.ensures (omega arith) (omega arith) c.chosen_seed.ensures other)

pub loop-c-preserved : goal.loop-c-preserved
loop-c-preserved c =
    let seeds = c.args.seeds.now in
    let same = same_from_not (bytes_eq c.chosen_seed.result.now (get_or seeds c.from-i.result [])) (sym c.ne.ensures ∙ c.if-ne.false) in
    c.loop-c.invariant ∙ differ_here c.args.choice.now c.args.pairs.now seeds c.loop-c.c c.from-i.result c.chosen_seed.result.now _ c.from-i.ensures (omega arith) (omega arith) c.chosen_seed.ensures same

pub returns : goal.returns
returns c =
    let all : List (List ℕ) = chosen_from c.args.choice.now 0 (pairs_of c.args.pairs.now) in
    let few : length all ≤ c.loop-c.c = omega (arith, length-chosen_from c.args.choice.now 0 (pairs_of c.args.pairs.now), length-map c.args.pairs.now pair_of) in
    sym (c.loop-c.invariant ∙ none_left c.loop-c.c all c.args.seeds.now few (omega arith))
