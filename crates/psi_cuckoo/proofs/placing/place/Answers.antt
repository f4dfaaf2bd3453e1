use Rattle.std.proofs.Common.{◌≡◌, ℕ, List, subst, arith}
use Rattle.std.specs.Prelude.{IfSome}
use Rattle.std.specs.declared.option.Option.{Option}
use Rattle.psi_spec.specs.CrowdedLists.{IsCrowded}
use Rattle.psi_spec.proofs.Crowding.{no_placement}
use Rattle.psi_cuckoo.proofs.Placed.{name_bins}
use Rattle.psi_cuckoo.proofs.placing.place.Goals as goal

pub seat_or_refuse-requires-clause-task : goal.seat_or_refuse-requires-clause-task
seat_or_refuse-requires-clause-task c = record {
  rows = omega arith;
  items = omega arith;
  three = c.told-cands;
  named = name_bins c.args.bins c.args.cands.now c.requires.candidates;
}

pub returns-in-Some-clause-found : goal.returns-in-Some-clause-found
returns-in-Some-clause-found c placement =
    let stash_is : c.from.result ≡ c.args.stash = omega arith in
    let crowded = subst (λ (crowd : Option (List ℕ)). IfSome crowd (IsCrowded c.from.result c.args.cands.now)) c.in-Some.is c.in_ok-seat_or_refuse.ensures.crowded in
    absurd (no_placement c.args.stash c.args.bins c.args.cands.now c.in-Some.items placement.0 (subst (λ (n : ℕ). IsCrowded n c.args.cands.now c.in-Some.items) stash_is crowded) placement.1)
