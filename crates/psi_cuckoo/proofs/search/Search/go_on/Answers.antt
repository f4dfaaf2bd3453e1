use Rattle.std.proofs.Common.{◌≡◌, ◌<◌, ◌≤◌, ◌+◌, ◌-◌, ℕ, List, None, ap, length, map, subst, sym, ◌∙◌, arith}
use Rattle.std.specs.declared.option.Option.{Option}
use Rattle.std.specs.Prelude.{IfNone, IfSome, MatchOption, fold}
use Rattle.psi_spec.specs.Placement.{Slot}
use Rattle.psi_spec.specs.Picking.{Visit as Way, choices_of, first_free, led_to, walk}
use Rattle.psi_cuckoo.specs.Picks.{way_at, ways_of}
use Rattle.psi_cuckoo.proofs.Picks.{length-ways, walk_on, walk_ends}
use Rattle.psi_cuckoo.proofs.Found.{none_of_taken, walk_first_path}
use Rattle.psi_cuckoo.specs.Table.{slot_of}
use Rattle.psi_cuckoo.specs.Search.{AllReached, IsFirstPath, NoneFree, visit_at}
use Rattle.psi_cuckoo.specs.declared.search.Path.{Path}
use Rattle.psi_cuckoo.proofs.Paths.{closed_upto, extends_same, extends_twice, visits_fit}
use Rattle.psi_cuckoo.proofs.search.Search.go_on.Goals as goal

pub loop-at-smaller : goal.loop-at-smaller
loop-at-smaller c =
    let fit = visits_fit c.args.task.now.bins c.args.task.now.candidates.now c.args.table.now.slots.items c.loop-at.self.visits.items c.loop-at.self.numbers.items c.loop-at.invariant.forest in
    omega arith

pub returns-clause-found : goal.returns-clause-found
returns-clause-found c =
    let n : length c.loop-at.self.visits.items ≤ c.loop-at.at = omega arith in
    λ k l. c.loop-at.invariant.named k (omega arith)

pub loop-at-preserved : goal.loop-at-preserved
loop-at-preserved c =
    let task = c.args.task.now in
    let old = c.loop-at.self.visits.items in
    let new = c.visit_candidates.new.self.visits.items in
    let candidates = task.candidates.now in
    let occupants = c.args.table.now.occupants.items in
    let item = (visit_at old c.loop-at.at).item in
    let within : c.loop-at.at < length old = omega arith in
    let told = c.in_ok-path.ensures in
    let here = subst (λ (o : Option Path). IfNone o (AllReached candidates occupants new item)) c.in_default.is told.reached in
    let slots = c.args.table.now.slots.items in
    let waiting : ℕ = task.bins + task.stash in
    let forest = c.loop-at.invariant.forest in
    let fit = visits_fit task.bins candidates slots old c.loop-at.self.numbers.items forest in
    let three = c.requires.task.three item (omega (arith, forest.each c.loop-at.at within, forest.few)) in
    let none : first_free (map slot_of slots) (choices_of candidates item) ≡ None = none_of_taken candidates slots occupants item c.requires.table.standing three (c.loop-at.invariant.taken c.loop-at.at within) in
    let led : List Way = fold (led_to (map slot_of slots) (way_at (ways_of waiting slots old) c.loop-at.at)) (ways_of waiting slots old) (choices_of candidates item) in
    let ways : ways_of waiting slots new ≡ led = subst (λ (o : Option Path). IfNone o (ways_of waiting slots new ≡ led)) c.in_default.is told.ways in
    record {
      way = c.loop-at.invariant.way ∙ (walk_on waiting candidates slots old c.loop-at.at within fit none ∙ ap (walk (length slots - (c.loop-at.at + 1)) candidates (map slot_of slots) (c.loop-at.at + 1)) (sym ways));
      forest = told.forest;
      taken = subst (λ (o : Option Path). MatchOption o (NoneFree task c.args.table.now c.visit_candidates.new.self) (λ path. IsFirstPath task c.args.table.now c.visit_candidates.new.self path)) c.in_default.is told.found;
      within = omega (arith, told.grows.longer);
      grows = extends_twice c.args.self.now.visits.items old new c.loop-at.invariant.grows told.grows;
      named = closed_upto candidates occupants old new c.loop-at.at c.loop-at.invariant.named within told.grows here;
    }

pub returns-in-Some-clause-found : goal.returns-in-Some-clause-found
returns-in-Some-clause-found c =
    let found = subst (λ (o : Option Path). MatchOption o (NoneFree c.args.task.now c.args.table.now c.visit_candidates.new.self) (λ path. IsFirstPath c.args.task.now c.args.table.now c.visit_candidates.new.self path)) c.in-Some.is c.in_ok-path.ensures.found in
    (found.within, found.leads)

pub returns-in-Some-clause-way : goal.returns-in-Some-clause-way
returns-in-Some-clause-way c =
    let task = c.args.task.now in
    let old = c.loop-at.self.visits.items in
    let new = c.visit_candidates.new.self in
    let candidates = task.candidates.now in
    let occupants = c.args.table.now.occupants.items in
    let slots = c.args.table.now.slots.items in
    let at = c.loop-at.at in
    let path = c.in-Some.path in
    let told = c.in_ok-path.ensures in
    let waiting : ℕ = task.bins + task.stash in
    let within : at < length old = omega arith in
    let forest = c.loop-at.invariant.forest in
    let fit = visits_fit task.bins candidates slots old c.loop-at.self.numbers.items forest in
    let fits = visits_fit task.bins candidates slots new.visits.items new.numbers.items told.forest in
    let item : ℕ = (visit_at old at).item in
    let three = c.requires.task.three item (omega (arith, forest.each at within, forest.few)) in
    let none : first_free (map slot_of slots) (choices_of candidates item) ≡ None = none_of_taken candidates slots occupants item c.requires.table.standing three (c.loop-at.invariant.taken at within) in
    let found = subst (λ (o : Option Path). MatchOption o (NoneFree task c.args.table.now new) (λ path. IsFirstPath task c.args.table.now new path)) c.in-Some.is told.found in
    let late = subst (λ (o : Option Path). IfSome o (λ path. length old ≤ path.last)) c.in-Some.is told.late in
    let led : List Way = fold (led_to (map slot_of slots) (way_at (ways_of waiting slots old) at)) (ways_of waiting slots old) (choices_of candidates item) in
    c.loop-at.invariant.way
    ∙ (walk_on waiting candidates slots old at within fit none
    ∙ walk_first_path task c.args.table.now new path (length slots - (at + 1)) (at + 1) led c.requires.task c.requires.table told.forest found told.begins (omega (arith, late)) (omega (arith, found.within)))

pub returns-clause-way : goal.returns-clause-way
returns-clause-way c =
    let visits = c.loop-at.self.visits.items in
    let slots = c.args.table.now.slots.items in
    let waiting : ℕ = c.args.task.now.bins + c.args.task.now.stash in
    let n : length visits ≤ c.loop-at.at = omega arith in
    let seats : List Slot = map slot_of slots in
    let told : Option (List (ℕ × Slot)) = walk (length slots) c.args.task.now.candidates.now seats 0 (ways_of waiting slots c.args.self.now.visits.items) in
    walk_ends told (length slots - c.loop-at.at) c.args.task.now.candidates.now seats c.loop-at.at (ways_of waiting slots visits) c.loop-at.invariant.way (omega (arith, length-ways waiting slots visits))

pub loop-at-init : goal.loop-at-init
loop-at-init c =
    let slots = c.args.table.now.slots.items in
    let candidates = c.args.task.now.candidates.now in
    let waiting : ℕ = c.args.task.now.bins + c.args.task.now.stash in
    let all : length slots ≡ length slots - 0 = omega arith in
    record {
      forest = c.requires.forest;
      taken = c.requires.taken;
      within = omega arith;
      grows = extends_same c.args.self.now.visits.items;
      named = λ k l. absurd (omega arith);
      way = ap (λ (n : ℕ). walk n candidates (map slot_of slots) 0 (ways_of waiting slots c.args.self.now.visits.items)) all;
    }
