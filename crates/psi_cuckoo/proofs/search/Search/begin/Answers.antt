use Rattle.std.proofs.Common.{◌≤◌, ◌+◌, ℕ, List, length, refl, sym, subst, arith, inl}
use Rattle.psi_cuckoo.specs.Search.{AreTrees, IsLed}
use Rattle.psi_cuckoo.specs.declared.search.Search.{Search}
use Rattle.psi_cuckoo.specs.declared.search.Visit.{Visit}
use Rattle.psi_cuckoo.proofs.Found.{adds_when, none_free_none, none_free_visit}
use Rattle.psi_cuckoo.proofs.Paths.{forest_of_none, forest_of_visit}
use Rattle.psi_cuckoo.proofs.Picks.{ways_begin}
use Rattle.psi_cuckoo.proofs.search.Search.begin.Goals as goal

pub visit-requires-clause-item : goal.visit-requires-clause-item
visit-requires-clause-item c =
    let waiting : ℕ = c.args.task.now.bins + c.args.task.now.stash in
    omega (arith, (c.requires.table.standing.holds waiting c.args.item c.requires.waits).0, c.requires.few, c.requires.numbers)

pub returns-clause-forest : goal.returns-clause-forest
returns-clause-forest c =
    let task = c.args.task.now in
    let slots = c.args.table.now.slots.items in
    let waiting : ℕ = task.bins + task.stash in
    let item = c.args.item in
    let old : Search = record { visits = c.clear.new.self; numbers = c.args.self.now.numbers } in
    let at = c.requires.table.standing.holds waiting item c.requires.waits in
    let visit : Visit = record { item = item; parent = 0; index = 0 } in
    let none : AreTrees task.bins task.candidates.now slots old.visits.items old.numbers.items = subst (λ (vs : List Visit). AreTrees task.bins task.candidates.now slots vs old.numbers.items) (sym c.clear.ensures.items) (forest_of_none task.bins task.candidates.now slots old.numbers.items c.requires.few c.requires.numbers) in
    let behind : task.bins ≤ waiting = omega arith in
    let led = subst (IsLed task.bins task.candidates.now old.visits.items (length old.visits.items) 0 0) (sym at.1) (inl (refl, behind)) in
    let adds = adds_when old c.visit.new.self visit c.in_ok-visit.field-0 c.in_ok-visit.ensures in
    forest_of_visit task.bins task.candidates.now slots c.args.table.now.occupants.items old c.visit.new.self visit adds none at.0 led

pub returns-clause-ways : goal.returns-clause-ways
returns-clause-ways c =
    let waiting : ℕ = c.args.task.now.bins + c.args.task.now.stash in
    let old : Search = record { visits = c.clear.new.self; numbers = c.args.self.now.numbers } in
    let visit : Visit = record { item = c.args.item; parent = 0; index = 0 } in
    let at = c.requires.table.standing.holds waiting c.args.item c.requires.waits in
    let adds = adds_when old c.visit.new.self visit c.in_ok-visit.field-0 c.in_ok-visit.ensures in
    ways_begin waiting c.args.table.now.slots.items old c.visit.new.self c.args.item c.clear.ensures.items at.1 c.requires.last adds

pub returns-clause-taken : goal.returns-clause-taken
returns-clause-taken c =
    let old : Search = record { visits = c.clear.new.self; numbers = c.args.self.now.numbers } in
    let visit : Visit = record { item = c.args.item; parent = 0; index = 0 } in
    let adds = adds_when old c.visit.new.self visit c.in_ok-visit.field-0 c.in_ok-visit.ensures in
    none_free_visit c.args.task.now c.args.table.now old c.visit.new.self visit adds (none_free_none c.args.task.now c.args.table.now old c.clear.ensures.items) c.requires.taken
