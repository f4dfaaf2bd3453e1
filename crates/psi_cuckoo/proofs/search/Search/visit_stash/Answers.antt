use Rattle.std.proofs.Common.{◌≡◌, ◌<◌, ◌≤◌, ◌+◌, ◌-◌, ℕ, List, [], ap, length, map, refl, sym, ◌∙◌, subst, arith, inl, ⊎_elim, ◌∷◌}
use Rattle.std.specs.Prelude.{MatchOption, fold}
use Rattle.std.specs.declared.option.Option.{Option}
use Rattle.std.proofs.lemmas.Bool.{cases_eq}
use Rattle.psi_spec.specs.Placement.{stash_slots}
use Rattle.psi_spec.specs.Picking.{Visit as Way, led_to}
use Rattle.psi_cuckoo.specs.Table.{IsTable, slot_of}
use Rattle.psi_cuckoo.specs.Picks.{first_ways, waiting_way, ways_of}
use Rattle.psi_cuckoo.specs.Search.{ComesTo, Extends, IsFirstPath, IsForest, IsLed, IsReached, NoneFree}
use Rattle.psi_cuckoo.specs.declared.search.Path.{Path}
use Rattle.psi_cuckoo.specs.declared.search.Search.{Search}
use Rattle.psi_cuckoo.specs.declared.search.Visit.{Visit}
use Rattle.psi_cuckoo.specs.declared.table.Table.{Table}
use Rattle.psi_cuckoo.specs.declared.table.Task.{Task}
use Rattle.psi_cuckoo.proofs.Paths.{forest_of_visit, visit_extends, visit_reaches, reached_more, reached_upto}
use Rattle.psi_cuckoo.proofs.Picks.{stash_end, stash_step}
use Rattle.psi_cuckoo.proofs.Found.{told_begins}
use Rattle.psi_cuckoo.proofs.search.Search.visit_stash.Goals as goal

-- what is known once the item in one more row was visited
record IsNext (task : Task) (table : Table) (old new : Search) (row : ℕ) : Type 0 where
  forest : IsForest task table new
  reached : IsReached table.occupants.items new.visits.items row
  more : Extends old.visits.items new.visits.items
  ways : (told : List Way)
      → told ≡ fold (led_to (map slot_of table.slots.items) (waiting_way table.slots.items)) (ways_of (task.bins + task.stash) table.slots.items old.visits.items) (stash_slots row (task.bins + task.stash - row))
      → told ≡ fold (led_to (map slot_of table.slots.items) (waiting_way table.slots.items)) (ways_of (task.bins + task.stash) table.slots.items new.visits.items) (stash_slots (row + 1) (task.bins + task.stash - (row + 1)))

next_of : (task : Task) (table : Table) (old new : Search) (row : ℕ) → IsTable task table → IsForest task table old → task.bins ≤ row → row < task.bins + task.stash → ComesTo table old new row 0 0 → IsNext task table old new row
next_of task table old new row seated forest low high came =
    let bins = task.bins in
    let candidates = task.candidates.now in
    let slots = table.slots.items in
    let occupants = table.occupants.items in
    let item = came.item in
    let visit : Visit = record { item = item; parent = 0; index = 0 } in
    let there = seated.standing.holds row item came.stands in
    let led = subst (IsLed bins candidates old.visits.items (length old.visits.items) 0 0) (sym there.1) (inl (refl, low)) in
    let waiting : ℕ = bins + task.stash in
    record {
      forest = forest_of_visit bins candidates slots occupants old new visit came.adds forest there.0 led;
      reached = visit_reaches bins candidates slots occupants old new visit came.adds row came.stands;
      more = visit_extends bins candidates slots occupants old new visit came.adds;
      ways = λ told so_far. so_far ∙ stash_step waiting slots occupants old new item row seated.standing came.adds came.stands high;
    }

pub reach-requires-clause-inside : goal.reach-requires-clause-inside
reach-requires-clause-inside c = omega (arith, c.requires.table.rows)

pub reach-requires-clause-stands : goal.reach-requires-clause-stands
reach-requires-clause-stands c = c.requires.full c.loop-row.row c.loop-row.auto.row (omega arith)

pub returns-in-Some-clause-forest : goal.returns-in-Some-clause-forest
returns-in-Some-clause-forest c =
    (next_of c.args.task.now c.args.table.now c.loop-row.self c.reach.new.self c.loop-row.row c.requires.table c.loop-row.invariant.forest c.loop-row.auto.row c.loop-row-test.true c.in_ok-path.ensures.came).forest

pub returns-in-Some-clause-begins : goal.returns-in-Some-clause-begins
returns-in-Some-clause-begins c =
    let task = c.args.task.now in
    let slots = c.args.table.now.slots.items in
    let row = c.loop-row.row in
    let waiting : ℕ = task.bins + task.stash in
    let next = next_of task c.args.table.now c.loop-row.self c.reach.new.self row c.requires.table c.loop-row.invariant.forest c.loop-row.auto.row c.loop-row-test.true c.in_ok-path.ensures.came in
    let told : List Way = first_ways task.stash task.bins (map slot_of slots) (waiting_way slots) in
    told_begins (map slot_of slots) (waiting_way slots) told (ways_of waiting slots c.reach.new.self.visits.items) (stash_slots (row + 1) (waiting - (row + 1))) (next.ways told c.loop-row.invariant.stash)

pub loop-row-preserved : goal.loop-row-preserved
loop-row-preserved c =
    let task = c.args.task.now in
    let slots = c.args.table.now.slots.items in
    let occupants = c.args.table.now.occupants.items in
    let row = c.loop-row.row in
    let old = c.loop-row.self in
    let new = c.reach.new.self in
    let next = next_of task c.args.table.now old new row c.requires.table c.loop-row.invariant.forest c.loop-row.auto.row c.loop-row-test.true c.in_ok-path.ensures.came in
    record {
      forest = next.forest;
      taken = subst (λ (o : Option Path). MatchOption o (NoneFree task c.args.table.now new) (λ path. IsFirstPath task c.args.table.now new path)) c.in_default.is c.in_ok-path.ensures.found;
      reached = reached_upto task.bins occupants old.visits.items new.visits.items row c.loop-row.invariant.reached next.more next.reached;
      last = reached_more occupants old.visits.items new.visits.items (task.bins + task.stash) next.more c.loop-row.invariant.last;
      stash = next.ways (first_ways task.stash task.bins (map slot_of slots) (waiting_way slots)) c.loop-row.invariant.stash;
    }

pub loop-row-init : goal.loop-row-init
loop-row-init c =
    let bins = c.args.task.now.bins in
    let stash = c.args.task.now.stash in
    let slots = c.args.table.now.slots.items in
    let waiting : ℕ = bins + stash in
    let last : Way = waiting_way slots in
    let rows : stash ≡ waiting - bins = omega arith in
    record {
      forest = c.requires.forest;
      taken = c.requires.taken;
      reached = λ row low high. absurd (omega arith);
      last = c.requires.reached;
      stash = ap (λ (n : ℕ). fold (led_to (map slot_of slots) last) (last ∷ []) (stash_slots bins n)) rows ∙ ap (λ (ws : List Way). fold (led_to (map slot_of slots) last) ws (stash_slots bins (waiting - bins))) (sym c.requires.ways);
    }

pub returns-clause-ways : goal.returns-clause-ways
returns-clause-ways c =
    let slots = c.args.table.now.slots.items in
    let waiting : ℕ = c.args.task.now.bins + c.args.task.now.stash in
    let row = c.loop-row.row in
    let past : waiting ≤ row = c.loop-row-test.false in
    sym (c.loop-row.invariant.stash ∙ ap (fold (led_to (map slot_of slots) (waiting_way slots)) (ways_of waiting slots c.loop-row.self.visits.items)) (stash_end row waiting past))

pub returns-clause-begins : goal.returns-clause-begins
returns-clause-begins c =
    let task = c.args.task.now in
    let slots = c.args.table.now.slots.items in
    let row = c.loop-row.row in
    let waiting : ℕ = task.bins + task.stash in
    told_begins (map slot_of slots) (waiting_way slots) (first_ways task.stash task.bins (map slot_of slots) (waiting_way slots)) (ways_of waiting slots c.loop-row.self.visits.items) (stash_slots row (waiting - row)) c.loop-row.invariant.stash

pub returns-clause-reached : goal.returns-clause-reached
returns-clause-reached c =
    let occupants = c.args.table.now.occupants.items in
    let waiting : ℕ = c.args.task.now.bins + c.args.task.now.stash in
    let past : waiting ≤ c.loop-row.row = c.loop-row-test.false in
    λ row low high. ⊎_elim
    (λ e. subst (IsReached occupants c.loop-row.self.visits.items) (sym e) c.loop-row.invariant.last)
    (λ ne. c.loop-row.invariant.reached row low (omega arith))
    (cases_eq row waiting)
