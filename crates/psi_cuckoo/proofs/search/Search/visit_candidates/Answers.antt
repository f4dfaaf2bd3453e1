use Rattle.std.proofs.Common.{◌≡◌, ◌<◌, ◌+◌, ◌-◌, ℕ, List, [], drop, get_or, map, length, refl, sym, ap, subst, arith, inr}
use Rattle.std.specs.Prelude.{MatchOption, fold}
use Rattle.std.specs.declared.option.Option.{Option}
use Rattle.psi_spec.specs.Picking.{Visit as Way, choices_of, led_to, numbered}
use Rattle.psi_cuckoo.specs.Table.{IsTask, IsTable, Names, slot_of}
use Rattle.psi_cuckoo.specs.Picks.{way_at, ways_of}
use Rattle.psi_cuckoo.specs.Search.{ComesTo, Extends, IsFirstPath, IsForest, IsLed, IsReached, NoneFree, visit_at}
use Rattle.psi_cuckoo.specs.declared.search.Path.{Path}
use Rattle.psi_cuckoo.specs.declared.search.Search.{Search}
use Rattle.psi_cuckoo.specs.declared.search.Visit.{Visit}
use Rattle.psi_cuckoo.specs.declared.table.Table.{Table}
use Rattle.psi_cuckoo.specs.declared.table.Task.{Task}
use Rattle.psi_cuckoo.proofs.Paths.{extends_twice, forest_of_visit, named_upto, reached_more, visit_extends, visit_reaches, visit_read}
use Rattle.psi_cuckoo.proofs.Picks.{candidate_step, no_led}
use Rattle.psi_cuckoo.proofs.Found.{told_begins}
use Rattle.psi_cuckoo.proofs.search.Search.visit_candidates.Goals as goal

-- what is known once the item at one more candidate was visited
record IsNext (task : Task) (table : Table) (start : Search) (old new : Search) (at index row : ℕ) : Type 0 where
  forest : IsForest task table new
  grows : Extends start.visits.items new.visits.items
  reached : IsReached table.occupants.items new.visits.items row
  more : Extends old.visits.items new.visits.items
  ways : (told : List Way)
      → told ≡ fold (led_to (map slot_of table.slots.items) (way_at (ways_of (task.bins + task.stash) table.slots.items start.visits.items) at)) (ways_of (task.bins + task.stash) table.slots.items old.visits.items) (numbered index (drop (index - 1) (get_or task.candidates.now (visit_at start.visits.items at).item [])))
      → told ≡ fold (led_to (map slot_of table.slots.items) (way_at (ways_of (task.bins + task.stash) table.slots.items start.visits.items) at)) (ways_of (task.bins + task.stash) table.slots.items new.visits.items) (numbered (index + 1) (drop (index + 1 - 1) (get_or task.candidates.now (visit_at start.visits.items at).item [])))

next_of : (task : Task) (table : Table) (start old new : Search) (at index row : ℕ) → IsTask task → IsTable task table → IsForest task table start → IsForest task table old → at < length start.visits.items → Extends start.visits.items old.visits.items → Names task.candidates.now (visit_at start.visits.items at).item index row → ComesTo table old new row at index → IsNext task table start old new at index row
next_of task table start old new at index row is seated begun forest within grows named came =
    let bins = task.bins in
    let candidates = task.candidates.now in
    let slots = table.slots.items in
    let occupants = table.occupants.items in
    let first = start.visits.items in
    let item = came.item in
    let visit : Visit = record { item = item; parent = at; index = index } in
    let standing = seated.standing in
    let there = standing.holds row item came.stands in
    let same : (visit_at first at).item ≡ (visit_at old.visits.items at).item = ap (λ (v : Visit). v.item) (sym (grows.same at within)) in
    let led = subst (IsLed bins candidates old.visits.items (length old.visits.items) at index) (sym there.1) (inr (omega (arith, grows.longer, within), subst (λ (i : ℕ). Names candidates i index row) same named)) in
    let more = visit_extends bins candidates slots occupants old new visit came.adds in
    let waiting : ℕ = bins + task.stash in
    let parent : ℕ = (visit_at first at).item in
    let three = is.three parent (omega (arith, begun.each at within, begun.few)) in
    record {
      forest = forest_of_visit bins candidates slots occupants old new visit came.adds forest there.0 led;
      grows = extends_twice first old.visits.items new.visits.items grows more;
      reached = visit_reaches bins candidates slots occupants old new visit came.adds row came.stands;
      more = more;
      ways = λ told so_far. candidate_step waiting slots candidates occupants first told old new parent item at index row standing three named refl within grows came.adds came.stands so_far;
    }

pub reach-requires-clause-inside : goal.reach-requires-clause-inside
reach-requires-clause-inside c =
    let low : c.candidate-row.result < c.args.task.now.bins = c.requires.task.named c.index.result.now.item c.loop-index.index c.candidate-row.result c.candidate-row.ensures in
    omega (arith, c.requires.table.rows)

named_of : (candidates : List (List ℕ)) (first : List Visit) (at index row : ℕ) (visit : Visit) → visit ≡ get_or first at visit → at < length first → Names candidates visit.item index row → Names candidates (visit_at first at).item index row
named_of candidates first at index row visit read within named = subst (λ (v : Visit). Names candidates v.item index row) (visit_read first at visit read within) named

pub returns-in-Some-clause-forest : goal.returns-in-Some-clause-forest
returns-in-Some-clause-forest c =
    let named = named_of c.args.task.now.candidates.now c.args.self.now.visits.items c.args.at c.loop-index.index c.candidate-row.result c.index.result.now c.index.ensures c.requires.at c.candidate-row.ensures in
    (next_of c.args.task.now c.args.table.now c.args.self.now c.loop-index.self c.reach.new.self c.args.at c.loop-index.index c.candidate-row.result c.requires.task c.requires.table c.requires.forest c.loop-index.invariant.forest c.requires.at c.loop-index.invariant.grows named c.in_ok-path.ensures.came).forest

pub returns-in-Some-clause-grows : goal.returns-in-Some-clause-grows
returns-in-Some-clause-grows c =
    let named = named_of c.args.task.now.candidates.now c.args.self.now.visits.items c.args.at c.loop-index.index c.candidate-row.result c.index.result.now c.index.ensures c.requires.at c.candidate-row.ensures in
    (next_of c.args.task.now c.args.table.now c.args.self.now c.loop-index.self c.reach.new.self c.args.at c.loop-index.index c.candidate-row.result c.requires.task c.requires.table c.requires.forest c.loop-index.invariant.forest c.requires.at c.loop-index.invariant.grows named c.in_ok-path.ensures.came).grows

pub returns-in-Some-clause-begins : goal.returns-in-Some-clause-begins
returns-in-Some-clause-begins c =
    let task = c.args.task.now in
    let slots = c.args.table.now.slots.items in
    let first = c.args.self.now.visits.items in
    let waiting : ℕ = task.bins + task.stash in
    let index = c.loop-index.index in
    let parent : ℕ = (visit_at first c.args.at).item in
    let named = named_of task.candidates.now first c.args.at index c.candidate-row.result c.index.result.now c.index.ensures c.requires.at c.candidate-row.ensures in
    let next = next_of task c.args.table.now c.args.self.now c.loop-index.self c.reach.new.self c.args.at index c.candidate-row.result c.requires.task c.requires.table c.requires.forest c.loop-index.invariant.forest c.requires.at c.loop-index.invariant.grows named c.in_ok-path.ensures.came in
    let way : Way = way_at (ways_of waiting slots first) c.args.at in
    let told : List Way = fold (led_to (map slot_of slots) way) (ways_of waiting slots first) (choices_of task.candidates.now parent) in
    told_begins (map slot_of slots) way told (ways_of waiting slots c.reach.new.self.visits.items) (numbered (index + 1) (drop (index + 1 - 1) (get_or task.candidates.now parent []))) (next.ways told c.loop-index.invariant.ways)

pub loop-index-preserved : goal.loop-index-preserved
loop-index-preserved c =
    let task = c.args.task.now in
    let slots = c.args.table.now.slots.items in
    let occupants = c.args.table.now.occupants.items in
    let first = c.args.self.now.visits.items in
    let old = c.loop-index.self in
    let new = c.reach.new.self in
    let waiting : ℕ = task.bins + task.stash in
    let index = c.loop-index.index in
    let row = c.candidate-row.result in
    let parent : ℕ = (visit_at first c.args.at).item in
    let named = named_of task.candidates.now first c.args.at index row c.index.result.now c.index.ensures c.requires.at c.candidate-row.ensures in
    let next = next_of task c.args.table.now c.args.self.now old new c.args.at index row c.requires.task c.requires.table c.requires.forest c.loop-index.invariant.forest c.requires.at c.loop-index.invariant.grows named c.in_ok-path.ensures.came in
    let told : List Way = fold (led_to (map slot_of slots) (way_at (ways_of waiting slots first) c.args.at)) (ways_of waiting slots first) (choices_of task.candidates.now parent) in
    record {
      forest = next.forest;
      grows = next.grows;
      reached = named_upto task.candidates.now parent index row (IsReached occupants new.visits.items)
          (λ i r l h. reached_more occupants old.visits.items new.visits.items r next.more (c.loop-index.invariant.reached i r l h))
          named next.reached;
      taken = subst (λ (o : Option Path). MatchOption o (NoneFree task c.args.table.now new) (λ path. IsFirstPath task c.args.table.now new path)) c.in_default.is c.in_ok-path.ensures.found;
      ways = next.ways told c.loop-index.invariant.ways;
    }

pub returns-clause-reached : goal.returns-clause-reached
returns-clause-reached c i r named = c.loop-index.invariant.reached i r (omega (arith, named.1)) named

pub returns-clause-begins : goal.returns-clause-begins
returns-clause-begins c =
    let task = c.args.task.now in
    let slots = c.args.table.now.slots.items in
    let first = c.args.self.now.visits.items in
    let waiting : ℕ = task.bins + task.stash in
    let index = c.loop-index.index in
    let parent : ℕ = (visit_at first c.args.at).item in
    let way : Way = way_at (ways_of waiting slots first) c.args.at in
    let told : List Way = fold (led_to (map slot_of slots) way) (ways_of waiting slots first) (choices_of task.candidates.now parent) in
    told_begins (map slot_of slots) way told (ways_of waiting slots c.loop-index.self.visits.items) (numbered index (drop (index - 1) (get_or task.candidates.now parent []))) c.loop-index.invariant.ways

pub returns-clause-ways : goal.returns-clause-ways
returns-clause-ways c =
    let first = c.args.self.now.visits.items in
    let slots = c.args.table.now.slots.items in
    let waiting : ℕ = c.args.task.now.bins + c.args.task.now.stash in
    let parent : ℕ = (visit_at first c.args.at).item in
    let three = c.requires.task.three parent (omega (arith, c.requires.forest.each c.args.at c.requires.at, c.requires.forest.few)) in
    let way : Way = way_at (ways_of waiting slots first) c.args.at in
    let told : List Way = fold (led_to (map slot_of slots) way) (ways_of waiting slots first) (choices_of c.args.task.now.candidates.now parent) in
    no_led c.args.task.now.candidates.now (map slot_of slots) way told (ways_of waiting slots c.loop-index.self.visits.items) parent c.loop-index.index three c.loop-index-test.false c.loop-index.invariant.ways
