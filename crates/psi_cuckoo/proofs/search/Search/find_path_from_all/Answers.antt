use Rattle.std.proofs.Common.{◌≡◌, ◌<◌, ◌+◌, ℕ, List, ap, length, map, subst, sym, ◌∙◌, arith}
use Rattle.std.specs.declared.option.Option.{Option}
use Rattle.std.specs.Prelude.{IfNone, MatchOption}
use Rattle.psi_spec.specs.Placement.{Slot}
use Rattle.psi_spec.specs.Picking.{Visit as Way, walk}
use Rattle.psi_cuckoo.specs.Picks.{first_ways, waiting_way, ways_of}
use Rattle.psi_cuckoo.specs.Table.{LeadsToFree, slot_of}
use Rattle.psi_cuckoo.specs.Search.{AllFollowed, IsClosed, IsFirstPath, NoneFree, StashReached, visit_at}
use Rattle.psi_cuckoo.specs.declared.search.Path.{Path}
use Rattle.psi_cuckoo.proofs.Found.{walk_first_path}
use Rattle.psi_cuckoo.proofs.Paths.{match_more, reached_more, visits_fit}
use Rattle.psi_cuckoo.proofs.search.Search.find_path_from_all.Goals as goal

pub returns-in-Some-clause-found : goal.returns-in-Some-clause-found
returns-in-Some-clause-found c =
    let task = c.args.task.now in
    let table = c.args.table.now in
    let new = c.visit_stash.new.self in
    let found = subst (λ (o : Option Path). MatchOption o (NoneFree task table new) (λ path. IsFirstPath task table new path)) c.in-Some.is c.in_ok-path.ensures.found in
    (found.within, found.leads)

-- a path that ends with an item of the stash
pub returns-in-Some-clause-way : goal.returns-in-Some-clause-way
returns-in-Some-clause-way c =
    let task = c.args.task.now in
    let table = c.args.table.now in
    let slots = table.slots.items in
    let new = c.visit_stash.new.self in
    let told = c.in_ok-path.ensures in
    let found = subst (λ (o : Option Path). MatchOption o (NoneFree task table new) (λ path. IsFirstPath task table new path)) c.in-Some.is told.found in
    let fits = visits_fit task.bins task.candidates.now slots new.visits.items new.numbers.items told.forest in
    walk_first_path task table new c.in-Some.path (length slots) 0 (first_ways task.stash task.bins (map slot_of slots) (waiting_way slots)) c.requires.task c.requires.table told.forest found told.begins (omega arith) (omega (arith, found.within))

pub go_on-requires-clause-taken : goal.go_on-requires-clause-taken
go_on-requires-clause-taken c =
    let task = c.args.task.now in
    let table = c.args.table.now in
    let new = c.visit_stash.new.self in
    subst (λ (o : Option Path). MatchOption o (NoneFree task table new) (λ path. IsFirstPath task table new path)) c.in_default.is c.in_ok-path.ensures.found

pub returns-clause-found : goal.returns-clause-found
returns-clause-found c =
    let occupants = c.args.table.now.occupants.items in
    let candidates = c.args.task.now.candidates.now in
    let old = c.visit_stash.new.self.visits.items in
    let new = c.go_on.new.self.visits.items in
    let stashed = subst (λ (o : Option Path). IfNone o (StashReached c.args.task.now c.args.table.now c.visit_stash.new.self)) c.in_default.is c.in_ok-path.ensures.reached in
    let closed : AllFollowed candidates occupants new → IsClosed (c.args.task.now.stash + 1) c.args.task.now.bins candidates occupants new = λ named. record {
      stashed = λ row low high. reached_more occupants old new row c.in_ok-found.ensures.grows (stashed row low high);
      named = named;
    } in
    match_more (λ (path : Path). (path.last < length new) × LeadsToFree candidates occupants (visit_at new path.last).item path.index) c.in_ok-found.found closed c.in_ok-found.ensures.found

pub returns-clause-way : goal.returns-clause-way
returns-clause-way c =
    let task = c.args.task.now in
    let slots = c.args.table.now.slots.items in
    let waiting : ℕ = task.bins + task.stash in
    let seats : List Slot = map slot_of slots in
    let first : List Way = first_ways task.stash task.bins seats (waiting_way slots) in
    let ways = subst (λ (o : Option Path). IfNone o (ways_of waiting slots c.visit_stash.new.self.visits.items ≡ first)) c.in_default.is c.in_ok-path.ensures.ways in
    ap (walk (length slots) task.candidates.now seats 0) (sym ways) ∙ c.in_ok-found.ensures.way
