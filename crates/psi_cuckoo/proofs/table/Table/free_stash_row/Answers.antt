use Rattle.std.proofs.Common.{◌≡◌, ◌<◌, ◌≤◌, ◌+◌, ℕ, None, Some, length, map, ap, sym, ◌∙◌, subst, arith, ⊎_elim}
use Rattle.std.specs.Prelude.{IsSome}
use Rattle.std.proofs.lemmas.Bool.{cases_eq}
use Rattle.psi_spec.specs.Picking.{first_free}
use Rattle.psi_cuckoo.specs.Table.{occupant_at, slot_of}
use Rattle.psi_cuckoo.proofs.Paths.{occupant_read}
use Rattle.psi_cuckoo.proofs.Picks.{none_when, some_is, some_when, stash_end, stash_free, stash_taken}
use Rattle.psi_cuckoo.proofs.table.Table.free_stash_row.Goals as goal

pub returns-then-is_none-clause-first : goal.returns-then-is_none-clause-first
returns-then-is_none-clause-first c =
    let occupants = c.args.self.now.occupants.items in
    let row = c.loop-row.row in
    let end : ℕ = c.args.task.now.bins + c.args.task.now.stash in
    let below : row < end = c.loop-row-test.true in
    let inside : row < length occupants = omega (arith, c.requires.rows) in
    let free : occupant_at occupants row ≡ None = occupant_read occupants row c.index.result.now c.index.ensures inside ∙ none_when c.index.result.now c.is_none.result c.is_none.ensures c.if-is_none.true in
    c.loop-row.invariant.first ∙ (stash_free c.args.self.now.slots.items occupants row end c.requires.standing below free)

pub loop-row-preserved : goal.loop-row-preserved
loop-row-preserved c =
    let occupants = c.args.self.now.occupants.items in
    let row = c.loop-row.row in
    let end : ℕ = c.args.task.now.bins + c.args.task.now.stash in
    let below : row < end = c.loop-row-test.true in
    let inside : row < length occupants = omega (arith, c.requires.rows) in
    let found = some_when c.index.result.now c.is_none.result c.is_none.ensures c.if-is_none.false in
    let stands : occupant_at occupants row ≡ Some found.0 = occupant_read occupants row c.index.result.now c.index.ensures inside ∙ found.1 in
    record {
      full = λ r low high. ⊎_elim
          (λ e. subst (λ (n : ℕ). IsSome (occupant_at occupants n)) (sym e) (some_is (occupant_at occupants row) found.0 stands))
          (λ ne. c.loop-row.invariant.full r low (omega arith))
          (cases_eq r row);
      first = c.loop-row.invariant.first ∙ stash_taken c.args.self.now.slots.items occupants row end c.requires.standing found.0 below stands;
    }

pub returns-clause-first : goal.returns-clause-first
returns-clause-first c =
    let end : ℕ = c.args.task.now.bins + c.args.task.now.stash in
    let past : end ≤ c.loop-row.row = c.loop-row-test.false in
    c.loop-row.invariant.first ∙ (ap (first_free (map slot_of c.args.self.now.slots.items)) (stash_end c.loop-row.row end past))
