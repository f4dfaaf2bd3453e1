use Rattle.std.proofs.Common.{◌≡◌, Some, arith, ◌∙◌}
use Rattle.psi_cuckoo.specs.Table.{occupant_at}
use Rattle.psi_cuckoo.proofs.Paths.{occupant_read}
use Rattle.psi_cuckoo.proofs.search.Search.reach.Goals as goal

pub visit-requires-clause-item : goal.visit-requires-clause-item
visit-requires-clause-item c =
    let occupants = c.args.table.now.occupants.items in
    let stands : occupant_at occupants c.args.row ≡ Some c.in-Some.item = occupant_read occupants c.args.row c.index.result.now c.index.ensures c.requires.inside ∙ c.in-Some.is in
    let forest = c.requires.forest in
    omega (arith, (c.requires.table.standing.holds c.args.row c.in-Some.item stands).0, forest.few, forest.long)

pub free_candidate-requires-clause-item : goal.free_candidate-requires-clause-item
free_candidate-requires-clause-item c =
    let occupants = c.args.table.now.occupants.items in
    let stands : occupant_at occupants c.args.row ≡ Some c.in-Some.item = occupant_read occupants c.args.row c.index.result.now c.index.ensures c.requires.inside ∙ c.in-Some.is in
    omega (arith, (c.requires.table.standing.holds c.args.row c.in-Some.item stands).0, c.requires.forest.few)
