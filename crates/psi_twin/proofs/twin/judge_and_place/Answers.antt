use Rattle.std.proofs.Common.{◌≡◌, ◌∙◌, Err, ap, subst, sym}
use Rattle.std.specs.declared.result.Result.{Result}
use Rattle.std.proofs.lemmas.Result.{err_from_is_err_and}
use Rattle.psi_walk.specs.Tree.{Tree, end_of, stopped}
use Rattle.psi_walk.specs.Walk.{Runs, status_of}
use Rattle.psi_walk.specs.declared.outcome.Outcome.{Outcome}
use Rattle.psi_texts.specs.declared.status.Status.{Status}
use Rattle.psi_twin.specs.Twin.{twin_first, twin_rest, twin_sets, twins_in}
use Rattle.psi_twin.proofs.TwinSteps.{both_placed, rest_tree, second_unplaced}
use Rattle.psi_walk.proofs.Walks.{settled}
use Rattle.psi_twin.proofs.twin.judge_and_place.Goals as goal

pub returns-in_err-other : goal.returns-in_err-other
returns-in_err-other g c =
    let known = g.W.World.known in
    let words = c.args.words.now in
    let xs = c.args.x.now in
    let others = c.args.others.now in
    let receiver = c.args.deals.now.0 in
    let sender = c.args.deals.now.1 in
    let before = g.W.World.outside c.args.world.now in
    let why : Status = c.in_err-other.field-0.0 in
    let failed = err_from_is_err_and c.from_residual-in_err-other.result c.from_residual-in_err-other.ensures.1 in
    let same : c.from_residual-in_err-other.result ≡ Err why = failed.1 ∙ ap Err failed.2 in
    subst (λ (r : Result Outcome Status). Runs known words (twin_sets receiver sender xs others) before (end_of r before)) (sym same)
    (settled (twins_in receiver sender xs others) c.in_ok-judge_twins.field-0 c.in_ok-judge_twins.ensures.settles known words before
    (λ _. twin_first receiver sender xs others) (stopped why before)
    (second_unplaced known words receiver sender xs c.in_ok-placement.placement others before why c.in_ok-placement.ensures.places c.in_err-other.ensures.places))

pub returns : goal.returns
returns g c =
    let known = g.W.World.known in
    let words = c.args.words.now in
    let xs = c.args.x.now in
    let others = c.args.others.now in
    let receiver = c.args.deals.now.0 in
    let sender = c.args.deals.now.1 in
    let slots = c.in_ok-placement.placement in
    let other_slots = c.in_ok-other.other in
    let before = g.W.World.outside c.args.world.now in
    let after = g.W.World.outside c.write_files-rest.new.world in
    let due : Status = status_of c.write_files-rest.result in
    let rest : Runs known words (twin_rest receiver sender xs slots others other_slots) before (stopped due after) =
    subst (λ (tree : Tree). Runs known words tree before (stopped due after))
    (rest_tree receiver sender xs slots others other_slots c.len.result c.in_ok-placement.first c.in_ok-other.second c.in_ok-placement.ensures.placed c.len.ensures.len
    c.in_ok-placement.ensures.words c.in_ok-other.ensures.words)
    c.write_files-rest.ensures in
    settled (twins_in receiver sender xs others) c.in_ok-judge_twins.field-0 c.in_ok-judge_twins.ensures.settles known words before
    (λ _. twin_first receiver sender xs others) _
    (both_placed known words receiver sender xs slots others other_slots before after c.status.result due c.status.ensures c.in_ok-placement.ensures.places
    c.in_ok-other.ensures.places rest)
