use Rattle.std.proofs.Common.{◌≡◌, ◌∙◌, Err, None, false, ap, subst, sym}
use Rattle.std.specs.declared.result.Result.{Result}
use Rattle.std.proofs.lemmas.Result.{err_from_is_err_and}
use Rattle.psi_spec.specs.Changes.{change, columns_file}
use Rattle.psi_spec.specs.ColumnSets.{masked_columns}
use Rattle.psi_spec.specs.Streams.{columns_stream}
use Rattle.psi_walk.specs.Tree.{ends, stopped}
use Rattle.psi_twin.specs.Twin.{dealt_for, files_of_words}
use Rattle.psi_walk.specs.Walk.{Runs, status_of}
use Rattle.psi_texts.specs.declared.status.Status.{Status}
use Rattle.psi_texts.specs.declared.status.Status.TheVariants as status
use Rattle.psi_twin.proofs.TwinSteps.{both_written}
use Rattle.psi_walk.proofs.Walks.{starves}
use Rattle.psi_twin.proofs.twin.write_files.Goals as goal

pub returns-in_err-files : goal.returns-in_err-files
returns-in_err-files g c =
    let known = g.W.World.known in
    let words = c.args.words.now in
    let before = g.W.World.outside c.args.world.now in
    let tree = ends None (files_of_words c.args.deals.now.0 c.args.deals.now.1 c.args.count c.args.first c.args.second) in
    let failed = err_from_is_err_and c.from_residual.result c.from_residual.ensures.1 in
    let same : c.from_residual.result ≡ Err status.NoMemory = failed.1 ∙ ap Err failed.2 in
    subst (λ (r : Result (Unit {0}) Status). Runs known words tree before (stopped (status_of r) before)) (sym same) (starves known words tree before tt)

pub returns : goal.returns
returns g c =
    let receiver = c.args.deals.now.0 in
    let sets = dealt_for receiver c.args.count in
    let before = g.W.World.outside c.args.world.now in
    let mid = g.W.World.outside c.write_word.new.world in
    let after = g.W.World.outside c.write_word-2.new.world in
    both_written g.W.World.known c.args.words.now before mid after c.deref.result.now
    (columns_stream receiver.id receiver.session c.args.count (masked_columns c.args.first sets)) c.deref-2.result.now
    (columns_file (change c.args.deals.now.1.choice c.args.first c.args.second sets)) c.in_ok-write_word.field-0 c.in_ok-write_word-2.field-0
    (c.deref.ensures.value ∙ c.in_ok-files.ensures.stream) (c.deref-2.ensures.value ∙ c.in_ok-files.ensures.columns)
    (c.in_ok-write_word.ensures false) (c.in_ok-write_word-2.ensures false)
