use Rattle.std.proofs.Common.{◌≡◌, ◌∙◌, List, Err, None, ap, length, subst, sym}
use Rattle.std.specs.declared.result.Result.{Result}
use Rattle.std.proofs.lemmas.Result.{err_from_is_err_and}
use Rattle.psi_spec.specs.Limits.{bins_for}
use Rattle.psi_spec.specs.Meeting.{Placed, placed_of}
use Rattle.psi_spec.proofs.Dealing.{length-placement}
use Rattle.psi_receiver.specs.Laws.{receiver_dialogue}
use Rattle.psi_link.specs.Receive.{receive_rest, shows_and_keeps}
use Rattle.psi_walk.specs.Tree.{ends, holds, stopped, talks}
use Rattle.psi_walk.specs.Walk.{Runs, status_of}
use Rattle.psi_texts.specs.declared.status.Status.{Status}
use Rattle.psi_texts.specs.declared.status.Status.TheVariants as status
use Rattle.psi_link.proofs.Heard.{session_on}
use Rattle.psi_spec.proofs.Placing.{length-placed_of}
use Rattle.psi_walk.proofs.Walks.{starves}
use Rattle.psi_link.proofs.receive.receive_rest.Goals as goal

pub returns-in_err-end : goal.returns-in_err-end
returns-in_err-end g c =
    let known = g.W.World.known in
    let words = c.args.words.now in
    let before = g.W.World.outside c.args.world.now in
    let tree = receive_rest words c.args.items.now c.args.deal.now c.args.placement.now in
    let failed = err_from_is_err_and c.from_residual.result c.from_residual.ensures.1 in
    let same : c.from_residual.result ≡ Err status.NoMemory = failed.1 ∙ ap Err (failed.2 ∙ c.in_err-end.ensures.fails) in
    subst (λ (r : Result (Unit {0}) Status). Runs known words tree before (stopped (status_of r) before)) (sym same) (starves known words tree before tt)

pub show_and_keep-requires : goal.show_and_keep-requires
show_and_keep-requires g c =
    let deal = c.args.deal.now in
    let xs = c.args.items.now in
    let slots = c.args.placement.now in
    let long = length-placement deal.stash deal.key (bins_for (length xs)) xs slots c.requires.placed in
    c.in_ok-converse.ensures.marks ∙ ap (λ (placed : List Placed). length placed) c.in_ok-end.ensures.placed ∙ length-placed_of xs slots long

pub returns : goal.returns
returns g c =
    let known = g.W.World.known in
    let words = c.args.words.now in
    let deal = c.args.deal.now in
    let xs = c.args.items.now in
    let slots = c.args.placement.now in
    let end = c.in_ok-end.end in
    let new = c.converse.new.end in
    let opened = g.W.World.outside c.open_link.new.world in
    let talked = g.W.World.outside c.converse.new.world in
    let last = stopped (status_of c.show_and_keep.result) (g.W.World.outside c.show_and_keep.new.world) in
    c.in_ok-open_link.ensures.steps (talks (receiver_dialogue deal (placed_of xs slots)) (λ taken. holds (ends None (shows_and_keeps xs deal slots taken)))) last
    (session_on known words xs deal slots end.core.deal end.core.placed end.log new.core.shown new.log opened talked last c.requires.deal c.requires.placed
    c.in_ok-end.ensures.deal c.in_ok-end.ensures.placed c.in_ok-end.ensures.log (c.in_ok-converse.ensures.session words) c.show_and_keep.ensures)
