use Rattle.std.proofs.Common.{ℕ, List, Option, subst, sym}
use Rattle.psi_local.specs.Local.{local_set}
use Rattle.psi_local.specs.Transcript.{IsPlayed, log_of}
use Rattle.psi_walk.specs.Tree.{End}
use Rattle.psi_walk.specs.Walk.{Runs}
use Rattle.psi_local.proofs.Played.{length-played, played_on}
use Rattle.psi_local.proofs.local.place_and_play.Goals as goal

pub show_and_keep-rest-requires : goal.show_and_keep-rest-requires
show_and_keep-rest-requires g c =
    let deals = c.in_ok-deals.deals in
    let slots = c.in_ok-placement.placement in
    length-played deals.0 deals.1 c.args.x.now slots c.args.y.now (log_of c.in_ok-log.log) c.in_ok-played.played c.in_ok-placement.ensures.placed c.in_ok-played.ensures

pub returns : goal.returns
returns g c =
    let known = g.W.World.known in
    let words = c.args.words.now in
    let xs = c.args.x.now in
    let ys = c.args.y.now in
    let deals = c.in_ok-deals.deals in
    let slots = c.in_ok-placement.placement in
    let before = g.W.World.outside c.args.world.now in
    let after = g.W.World.outside c.show_and_keep-rest.new.world in
    subst (λ (end : End). Runs known words (local_set words xs ys) before end) (sym (c.placed_outcome.ensures after))
    (played_on known words xs slots ys deals.0 deals.1 c.in_ok-played.played before after c.show_and_keep-rest.result c.in_ok-deals.ensures.receiver
    c.in_ok-deals.ensures.sender c.in_ok-placement.ensures.places c.in_ok-placement.ensures.placed
    (subst (λ (front : Option (List ℕ)). IsPlayed deals.0 deals.1 xs slots ys front c.in_ok-played.played) c.in_ok-log.ensures c.in_ok-played.ensures)
    c.show_and_keep-rest.ensures)
