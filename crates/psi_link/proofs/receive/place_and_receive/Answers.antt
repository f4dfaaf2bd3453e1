use Rattle.psi_link.specs.Receive.{receive_rest}
use Rattle.psi_walk.specs.Placing.{placing_of}
use Rattle.psi_walk.specs.Walk.{status_of}
use Rattle.psi_link.proofs.Heard.{then_placed}
use Rattle.psi_link.proofs.ReceiveLaws.{rest_places_none}
use Rattle.psi_link.proofs.receive.place_and_receive.Goals as goal

pub returns : goal.returns
returns g c =
    let before = g.W.World.outside c.args.world.now in
    let after = g.W.World.outside c.receive_rest-rest.new.world in
    then_placed g.W.World.known c.args.words.now 2 (placing_of c.args.deal.now c.args.items.now)
    (λ slots. receive_rest c.args.words.now c.args.items.now c.args.deal.now slots) before after c.in_ok-placement.placement c.status.result
    (status_of c.receive_rest-rest.result) c.status.ensures
    (rest_places_none c.args.words.now c.args.items.now c.args.deal.now c.in_ok-placement.placement) c.in_ok-placement.ensures.places c.receive_rest-rest.ensures
