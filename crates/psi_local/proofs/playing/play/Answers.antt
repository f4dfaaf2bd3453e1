use Rattle.std.proofs.Common.{[], Option, ap, arith, length}
use Rattle.psi_log.specs.Recording.{RecorderState}
use Rattle.psi_sender.specs.Running.{SenderState}
use Rattle.psi_session.proofs.Exchanged.{few_placed}
use Rattle.psi_local.specs.Transcript.{log_of}
use Rattle.psi_local.proofs.Played.{is_played, went_nowhere}
use Rattle.psi_local.proofs.playing.play.Goals as goal

pub exchange-requires-clause-few_of_receiver : goal.exchange-requires-clause-few_of_receiver
exchange-requires-clause-few_of_receiver c =
    let placed = c.in_ok-receiver.ensures.placed in
    omega (arith, ap (λ all. length all) placed, few_placed c.args.x.now c.args.placement.now, c.requires.few)

pub returns : goal.returns
returns c =
    let deals = c.args.deals.now in
    let slots = c.args.placement.now in
    let end = c.in_ok-receiver.receiver in
    let peer = c.new-sender.result in
    let first = c.begin-transcript.result in
    is_played deals.0 end.deal deals.1 peer.deal c.args.x.now slots end.placed c.args.y.now peer.items (log_of c.args.log) first
    (record { receiver = c.exchange.new.receiver; transcript = c.exchange.new.transcript }) c.in_ok-receiver.ensures.deal
    (ap (λ (s : SenderState). s.deal) c.new-sender.ensures.state) c.in_ok-receiver.ensures.placed (ap (λ (s : SenderState). s.items) c.new-sender.ensures.state)
    c.in_ok-exchange.ensures.shown c.begin-transcript.ensures.hash
    (ap (λ (l : Option RecorderState). log_of l) c.begin-transcript.ensures.log)
    (c.in_ok-exchange.ensures.heard first [] (went_nowhere first))
