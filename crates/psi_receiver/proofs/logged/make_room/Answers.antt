use Rattle.std.proofs.Common.{◌+◌, ◌≤◌, ap, rules, subst, ◌∙◌}
use Rattle.psi_spec.specs.Deals.{ReceiverDeal}
use Rattle.psi_spec.specs.Frames.{Frame}
use Rattle.psi_frames.specs.Expected.{seen}
use Rattle.psi_receiver.specs.Logging.{answer_size}
use Rattle.psi_receiver.proofs.Coming.{is_hello}
use Rattle.psi_receiver.proofs.Wires.{hello_is_first, hello_room, not_first, room_for}
use Rattle.psi_receiver.proofs.logged.make_room.Goals as goal

pub returns-in_err-reserve-clause-early : goal.returns-in_err-reserve-clause-early
returns-in_err-reserve-clause-early c =
    let f : Frame = seen c.args.frame.now in
    let new = hello_is_first c.args.core.now f _ _ _ c.requires.due (ap seen c.in-SenderHello.is) in
    search rules

pub returns-in_ok-reserve-clause-room : goal.returns-in_ok-reserve-clause-room
returns-in_ok-reserve-clause-room c =
    let f : Frame = seen c.args.frame.now in
    let spare = c.reserve.new.self.spare in
    let exact = ap (λ (d : ReceiverDeal). answer_size c.rows.result d.tag_length c.in-SenderHello.count (3 + d.stash)) c.deal.ensures in
    let hello = subst (λ head. head + c.most_after_hello-most.result ≤ spare) c.from.ensures c.in_ok-reserve.ensures.room in
    let room = subst (λ n. 34 + n ≤ spare) (c.most_after_hello-most.ensures.exact ∙ exact) hello in
    hello_room c.args.core.now f _ _ c.in-SenderHello.count c.rows.result spare c.requires.due (ap seen c.in-SenderHello.is) c.rows.ensures room

pub returns-in_default : goal.returns-in_default
returns-in_default c =
    let f : Frame = seen c.args.frame.now in
    let new = not_first c.args.core.now f c.requires.due (λ id session count. is_hello c.args.frame.now id session count c.in_default.not-SenderHello) in
    record {
      bytes = search rules;
      room = room_for _ f c.args.log.now.spare c.requires.due (c.requires.all new);
      kept = tt;
      early = tt;
    }
