use Rattle.std.proofs.Common.{◌≡◌, ◌≤◌, ◌+◌, ◌∙◌, [], length, Some, None, sym, ap, subst, refl, arith}
use Rattle.std.specs.Prelude.{IfOk}
use Rattle.psi_spec.specs.Limits.{bins_for}
use Rattle.psi_spec.specs.Meeting.{placed_of}
use Rattle.psi_spec.specs.Records.{IsWire}
use Rattle.psi_spec.specs.SessionLaws.{pair_setup}
use Rattle.psi_spec.specs.Sessions.{session_bytes}
use Rattle.psi_spec.proofs.Dealing.{length-placement}
use Rattle.psi_spec.proofs.Placing.{length-placed_of}
use Rattle.psi_receiver.specs.Receiving.{hits_of}
use Rattle.psi_receiver.proofs.Hearing.{width_of}
use Rattle.psi_spec.specs.Sessions.{dealt_lists}
use Rattle.psi_audit.specs.Comparing.{IsCompared}
use Rattle.psi_audit.specs.Verdicts.{consistent}
use Rattle.psi_audit.specs.declared.verdict.Verdict.TheVariants.{Differs}
use Rattle.psi_audit.proofs.Judged.{differs_verdict, heard_is, hits_are_shown, inside_wire, same_verdict, session_of}
use Rattle.psi_audit.proofs.Wired.{session_is_wire}
use Rattle.psi_audit.proofs.judging.replay.Goals as goal

pub exchange-requires-clause-few_of_receiver : goal.exchange-requires-clause-few_of_receiver
exchange-requires-clause-few_of_receiver c =
    let i = c.args.inputs.now in
    let long = length-placement i.receiver.now.stash i.receiver.now.key (bins_for (length i.own.now)) i.own.now i.placement.now c.requires.inputs.placed in
    omega (arith, ap length c.in_ok-receiver.ensures.placed, length-placed_of i.own.now i.placement.now long, c.len.ensures.items.few)

pub overflow_add-result : goal.overflow_add-result
overflow_add-result c =
    let i = c.args.inputs.now in
    let log = c.args.log.now in
    let comparison = c.new-comparison.result in
    let session' = session_bytes c.in_ok-receiver.receiver.deal c.new-sender.result.deal c.in_ok-receiver.receiver.placed c.new-sender.result.items in
    let heard = c.in_ok-exchange.ensures.heard comparison [] (subst (λ r. IsCompared r [] comparison) (sym c.new-comparison.ensures.bytes_are) c.new-comparison.ensures) in
    let is = heard_is comparison.recorded log.wire session' session' c.exchange.new.transcript (Some c.in-Some.difference) (c.new-comparison.ensures.bytes_are ∙ c.wire.ensures.wire) refl heard (sym c.in-Some.is ∙ c.difference.ensures) in
    let inside = inside_wire log.wire session' c.in-Some.difference is in
    let long = length-placement i.receiver.now.stash i.receiver.now.key (bins_for (length i.own.now)) i.own.now i.placement.now c.requires.inputs.placed in
    omega (arith, inside, ap length c.wire.ensures.wire, c.wire.type_inv.1, ap length c.requires.slots, long, c.requires.inputs.few, c.wire_offset.ensures)

pub returns-in-Some : goal.returns-in-Some
returns-in-Some c =
    let i = c.args.inputs.now in
    let log = c.args.log.now in
    let comparison = c.new-comparison.result in
    let d = c.in-Some.difference in
    let deal = c.in_ok-receiver.ensures.deal in
    let placed = c.in_ok-receiver.ensures.placed ∙ ap (placed_of i.own.now) c.requires.slots in
    let other = ap (λ z. z.deal) c.new-sender.ensures.state in
    let items = ap (λ z. z.items) c.new-sender.ensures.state in
    let session' = session_bytes c.in_ok-receiver.receiver.deal c.new-sender.result.deal c.in_ok-receiver.receiver.placed c.new-sender.result.items in
    let session : session' ≡ session_of i.receiver.now i.sender.now i.own.now i.peer.now log = λ j. session_bytes (deal j) (other j) (placed j) (items j) in
    let heard = c.in_ok-exchange.ensures.heard comparison [] (subst (λ r. IsCompared r [] comparison) (sym c.new-comparison.ensures.bytes_are) c.new-comparison.ensures) in
    let is = heard_is comparison.recorded log.wire session' (session_of i.receiver.now i.sender.now i.own.now i.peer.now log) c.exchange.new.transcript (Some d) (c.new-comparison.ensures.bytes_are ∙ c.wire.ensures.wire) session heard (sym c.in-Some.is ∙ c.difference.ensures) in
    ap (λ n. Differs (n + d.place) d.found d.wanted) c.wire_offset.ensures ∙ differs_verdict i.receiver.now i.sender.now i.own.now i.peer.now log d is

pub consistent-requires-clause-marks : goal.consistent-requires-clause-marks
consistent-requires-clause-marks c =
    let i = c.args.inputs.now in
    let deal = c.in_ok-receiver.ensures.deal in
    let placed = c.in_ok-receiver.ensures.placed in
    let other = ap (λ z. z.deal) c.new-sender.ensures.state in
    let items = ap (λ z. z.items) c.new-sender.ensures.state in
    c.shown.ensures.shown ∙ (c.in_ok-exchange.ensures.shown ∙ ((λ j. hits_of (deal j) (placed j) (dealt_lists (deal j) (other j) (placed j) (items j)))
    ∙ hits_are_shown i.receiver.now i.sender.now i.own.now i.peer.now i.placement.now c.requires.inputs.pair c.new.ensures.sizes.count c.new-sender.ensures.deal.choice c.requires.inputs.placed))

pub returns : goal.returns
returns c =
    let i = c.args.inputs.now in
    let receiver = i.receiver.now in
    let sender = i.sender.now in
    let log = c.args.log.now in
    let comparison = c.new-comparison.result in
    let deal = c.in_ok-receiver.ensures.deal in
    let placed = c.in_ok-receiver.ensures.placed ∙ ap (placed_of i.own.now) c.requires.slots in
    let other = ap (λ z. z.deal) c.new-sender.ensures.state in
    let items = ap (λ z. z.items) c.new-sender.ensures.state in
    let session' = session_bytes c.in_ok-receiver.receiver.deal c.new-sender.result.deal c.in_ok-receiver.receiver.placed c.new-sender.result.items in
    let session : session' ≡ session_of receiver sender i.own.now i.peer.now log = λ j. session_bytes (deal j) (other j) (placed j) (items j) in
    let heard = c.in_ok-exchange.ensures.heard comparison [] (subst (λ r. IsCompared r [] comparison) (sym c.new-comparison.ensures.bytes_are) c.new-comparison.ensures) in
    let is = heard_is comparison.recorded log.wire session' (session_of receiver sender i.own.now i.peer.now log) c.exchange.new.transcript None (c.new-comparison.ensures.bytes_are ∙ c.wire.ensures.wire) session heard (sym c.in-None.is ∙ c.difference.ensures) in
    let long = length-placement receiver.stash receiver.key (bins_for (length i.own.now)) i.own.now i.placement.now c.requires.inputs.placed in
    let slots = ap length c.requires.slots in
    let made = session_is_wire receiver sender (placed_of i.own.now log.slots) i.peer.now c.new.ensures.sizes.id c.new-sender.ensures.deal.id c.new.ensures.sizes.count c.requires.inputs.stash
    (subst (λ n. n ≤ 16) c.requires.inputs.pair.tag_length (width_of receiver c.new.ensures.sizes))
    (omega (arith, length-placed_of i.own.now log.slots (long ∙ slots), c.requires.inputs.few)) in
    let same = same_verdict receiver sender i.own.now i.peer.now log is (subst IsWire c.wire.ensures.wire c.wire.ensures.frames) made in
    subst (λ target. IfOk c.consistent.result (λ verdict. verdict ≡ target)) (ap (λ slots. consistent (pair_setup receiver sender i.own.now slots) i.peer.now) c.requires.slots ∙ same) c.consistent.ensures
