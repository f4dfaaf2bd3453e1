use Rattle.std.proofs.Common.{◌<◌, ◌≤◌, ◌∙◌, ◌++◌, ◌∷◌, [], true, false, length, append-nil, get_or, take_all, sym, ap, arith}
use Rattle.std.proofs.lemmas.Option.{slice_get-get_or}
use Rattle.psi_spec.specs.Limits.{bins_for}
use Rattle.psi_spec.specs.Meeting.{is_shown}
use Rattle.psi_spec.specs.Placement.{Slot}
use Rattle.psi_spec.proofs.Dealing.{length-placement}
use Rattle.psi_spec.proofs.Placing.{length-placed_of}
use Rattle.psi_cuckoo.specs.Table.{slot_of}
use Rattle.psi_receiver.proofs.Gathering.{slot_there, some_there}
use Rattle.psi_audit.specs.Naming.{setup_in, strangers_from}
use Rattle.psi_audit.proofs.Foreign.{marks_count, more_strangers, placed_there}
use Rattle.psi_audit.proofs.strangers.strangers.Goals as goal
use Rattle.psi_audit.proofs.strangers.strangers.Goals.{then-is_stranger+in_ok-push, else-is_stranger}

pub is_stranger-requires-clause-mark : goal.is_stranger-requires-clause-mark
is_stranger-requires-clause-mark c =
    let i = c.args.inputs.now in
    let n = c.len-item-end.ensures.len in
    omega (arith, n, marks_count i.receiver.now.stash i.receiver.now.key i.own.now i.placement.now (is_shown (setup_in i) i.peer.now) c.args.marks.now c.requires.inputs.placed c.requires.marks)

pub unwrap-slot-requires : goal.unwrap-slot-requires
unwrap-slot-requires c =
    let i = c.args.inputs.now in
    let n = c.len-item-end.ensures.len in
    some_there i.placement.now c.loop-item.item c.slot.result (omega (arith, n, length-placement i.receiver.now.stash i.receiver.now.key (bins_for (length i.own.now)) i.own.now i.placement.now c.requires.inputs.placed)) c.slot.ensures

pub loop-item-preserved : goal.loop-item-preserved
loop-item-preserved c =
    let i = c.args.inputs.now in
    let own = i.own.now in
    let slots = i.placement.now in
    let ys = i.peer.now in
    let s = setup_in i in
    let item = c.loop-item.item in
    let marks = c.args.marks.now in
    let n = c.len-item-end.ensures.len in
    let long = length-placement i.receiver.now.stash i.receiver.now.key (bins_for (length own)) own slots c.requires.inputs.placed in
    let within : item < length own = omega arith in
    let inside : item < length s.placed = omega (arith, length-placed_of own slots long) in
    elim c.if-is_stranger.branch [
      | then-is_stranger+in_ok-push w ↦
          let slot = slot_of w.unwrap-slot.result in
          let there = slot_there slots item w.slot.result w.unwrap-slot.result w.slot.ensures w.unwrap-slot.ensures in
          let is = placed_there own slots item slot long within there in
          let more = more_strangers s ys item true marks (get_or own item []) slot inside c.requires.marks is (sym w.if-is_stranger.true ∙ c.is_stranger.ensures) in
          ap (λ v. v.items) w.made-is ∙ (w.in_ok-push.ensures.items ∙ (ap (λ ms. ms ++ record { item = item; slot = w.unwrap-slot.result } ∷ []) c.loop-item.invariant ∙ sym more))
      | else-is_stranger w ↦
          let none : Slot = record { row = 0; index = 0 } in
          let slot = get_or slots item none in
          let is = placed_there own slots item slot long within (slice_get-get_or slots item none (omega arith)) in
          let more = more_strangers s ys item false marks (get_or own item []) slot inside c.requires.marks is (sym w.if-is_stranger.false ∙ c.is_stranger.ensures) in
          ap (λ v. v.items) w.made-is ∙ (c.loop-item.invariant ∙ (sym (append-nil _) ∙ sym more))
    ]

pub returns : goal.returns
returns c =
    let i = c.args.inputs.now in
    let s = setup_in i in
    let n = c.len-item-end.ensures.len in
    let long = length-placement i.receiver.now.stash i.receiver.now.key (bins_for (length i.own.now)) i.own.now i.placement.now c.requires.inputs.placed in
    let all : length s.placed ≤ c.loop-item.item = omega (arith, n, length-placed_of i.own.now i.placement.now long) in
    c.loop-item.invariant ∙ ap (strangers_from s i.peer.now 0) (take_all c.loop-item.item s.placed all)
