use Rattle.std.proofs.Common.{◌≡◌, ◌∙◌, true, false, sym, ap, eq-eqb}
use Rattle.std.proofs.lemmas.Bool.{ne_eqb}
use Rattle.psi_cuckoo.specs.Table.{slot_of}
use Rattle.psi_receiver.specs.Slots.{is_in_list}
use Rattle.psi_receiver.proofs.Gathering.{slot_there, tags_before-passes, tags_before-fails}
use Rattle.psi_receiver.proofs.own.tags_of_list.Goals as goal
use Rattle.psi_receiver.proofs.own.tags_of_list.Goals.{then-list_of-list+in_ok-push, else-list_of-list}

pub loop-i-preserved : goal.loop-i-preserved
loop-i-preserved c =
    let i = c.loop-i.i in
    let slots = c.args.placement.now in
    let tags = c.args.by_item.now in
    let list = c.args.list in
    let slot = slot_of c.unwrap-slot.result in
    let test = is_in_list c.bins-bins.result list in
    let there = slot_there slots i c.slot.result c.unwrap-slot.result c.slot.ensures c.unwrap-slot.ensures in
    elim c.if-list_of-list.branch [
      | then-list_of-list+in_ok-push w ↦
          let same : test slot ≡ true = eq-eqb _ list (sym c.list_of.ensures ∙ w.if-list_of-list.true) in
          ap (λ v. v.items) w.found-is ∙ (w.in_ok-push.ensures.items
          ∙ tags_before-passes test slots tags c.loop-i.found.items i slot there same c.loop-i.invariant)
      | else-list_of-list w ↦
          let other : test slot ≡ false = ne_eqb _ list (λ e. w.if-list_of-list.false (c.list_of.ensures ∙ e)) in
          ap (λ v. v.items) w.found-is
          ∙ tags_before-fails test slots tags c.loop-i.found.items i slot there other c.loop-i.invariant
    ]
