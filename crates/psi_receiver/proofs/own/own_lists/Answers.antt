use Rattle.std.proofs.Common.{◌+◌, List, sym, subst}
use Rattle.psi_receiver.specs.Unmarked.{AreUnmarkedLists}
use Rattle.psi_receiver.specs.declared.own.OwnList.{OwnList}
use Rattle.psi_receiver.proofs.Unmarking.{one_list_more}
use Rattle.psi_receiver.proofs.own.own_lists.Goals as goal

pub loop-list-preserved : goal.loop-list-preserved
loop-list-preserved c =
    let slots = c.args.placement.now in
    let tags = c.args.by_item.now in
    let list = c.loop-list.list in
    subst (λ (lists : List OwnList). AreUnmarkedLists slots tags (list + 1) lists) (sym c.in_ok-push.ensures.items)
    (one_list_more slots tags list c.loop-list.lists.items c.in_ok-own_list.field-0 c.loop-list.invariant c.in_ok-own_list.ensures)
