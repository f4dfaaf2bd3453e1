use Rattle.std.proofs.Common.{sym, subst}
use Rattle.psi_items.specs.Members.{IsItem}
use Rattle.psi_items.proofs.Keys.{IsItem-at}
use Rattle.psi_items.proofs.items.Items.get.Goals as goal

pub returns-clause-length : goal.returns-clause-length
returns-clause-length c =
    let fine : IsItem c.as_slice.result.now = subst IsItem (sym c.as_slice.ensures.value) (IsItem-at c.self.inside.set.keys c.args.i c.in_ok-item.item.now c.self.invariant c.in_ok-item.ensures.key) in
    (fine.some, fine.short)
