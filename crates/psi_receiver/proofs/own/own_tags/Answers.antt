use Rattle.std.proofs.Common.{◌≡◌, ◌+◌, ◌∙◌, ℕ, length, ap, arith}
use Rattle.std.proofs.lemmas.List.{with_items_is}
use Rattle.psi_receiver.specs.Own.{own_tags}
use Rattle.psi_receiver.proofs.Unmarking.{are_own_tags, none_marked, own_tags_from_words}
use Rattle.psi_receiver.proofs.own.own_tags.Goals as goal

pub returns-clause-own : goal.returns-clause-own
returns-clause-own c =
    let deal = c.args.deal.now in
    let slots = c.args.placement.now in
    let tags = c.deref.result.now in
    let long : length c.item_tags.new.out ≡ c.in_ok-by_item.by_item.len = omega (arith, c.item_tags.auto.out, c.deref_mut.ensures.len) in
    let made : tags ≡ own_tags deal slots =
    c.deref.ensures.value ∙ (with_items_is c.in_ok-by_item.by_item c.item_tags.new.out long
    ∙ (c.item_tags.ensures ∙ own_tags_from_words deal c.args.rows.now slots c.requires.count c.requires.slots c.requires.words)) in
    are_own_tags deal slots tags _ (3 + c.from.result) made c.in_ok-lists.ensures
    (ap (λ (n : ℕ). 3 + n) (c.from.ensures ∙ c.stash.ensures.stash))

pub returns-clause-unmarked : goal.returns-clause-unmarked
returns-clause-unmarked c =
    none_marked c.args.placement.now c.deref.result.now (3 + c.from.result) _ c.in_ok-lists.ensures
