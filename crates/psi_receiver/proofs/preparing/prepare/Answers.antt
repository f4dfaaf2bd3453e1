use Rattle.std.proofs.Common.{◌≡◌, ◌≤◌, ◌∙◌, ℕ, length, sym, subst}
use Rattle.psi_spec.specs.Limits.{limit_items, rows_for}
use Rattle.psi_receiver.specs.Slots.{AreSlotsFor, AreWithin}
use Rattle.psi_receiver.proofs.RowCodes.{placed_slots, sent_of_words}
use Rattle.psi_receiver.proofs.preparing.prepare.Goals as goal

pub row_words-requires-clause-slots : goal.row_words-requires-clause-slots
row_words-requires-clause-slots c =
    let deal = c.args.inputs.now.deal.now in
    let items = c.args.inputs.now.items.now in
    let count : length c.in_ok-words.words ≡ rows_for deal.stash (length items) =
    c.in_ok-words.ensures.rows ∙ (c.rows.ensures ∙ (λ i. rows_for (c.stash.ensures.stash i) (c.len.ensures.len i))) in
    subst (λ (rows : ℕ). AreSlotsFor (length items) rows c.args.inputs.now.placement.now) (sym count)
    (placed_slots deal.stash deal.key items c.args.inputs.now.placement.now c.requires.placed)

pub own_tags-requires-clause-few : goal.own_tags-requires-clause-few
own_tags-requires-clause-few c =
    let deal = c.args.inputs.now.deal.now in
    let are = placed_slots deal.stash deal.key c.args.inputs.now.items.now c.args.inputs.now.placement.now c.requires.placed in
    subst (λ (n : ℕ). n ≤ limit_items) (sym are.many) c.len.ensures.items.few

pub own_tags-requires-clause-count : goal.own_tags-requires-clause-count
own_tags-requires-clause-count c =
    let deal = c.args.inputs.now.deal.now in
    let are = placed_slots deal.stash deal.key c.args.inputs.now.items.now c.args.inputs.now.placement.now c.requires.placed in
    c.in_ok-own_rows.ensures.count ∙ (c.row_words.ensures.count
    ∙ (c.in_ok-words.ensures.rows ∙ (c.rows.ensures ∙ (λ i. rows_for (c.stash.ensures.stash i) ((c.len.ensures.len ∙ sym are.many) i)))))

pub own_tags-requires-clause-slots : goal.own_tags-requires-clause-slots
own_tags-requires-clause-slots c =
    let deal = c.args.inputs.now.deal.now in
    let items = c.args.inputs.now.items.now in
    let are = placed_slots deal.stash deal.key items c.args.inputs.now.placement.now c.requires.placed in
    let count : length c.in_ok-own_rows.own_rows ≡ rows_for deal.stash (length items) =
    c.in_ok-own_rows.ensures.count ∙ (c.row_words.ensures.count
    ∙ (c.in_ok-words.ensures.rows ∙ (c.rows.ensures ∙ (λ i. rows_for (c.stash.ensures.stash i) (c.len.ensures.len i))))) in
    subst (λ (rows : ℕ). AreWithin rows c.args.inputs.now.placement.now) (sym count) are.within

pub returns-clause-sent : goal.returns-clause-sent
returns-clause-sent c =
    let deal = c.args.inputs.now.deal.now in
    let items = c.args.inputs.now.items.now in
    let are = placed_slots deal.stash deal.key items c.args.inputs.now.placement.now c.requires.placed in
    let count : length c.in_ok-words.words ≡ rows_for deal.stash (length items) =
    c.in_ok-words.ensures.rows ∙ (c.rows.ensures ∙ (λ i. rows_for (c.stash.ensures.stash i) (c.len.ensures.len i))) in
    sent_of_words deal items c.args.inputs.now.placement.now c.key.result.now c.row_words.new.out (length c.in_ok-words.words) c.in_ok-own_rows.sent
    are.many c.key.ensures c.row_words.ensures.words c.row_words.ensures.count count c.in_ok-own_rows.ensures.sent
