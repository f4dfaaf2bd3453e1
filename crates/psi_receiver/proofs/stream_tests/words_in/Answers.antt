use Rattle.std.proofs.Common.{◌≡◌, ◌∙◌, ℕ, length, sym, subst}
use Rattle.psi_spec.specs.Limits.{rows_for}
use Rattle.psi_receiver.specs.Slots.{AreSlotsFor}
use Rattle.psi_receiver.proofs.RowCodes.{placed_slots}
use Rattle.psi_receiver.proofs.stream_tests.words_in.Goals as goal

pub row_words-requires-clause-slots : goal.row_words-requires-clause-slots
row_words-requires-clause-slots c =
    let deal = c.args.inputs.now.deal.now in
    let items = c.args.inputs.now.items.now in
    let count : length c.in_ok-words.words ≡ rows_for deal.stash (length items) =
    c.in_ok-words.ensures.rows ∙ (c.rows.ensures ∙ (λ i. rows_for (c.stash.ensures.stash i) (c.len.ensures.len i))) in
    subst (λ (rows : ℕ). AreSlotsFor (length items) rows c.args.inputs.now.placement.now) (sym count)
    (placed_slots deal.stash deal.key items c.args.inputs.now.placement.now c.requires.placed)
