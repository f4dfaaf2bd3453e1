use Rattle.std.proofs.Common.{◌≡◌, ◌∙◌, ℕ, List, length, ap, sym, subst}
use Rattle.psi_spec.specs.Limits.{bins_for, rows_for}
use Rattle.psi_spec.specs.Meeting.{Placed, placed_of}
use Rattle.psi_spec.specs.Streams.{row_words}
use Rattle.psi_spec.proofs.Dealing.{length-placement}
use Rattle.psi_spec.proofs.Placing.{length-placed_of}
use Rattle.psi_receiver.specs.Slots.{AreSlotsFor}
use Rattle.psi_receiver.proofs.RowCodes.{placed_slots}
use Rattle.psi_twin.proofs.twin.placed_words.Goals as goal

pub row_words-requires-clause-slots : goal.row_words-requires-clause-slots
row_words-requires-clause-slots c =
    let deal = c.args.deal.now in
    let items = c.args.items.now in
    let slots = c.in_ok-placement.placement in
    let count : length c.in_ok-words.words ≡ rows_for deal.stash (length items) =
    c.in_ok-words.ensures.rows ∙ (c.rows.ensures ∙ (λ i. rows_for (c.stash.ensures.stash i) (c.len.ensures.len i))) in
    subst (λ (rows : ℕ). AreSlotsFor (length items) rows slots) (sym count) (placed_slots deal.stash deal.key items slots c.in_ok-placement.ensures.placed)

pub returns-clause-words : goal.returns-clause-words
returns-clause-words c =
    let deal = c.args.deal.now in
    let items = c.args.items.now in
    let slots = c.in_ok-placement.placement in
    let placed : List Placed = placed_of items slots in
    let long : length items ≡ length slots = length-placement deal.stash deal.key (bins_for (length items)) items slots c.in_ok-placement.ensures.placed in
    let count : length c.in_ok-words.words ≡ rows_for deal.stash (length items) =
    c.in_ok-words.ensures.rows ∙ (c.rows.ensures ∙ (λ i. rows_for (c.stash.ensures.stash i) (c.len.ensures.len i))) in
    let all : length c.in_ok-words.words ≡ rows_for deal.stash (length placed) = count ∙ ap (rows_for deal.stash) (sym (length-placed_of items slots long)) in
    c.row_words.ensures.words ∙ (λ i. row_words (c.key.ensures i) placed (all i))
