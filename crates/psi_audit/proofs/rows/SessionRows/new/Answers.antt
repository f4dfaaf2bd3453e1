use Rattle.std.proofs.Common.{◌≡◌, ◌∙◌, ℕ, length, sym, subst}
use Rattle.psi_spec.specs.Limits.{rows_for}
use Rattle.psi_receiver.specs.Slots.{AreSlotsFor}
use Rattle.psi_receiver.proofs.RowCodes.{placed_slots}
use Rattle.psi_audit.proofs.rows.SessionRows.new.Goals as goal

pub row_words-requires-clause-slots : goal.row_words-requires-clause-slots
row_words-requires-clause-slots c =
    let i = c.args.inputs.now in
    let count : length c.in_ok-words.words ≡ rows_for i.receiver.now.stash (length i.own.now) =
    c.in_ok-words.ensures.rows ∙ (c.rows-count.ensures ∙ (λ j. rows_for (c.stash.ensures.stash j) (c.len.ensures.len j))) in
    subst (λ (rows : ℕ). AreSlotsFor (length i.own.now) rows i.placement.now) (sym count)
    (placed_slots i.receiver.now.stash i.receiver.now.key i.own.now i.placement.now c.requires.placed)
