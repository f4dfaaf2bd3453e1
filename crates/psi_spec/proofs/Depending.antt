-- Of its deals a session depends on what both hold, the stash, the choice word and the columns alone.
use Rattle.std.proofs.Common.{◌≡◌, ◌∙◌, ℕ, List, length, ap}
use Rattle.psi_spec.specs.Limits.{bins_for, rows_for}
use Rattle.psi_spec.specs.ColumnSets.{masked_columns}
use Rattle.psi_spec.specs.Deals.{ReceiverDeal, SenderDeal, zero_columns, one_columns, sender_columns}
use Rattle.psi_spec.specs.Meeting.{Placed}
use Rattle.psi_spec.specs.TagLists.{opened_row, tag_lists}
use Rattle.psi_spec.specs.Streams.{row_words, sender_side}
use Rattle.psi_spec.specs.Frames.{receiver_hello, sender_hello}
use Rattle.psi_spec.specs.Sessions.{dealt_lists, dealt_masked, moves_with, session_bytes, wire_bytes}
use Rattle.psi_spec.specs.SessionLaws.{SendAlike, AnswerAlike, SessionsDependOnColumns}

-- the columns that a receiver sends
masked_alike : (a b : ReceiverDeal) (placed : List Placed) → SendAlike (rows_for a.stash (length placed)) a b
    → dealt_masked a placed ≡ dealt_masked b placed
masked_alike a b placed h =
    let rows : ℕ = rows_for a.stash (length placed) in
    let same : rows ≡ rows_for b.stash (length placed) = ap (λ (stash : ℕ). rows_for stash (length placed)) h.stash in
    let zeros : zero_columns a rows ≡ zero_columns b (rows_for b.stash (length placed)) =
    h.zeros ∙ ap (zero_columns b) same in
    let ones : one_columns a rows ≡ one_columns b (rows_for b.stash (length placed)) =
    h.ones ∙ ap (one_columns b) same in
    λ i. masked_columns (row_words (h.key i) placed (same i)) (record { zeros = zeros i; ones = ones i })

-- the lists that a sender makes of the same columns
lists_alike : (a b : SenderDeal) (count : ℕ) (sent ys : List (List ℕ)) → AnswerAlike (rows_for a.stash count) a b
    → tag_lists a.stash (sender_side a count sent) ys ≡ tag_lists b.stash (sender_side b count sent) ys
lists_alike a b count sent ys h =
    let same : rows_for a.stash count ≡ rows_for b.stash count = ap (λ (stash : ℕ). rows_for stash count) h.stash in
    let columns : sender_columns a (rows_for a.stash count) ≡ sender_columns b (rows_for b.stash count) =
    h.columns ∙ ap (sender_columns b) same in
    let side : sender_side a count sent ≡ sender_side b count sent =
    λ i. record {
      key = h.key i;
      tag_length = h.tag_length i;
      choice = h.choice i;
      bins = bins_for count;
      opened = opened_row (h.choice i) (columns i) sent;
    } in
    λ i. tag_lists (h.stash i) (side i) ys

pub sessions_depend_on_columns : SessionsDependOnColumns
unfolding session_bytes
sessions_depend_on_columns receiver other_receiver sender other_sender placed ys sends answers =
    let count : ℕ = length placed in
    let columns = masked_alike receiver other_receiver placed sends in
    let lists : dealt_lists receiver sender placed ys ≡ dealt_lists other_receiver other_sender placed ys =
    ap (λ (sent : List (List ℕ)). tag_lists sender.stash (sender_side sender count sent) ys) columns
    ∙ lists_alike sender other_sender count (dealt_masked other_receiver placed) ys answers in
    λ i. wire_bytes (moves_with (receiver_hello (sends.id i) (sends.session i) count)
    (sender_hello (answers.id i) (answers.session i) (length ys)) (columns i) (lists i))
