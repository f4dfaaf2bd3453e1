-- What a sender does, frame by frame.
use Rattle.std.specs.Prelude.{ℕ, List, [], ◌∷◌, ◌++◌, length}
use Rattle.psi_spec.specs.Limits.{rows_for}
use Rattle.psi_spec.specs.Bits.{bit_of}
use Rattle.psi_spec.specs.Columns.{row_of}
use Rattle.psi_spec.specs.ColumnSets.{opened_column}
use Rattle.psi_spec.specs.Deals.{SenderDeal, sender_columns}
use Rattle.psi_spec.specs.Frames.{Frame, layout, receiver_hello, sender_hello, column_frame}
use Rattle.psi_spec.specs.Streams.{sender_answer}
use Rattle.psi_frames.specs.Script.{Script, over, sends, awaits}
use Rattle.psi_frames.specs.declared.expect.Expect.TheVariants as expect

-- how many items a receiver's hello says
abbrev pub count_in : Frame → ℕ
count_in (receiver_hello id session count) = count
count_in f = 0

-- the bytes of a column's frame
abbrev pub bytes_in : Frame → List ℕ
bytes_in (column_frame index bytes) = bytes
bytes_in f = []

-- the sender awaits the end
abbrev pub awaits_done : Script
awaits_done = awaits expect.Done (λ f. over)

-- the columns that are still due: each that comes opens one of the chosen ones, and after the last the lists are sent
abbrev pub opens_columns : SenderDeal → List (List ℕ) → ℕ → List (List ℕ) → List (List ℕ) → Script
opens_columns deal ys count opened [] = sends (sender_answer deal count (row_of opened) ys) awaits_done
opens_columns deal ys count opened (column ∷ chosen) =
    awaits (expect.Column (length opened) (rows_for deal.stash count))
    (λ f. opens_columns deal ys count
    (opened ++ opened_column (bit_of deal.choice (length opened)) column (bytes_in f) ∷ []) chosen)

-- a sender with this deal and these items: at the receiver's hello it sends its own, and then the columns are due
abbrev pub sender_script : SenderDeal → List (List ℕ) → Script
sender_script deal ys =
    awaits (expect.ReceiverHello deal.id deal.session)
    (λ hello. sends (layout (sender_hello deal.id deal.session (length ys)))
    (opens_columns deal ys (count_in hello) [] (sender_columns deal (rows_for deal.stash (count_in hello)))))
