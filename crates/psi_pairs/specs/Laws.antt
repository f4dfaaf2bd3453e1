-- The laws of a sender of paired lines.
use Rattle.std.specs.Prelude.{◌≡◌, ℕ, List, length}
use Rattle.psi_spec.specs.Columns.{row_of}
use Rattle.psi_spec.specs.ColumnSets.{opened_columns}
use Rattle.psi_spec.specs.Deals.{SenderDeal, sender_columns}
use Rattle.psi_spec.specs.Matrices.{AreColumns}
use Rattle.psi_spec.specs.PairedLaws.{value_side, value_side_over}
use Rattle.psi_spec.specs.PairedRows.{paired_rows, sent_values}

-- a sender that opens its columns in place makes the same values: those over the rows of what it opened
abbrev pub OpenedColumnsMakeValues : Type 0
OpenedColumnsMakeValues =
    (deal : SenderDeal) (count : ℕ) (sent ys : List (List ℕ))
    → length deal.choice ≡ 64 → length deal.chosen ≡ 512 → AreColumns (paired_rows count) sent
    → sent_values (value_side deal count sent) ys
    ≡ sent_values
    (value_side_over deal (row_of (opened_columns deal.choice (sender_columns deal (paired_rows count)) sent))) ys
