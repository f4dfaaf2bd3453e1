-- Values over opened columns.
use Rattle.std.proofs.Common.{◌≡◌, ℕ, List, sym, ap}
use Rattle.psi_spec.specs.Columns.{row_of}
use Rattle.psi_spec.specs.ColumnSets.{opened_columns}
use Rattle.psi_spec.specs.Deals.{sender_columns}
use Rattle.psi_spec.specs.Matrices.{AreColumns}
use Rattle.psi_spec.specs.PairedLaws.{value_side_over}
use Rattle.psi_spec.specs.PairedRows.{paired_rows, sent_values}
use Rattle.psi_spec.specs.TagLists.{opened_row}
use Rattle.psi_spec.proofs.ColumnSets.{opens_columns}
use Rattle.psi_spec.proofs.DealtColumns.{are_columns, sender_columns_are}
use Rattle.psi_pairs.specs.Laws.{OpenedColumnsMakeValues}

pub opened_columns_make_values : OpenedColumnsMakeValues
opened_columns_make_values deal count sent ys long chosen are =
    let rows : ℕ = paired_rows count in
    let columns : List (List ℕ) = sender_columns deal rows in
    let own : AreColumns rows columns = are_columns rows columns (sender_columns_are deal rows chosen) in
    let same : opened_row deal.choice columns sent ≡ row_of (opened_columns deal.choice columns sent) =
    λ i. λ j. sym (opens_columns deal.choice columns sent rows j long own are) i in
    ap (λ (opened_rows : ℕ → List ℕ). sent_values (value_side_over deal opened_rows) ys) same
