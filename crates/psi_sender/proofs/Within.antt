-- A sender awaits few frames, and begins with its script.
use Rattle.std.proofs.Common.{◌+◌, ◌-◌, ◌≤◌, ℕ, List, [], ◌∷◌, ◌++◌, length, Result, Ok, Err, lit≤, lit<, arith}
use Rattle.std.proofs.lemmas.Bool.{leb-true}
use Rattle.std.proofs.lemmas.List.{length-map}
use Rattle.psi_spec.specs.Bits.{bit_of}
use Rattle.psi_spec.specs.Columns.{column, column_bytes}
use Rattle.psi_spec.specs.ColumnSets.{opened_column}
use Rattle.psi_spec.specs.Deals.{SenderDeal, IsSenderDeal, sender_columns}
use Rattle.psi_spec.specs.Limits.{rows_for, inbox_room}
use Rattle.psi_base.specs.Outside.{Known, Outside}
use Rattle.psi_frames.specs.declared.turns.EndFault.{EndFault}
use Rattle.psi_frames.specs.Converse.{Converses}
use Rattle.psi_frames.specs.Script.{Script, sends, IsWithin}
use Rattle.psi_sender.specs.Script.{sender_script, opens_columns, count_in, bytes_in}
use Rattle.psi_sender.proofs.Coming.{count_that_comes}

within_columns : (deal : SenderDeal) (ys : List (List ℕ)) (count n : ℕ) (opened chosen : List (List ℕ)) → 7 + column_bytes (rows_for deal.stash count) ≤ inbox_room → length chosen + 1 ≤ n
    → IsWithin n (opens_columns deal ys count opened chosen)
within_columns deal ys count n opened [] fits few = (omega arith, lit≤ tt, λ f valid. tt)
within_columns deal ys count n opened (column ∷ chosen) fits few = (
  omega arith,
  omega arith,
  λ f valid.
      within_columns deal ys count (n - 1) (opened ++ opened_column (bit_of deal.choice (length opened)) column (bytes_in f) ∷ []) chosen fits (omega arith),
)

pub within_script : (deal : SenderDeal) (ys : List (List ℕ)) → IsSenderDeal deal → IsWithin 514 (sender_script deal ys)
within_script deal ys is = (
  lit< tt,
  lit≤ tt,
  λ hello valid.
      let few = count_that_comes deal.id deal.session hello valid in
      let stash : deal.stash ≤ 16 = leb-true deal.stash 16 is.stash in
      let rows : ℕ = rows_for deal.stash (count_in hello) in
      within_columns deal ys (count_in hello) 513 [] (sender_columns deal rows) (omega arith)
      (omega (arith, is.count, length-map deal.chosen (λ seed. column seed deal.session rows))),
)

-- ---- a script that sends nothing first

pub begun_so : (known : Known) (script : Script) (before after : Outside) (result : Result (Unit {0}) EndFault)
    → Converses known (sends [] script) before result after → Converses known script before result after
begun_so known script before after (Ok done) (taken, talks, frames, read) =
    (taken, talks, frames, record { due = read.due; bytes = read.bytes })
begun_so known script before after (Err why) talks = talks
