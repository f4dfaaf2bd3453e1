-- The receiver's end as callers see it, and what a session of it may answer and leave.
use Rattle.std.specs.Prelude.{◌≡◌, ℕ, Bool, List, ◌++◌, length, map, Result, Ok, Err}
use Rattle.psi_spec.specs.Limits.{bins_for, rows_for}
use Rattle.psi_spec.specs.Deals.{ReceiverDeal, zero_columns}
use Rattle.psi_spec.specs.Hits.{ReceiverSide, is_hit}
use Rattle.psi_spec.specs.Meeting.{Placed}
use Rattle.psi_spec.specs.Sessions.{wire_bytes}
use Rattle.psi_base.specs.Outside.{Known, Outside}
use Rattle.psi_frames.specs.Dialogue.{Talks}
use Rattle.psi_frames.specs.declared.turns.EndFault.{EndFault}
use Rattle.psi_receiver.specs.Laws.{IsStreamFor, moves_heard, receiver_dialogue}

-- what placed items are looked up with
abbrev pub finder : ReceiverDeal → List Placed → ReceiverSide
finder deal placed = record {
  key = deal.key;
  tag_length = deal.tag_length;
  columns = zero_columns deal (rows_for deal.stash (length placed));
  bins = bins_for (length placed);
  placed = placed;
}

-- of each placed item whether it is hit in these lists
unfoldable pub hits_of : ReceiverDeal → List Placed → List (List (List ℕ)) → List Bool
hits_of deal placed lists = map (is_hit (finder deal placed) lists) placed

-- a sender's stream was taken, the receiver's stream was sent for it, the items that are hit in its lists are shown,
-- and the record goes on with the moves of both ends as they stand on the wire
pub record Received (known : Known) (deal : ReceiverDeal) (placed : List Placed) (before : Outside) (log : List ℕ)
    (shown : List Bool) (log' : List ℕ) (after : Outside) : Type 0 where
  pub count : ℕ
  pub lists : List (List (List ℕ))
  pub taken : List ℕ
  pub stream : IsStreamFor deal count lists taken
  pub talked : Talks known (receiver_dialogue deal placed) before (Ok taken) after
  pub hit : shown ≡ hits_of deal placed lists
  pub logged : log' ≡ log ++ wire_bytes (moves_heard deal placed count lists)

-- what a session may answer and leave: it is whole, or it ended early
abbrev pub Receives : Known → ReceiverDeal → List Placed → Outside → List ℕ → Result (Unit {0}) EndFault → List Bool
    → List ℕ → Outside → Type 0
Receives known deal placed before log (Ok _) shown log' after = Received known deal placed before log shown log' after
Receives known deal placed before log (Err why) shown log' after =
    Talks known (receiver_dialogue deal placed) before (Err why) after
