-- Marked items: which they are.
use Rattle.std.proofs.Common.{◌≡◌, ℕ, Bool, true, false, cond, List, [], ◌∷◌, length, map, filter, refl, sym, ap, ap₂, ◌∙◌}
use Rattle.std.proofs.lemmas.List.{length-map}
use Rattle.psi_spec.specs.Deals.{ReceiverDeal, zero_columns}
use Rattle.psi_spec.specs.Hits.{ReceiverSide, hit_items, is_hit, marked, receiver_side}
use Rattle.psi_spec.specs.Limits.{bins_for, rows_for}
use Rattle.psi_spec.specs.Meeting.{Placed, placed_of}
use Rattle.psi_spec.specs.Placement.{Slot}
use Rattle.psi_spec.proofs.Placing.{items_of-placed_of, length-placed_of}
use Rattle.psi_receiver.specs.Receiving.{finder, hits_of}

-- items that are marked by a test are those that pass it
marked_by : (test : Placed → Bool) (ps : List Placed) → marked (map test ps) (map (λ p. p.item) ps) ≡ map (λ p. p.item) (filter test ps)
marked_by test [] = refl
marked_by test (p ∷ ps) = by_case (test p) (marked_by test ps)
  where
    by_case : (b : Bool) → marked (map test ps) (map (λ p. p.item) ps) ≡ map (λ p. p.item) (filter test ps)
        → cond b (p.item ∷ marked (map test ps) (map (λ p. p.item) ps)) (marked (map test ps) (map (λ p. p.item) ps)) ≡ map (λ p. p.item) (cond b (p ∷ filter test ps) (filter test ps))
    by_case true later = ap (λ (rest : List (List ℕ)). p.item ∷ rest) later
    by_case false later = later

-- the items that are marked by the lists are those that are hit
pub marked_hits : (deal : ReceiverDeal) (xs : List (List ℕ)) (slots : List Slot) (lists : List (List (List ℕ))) → length xs ≡ length slots
    → marked (hits_of deal (placed_of xs slots) lists) xs ≡ hit_items (receiver_side deal xs slots) lists
unfolding hits_of hit_items
marked_hits deal xs slots lists long =
    let placed : List Placed = placed_of xs slots in
    let side : finder deal placed ≡ receiver_side deal xs slots = same (length placed) (length xs) (length-placed_of xs slots long) in
    ap₂ (λ (r : ReceiverSide) (items : List (List ℕ)). marked (map (is_hit r lists) placed) items) side (sym (items_of-placed_of xs slots long))
    ∙ marked_by (is_hit (receiver_side deal xs slots) lists) placed
  where
    placed_side : ℕ → ReceiverSide
    placed_side n = record { key = deal.key; tag_length = deal.tag_length; columns = zero_columns deal (rows_for deal.stash n); bins = bins_for n; placed = placed_of xs slots }

    same : (m n : ℕ) → m ≡ n → placed_side m ≡ placed_side n
    same m n e = ap placed_side e

pub length-hits_of : (deal : ReceiverDeal) (placed : List Placed) (lists : List (List (List ℕ))) → length (hits_of deal placed lists) ≡ length placed
unfolding hits_of
length-hits_of deal placed lists = length-map placed (is_hit (finder deal placed) lists)
