-- The order of the sender's items does not show in its stream.
use Rattle.std.proofs.Common.{◌≡◌, ◌+◌, ℕ, List, length, map, IsPermutation, sym, ap, ap₂}
use Rattle.std.specs.List.{range_with_len}
use Rattle.std.proofs.lemmas.List.Sorted.{IsPermutation-map, length_permutation}
use Rattle.psi_spec.specs.Deals.{SenderDeal}
use Rattle.psi_spec.specs.TagLists.{SenderSide, tag_in_list, tag_list, tag_lists}
use Rattle.psi_spec.specs.Streams.{layouts, lists_frames, lists_stream, side_of_rows, sender_side, sender_answer, sender_stream}
use Rattle.psi_spec.specs.Frames.{receiver_hello, sender_hello}
use Rattle.psi_spec.specs.Sessions.{dealt_masked, moves_with, session_bytes, wire_bytes}
use Rattle.psi_spec.specs.SessionLaws.{OrderIsHidden, SessionsHideOrder}
use Rattle.psi_spec.proofs.Rising.{rising_moved}

tag_list-moved : (s : SenderSide) (ys zs : List (List ℕ)) (list : ℕ) → IsPermutation ys zs
    → tag_list s ys list ≡ tag_list s zs list
unfolding tag_list
tag_list-moved s ys zs list moved =
    rising_moved (map (tag_in_list s list) ys) (map (tag_in_list s list) zs)
    (IsPermutation-map (tag_in_list s list) ys zs moved)

pub tag_lists-moved : (stash : ℕ) (s : SenderSide) (ys zs : List (List ℕ)) → IsPermutation ys zs
    → tag_lists stash s ys ≡ tag_lists stash s zs
unfolding tag_lists
tag_lists-moved stash s ys zs moved =
    ap (λ (tags : ℕ → List (List ℕ)). map tags (range_with_len 0 (3 + stash)))
    (λ i. λ list. tag_list-moved s ys zs list moved i)

-- the same for an answer over any opened rows
pub sender_answer-moved : (deal : SenderDeal) (count : ℕ) (opened : ℕ → List ℕ) (ys zs : List (List ℕ))
    → IsPermutation ys zs → sender_answer deal count opened ys ≡ sender_answer deal count opened zs
unfolding sender_answer
sender_answer-moved deal count opened ys zs moved =
    ap (λ (lists : List (List (List ℕ))). layouts (lists_frames 0 lists))
    (tag_lists-moved deal.stash (side_of_rows deal count opened) ys zs moved)

pub order_is_hidden : OrderIsHidden
unfolding sender_stream
order_is_hidden deal count sent ys zs moved =
    ap₂ (λ (n : ℕ) (lists : List (List (List ℕ))). lists_stream deal.id deal.session n lists)
    (sym (length_permutation ys zs moved)) (tag_lists-moved deal.stash (sender_side deal count sent) ys zs moved)

pub sessions_hide_order : SessionsHideOrder
unfolding session_bytes
sessions_hide_order receiver sender placed ys zs moved =
    ap₂ (λ (count : ℕ) (lists : List (List (List ℕ))). wire_bytes (moves_with
    (receiver_hello receiver.id receiver.session (length placed)) (sender_hello sender.id sender.session count)
    (dealt_masked receiver placed) lists))
    (sym (length_permutation ys zs moved))
    (tag_lists-moved sender.stash (sender_side sender (length placed) (dealt_masked receiver placed)) ys zs moved)
