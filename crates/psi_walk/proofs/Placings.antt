-- The sets of items that are placed, and what their slots hide.
use Rattle.std.proofs.Common.{◌≡◌, ℕ, List, length, sym, ◌∙◌}
use Rattle.psi_spec.specs.Deals.{ReceiverDeal}
use Rattle.psi_spec.specs.Limits.{bins_for}
use Rattle.psi_spec.specs.Meeting.{placed_of}
use Rattle.psi_spec.specs.Placement.{Slot, IsPlacementOf}
use Rattle.psi_spec.proofs.Dealing.{length-placement}
use Rattle.psi_spec.proofs.Hiding.{sets_are_hidden}
use Rattle.psi_spec.proofs.Placing.{length-placed_of}
use Rattle.psi_walk.specs.Hiding.{HidesList}
use Rattle.psi_walk.specs.Placing.{placing_of}
use Rattle.psi_walk.specs.Walk.{IsPicked}

-- a placement of the set is one of its items
pub is_placement : (deal : ReceiverDeal) (xs : List (List ℕ)) (slots : List Slot) → IsPicked (placing_of deal xs) slots
    → IsPlacementOf deal.stash deal.key (bins_for (length xs)) xs slots
unfolding placing_of
is_placement deal xs slots h = h.0

-- a placed list has as many entries as items
pub length-placed_with : (deal : ReceiverDeal) (xs : List (List ℕ)) (slots : List Slot) → IsPlacementOf deal.stash deal.key (bins_for (length xs)) xs slots → length (placed_of xs slots) ≡ length xs
length-placed_with deal xs slots placement = length-placed_of xs slots (length-placement deal.stash deal.key (bins_for (length xs)) xs slots placement)

-- the slots that are picked for a list hide it among all of its size
pub hides_list : (deal : ReceiverDeal) (xs : List (List ℕ)) (slots : List Slot) → IsPlacementOf deal.stash deal.key (bins_for (length xs)) xs slots → HidesList deal xs slots
hides_list deal xs slots placement = λ choice others other_slots is.
    sets_are_hidden deal choice (placed_of xs slots) (placed_of others other_slots)
    (length-placed_with deal others other_slots is.placement ∙ (is.sizes ∙ sym (length-placed_with deal xs slots placement)))
