-- What a receiver's stream hides of its list.
use Rattle.std.specs.Prelude.{◌≡◌, ℕ, List, length, Some}
use Rattle.psi_spec.specs.Deals.{ReceiverDeal}
use Rattle.psi_spec.specs.HidingLaws.{HidesSet}
use Rattle.psi_spec.specs.Limits.{bins_for}
use Rattle.psi_spec.specs.Meeting.{placed_of}
use Rattle.psi_spec.specs.Placement.{Slot, IsPlacementOf}
use Rattle.psi_walk.specs.Placing.{slots_with}

-- another list with as many items, which has a placement, and the slots that are picked for it
pub record IsOtherList (deal : ReceiverDeal) (xs others : List (List ℕ)) (slots : List Slot) : Type 0 where
  pub sizes : length others ≡ length xs
  pub placement : IsPlacementOf deal.stash deal.key (bins_for (length others)) others slots
  pub picked : slots_with deal others ≡ Some slots

-- every such list looks to a sender, whatever it chose, as this one does: over all columns there is the change, its own
-- inverse and the same for all of them, that keeps what the sender chose, and over the changed columns a receiver of
-- the other list sends byte for byte the same
abbrev pub HidesList : ReceiverDeal → List (List ℕ) → List Slot → Type 0
HidesList deal xs slots =
    (choice : List ℕ) (others : List (List ℕ)) (other_slots : List Slot) → IsOtherList deal xs others other_slots
    → HidesSet deal choice (placed_of xs slots) (placed_of others other_slots)
