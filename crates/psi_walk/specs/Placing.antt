-- The sets of items that are placed.
use Rattle.std.specs.Prelude.{◌≡◌, ℕ, List, Option, length, map}
use Rattle.psi_spec.specs.CrowdedLists.{IsCrowded, touched_by}
use Rattle.psi_spec.specs.Deals.{ReceiverDeal}
use Rattle.psi_spec.specs.Limits.{bins_for}
use Rattle.psi_spec.specs.Placement.{Slot, candidates_of}
use Rattle.psi_walk.specs.Tree.{Placing, slots_for}

-- the set of items that is placed with a deal
unfoldable pub placing_of : ReceiverDeal → List (List ℕ) → Placing
placing_of deal xs = record {
  stash = deal.stash;
  bins = bins_for (length xs);
  candidates = map (candidates_of deal.key (bins_for (length xs))) xs;
}

-- the slots that are picked for items with a deal, if they have a placement
abbrev pub slots_with : ReceiverDeal → List (List ℕ) → Option (List Slot)
slots_with deal xs = slots_for (placing_of deal xs)

-- of the candidates of the items these are crowded, and name so many bins
abbrev pub IsCrowdedSet : List ℕ → ℕ → List (List ℕ) → ReceiverDeal → Type 0
IsCrowdedSet items touched xs deal =
    IsCrowded deal.stash (map (candidates_of deal.key (bins_for (length xs))) xs) items
    × (touched ≡ touched_by (map (candidates_of deal.key (bins_for (length xs))) xs) items)
