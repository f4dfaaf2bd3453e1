-- Placements by the candidates of digests.
use Rattle.std.proofs.Common.{◌≡◌, ◌∙◌, ℕ, List, length, map, subst}
use Rattle.std.proofs.lemmas.Simd.{map-map}
use Rattle.psi_spec.specs.Deals.{ReceiverDeal}
use Rattle.psi_spec.specs.Formulas.{item_digest}
use Rattle.psi_spec.specs.Limits.{bins_for}
use Rattle.psi_spec.specs.Placement.{IsPlacement, IsPlacementOf, Slot, candidates_of}
use Rattle.psi_oprf.specs.Candidates.{digest_candidates}

-- the candidates of the digests of items are those of the items
candidates_are : (key key' : List ℕ) (bins bins' : ℕ) (items digests : List (List ℕ)) → key ≡ key' → bins ≡ bins' → digests ≡ map item_digest items
    → map (digest_candidates key bins) digests ≡ map (candidates_of key' bins') items
candidates_are key key' bins bins' items digests k b d =
    (λ i. map (digest_candidates (k i) (b i)) (d i)) ∙ map-map (digest_candidates key' bins') item_digest items

-- a placement of the candidates of digests is one of the items
pub placement_of : (deal : ReceiverDeal) (items digests cands : List (List ℕ)) (key : List ℕ) (stash bins : ℕ) (slots : List Slot)
    → stash ≡ deal.stash → key ≡ deal.key → bins ≡ bins_for (length items) → digests ≡ map item_digest items
    → cands ≡ map (digest_candidates key bins) digests → IsPlacement stash bins cands slots
    → IsPlacementOf deal.stash deal.key (bins_for (length items)) items slots
placement_of deal items digests cands key stash bins slots s k b d made placed =
    let bins' = bins_for (length items) in
    let same = made ∙ candidates_are key deal.key bins bins' items digests k b d in
    subst (λ (n : ℕ). IsPlacement n bins' (map (candidates_of deal.key bins') items) slots) s
    (subst (λ (n : ℕ). IsPlacement stash n (map (candidates_of deal.key bins') items) slots) b
    (subst (λ (all : List (List ℕ)). IsPlacement stash bins all slots) same placed))
