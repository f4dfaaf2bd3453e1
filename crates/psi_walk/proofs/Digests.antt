-- The digests of items, and their candidates.
use Rattle.std.proofs.Common.{◌≡◌, ℕ, List, Option, map, ap, ◌∙◌, subst}
use Rattle.std.proofs.lemmas.Simd.{map-map}
use Rattle.psi_spec.specs.Formulas.{item_digest}
use Rattle.psi_spec.specs.Picking.{picked}
use Rattle.psi_spec.specs.CrowdedLists.{IsCrowded, touched_by}
use Rattle.psi_spec.specs.Placement.{IsPlacement, Slot, candidates_of}
use Rattle.psi_oprf.specs.Candidates.{digest_candidates}

-- the candidates of the digests are those of the items
pub candidates_are : (key : List ℕ) (bins : ℕ) (xs digests : List (List ℕ)) → digests ≡ map item_digest xs → map (digest_candidates key bins) digests ≡ map (candidates_of key bins) xs
candidates_are key bins xs digests e = ap (map (digest_candidates key bins)) e ∙ map-map (digest_candidates key bins) item_digest xs

-- what is known of a set is known of an equal one
pub placement_so : (s t b c : ℕ) (xs ys : List (List ℕ)) (slots : List Slot) → s ≡ t → b ≡ c → xs ≡ ys → IsPlacement s b xs slots → IsPlacement t c ys slots
placement_so s t b c xs ys slots e f g h =
    subst (λ (n : ℕ). IsPlacement n c ys slots) e (subst (λ (n : ℕ). IsPlacement s n ys slots) f (subst (λ (zs : List (List ℕ)). IsPlacement s b zs slots) g h))

-- a crowded list, and how many bins it names
abbrev pub Crowds : ℕ → List (List ℕ) → List ℕ → ℕ → Type 0
Crowds stash candidates items touched = IsCrowded stash candidates items × (touched ≡ touched_by candidates items)

pub crowds_so : (s t : ℕ) (xs ys : List (List ℕ)) (items : List ℕ) (touched : ℕ) → s ≡ t → xs ≡ ys → Crowds s xs items touched → Crowds t ys items touched
crowds_so s t xs ys items touched e g h = subst (λ (n : ℕ). Crowds n ys items touched) e (subst (λ (zs : List (List ℕ)). Crowds s zs items touched) g h)

-- which slots are picked for equal sets is the same
pub picked_so : (s t b c : ℕ) (xs ys : List (List ℕ)) (slots : Option (List Slot)) → s ≡ t → b ≡ c → xs ≡ ys → picked s b xs ≡ slots → picked t c ys ≡ slots
picked_so s t b c xs ys slots e f g h =
    subst (λ (n : ℕ). picked n c ys ≡ slots) e (subst (λ (n : ℕ). picked s n ys ≡ slots) f (subst (λ (zs : List (List ℕ)). picked s b zs ≡ slots) g h))
