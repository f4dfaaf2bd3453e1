-- The candidates of digests.
use Rattle.std.proofs.Common.{◌≤◌, ◌<◌, ℕ, List, All, map, get_or}
use Rattle.std.proofs.lemmas.List.Elements.{All-from_recursion, All-map}
use Rattle.psi_spec.proofs.Placing.{bin-lt}
use Rattle.psi_oprf.specs.Candidates.{digest_candidates}

-- each candidate is a bin
pub candidates_within : (key : List ℕ) (bins : ℕ) (digests : List (List ℕ)) → 1 ≤ bins → All (λ rows. All (λ row. row < bins) rows) (map (digest_candidates key bins) digests)
candidates_within key bins digests some =
    All-map (λ rows. All (λ row. row < bins) rows) (digest_candidates key bins) digests (λ i d within. three (get_or digests i d))
  where
    three : (digest : List ℕ) → All (λ row. row < bins) (digest_candidates key bins digest)
    three digest =
        All-from_recursion (λ row. row < bins) (digest_candidates key bins digest)
        (bin-lt key bins 1 digest some, (bin-lt key bins 2 digest some, (bin-lt key bins 3 digest some, tt)))
