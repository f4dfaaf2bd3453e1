-- What is hashed of each item once.
use Rattle.std.specs.Prelude.{◌≡◌, ◌<◌, ℕ, List, map}
use Rattle.psi_spec.specs.Formulas.{item_digest, code}
use Rattle.psi_spec.specs.Deals.{SenderDeal}
use Rattle.psi_oprf.specs.Candidates.{digest_candidates}
use Rattle.psi_sender.specs.declared.hashes.Hashes.{Hashes}

-- the hashes of items for so many bins: a digest and three bins of each, and where there is a stash a code
pub record AreHashes (deal : SenderDeal) (bins : ℕ) (ys : List (List ℕ)) (hashes : Hashes) : Type 0 where
  pub digests : hashes.digests.items ≡ map item_digest ys
  pub candidates : hashes.bins.items ≡ map (digest_candidates deal.key bins) hashes.digests.items
  pub codes : 0 < deal.stash → hashes.codes.items ≡ map (code deal.key 0) hashes.digests.items
