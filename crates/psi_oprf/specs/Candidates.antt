-- The bins in which an item may be placed.
use Rattle.std.specs.Prelude.{ℕ, ◌-◌, ◌*◌, ◌%◌, List, [], ◌∷◌, take, drop}
use Rattle.std.specs.Int.{w64, from_be_bytes}
use Rattle.psi_spec.specs.Formulas.{bin}

-- the three candidates of an item with this digest: its bins at index 1, 2 and 3
abbrev pub digest_candidates : List ℕ → ℕ → List ℕ → List ℕ
digest_candidates key bins digest = bin key bins 1 digest ∷ bin key bins 2 digest ∷ bin key bins 3 digest ∷ []

-- the bin at an index from 1 to 3 that a hash holds
abbrev pub bin_in : ℕ → ℕ → List ℕ → ℕ
bin_in bins index hash = from_be_bytes w64 (take 8 (drop (8 * (index - 1)) hash)) % bins

-- the bins at index 1, 2 and 3 that a hash holds
abbrev pub bins_in : ℕ → List ℕ → List ℕ
bins_in bins hash = bin_in bins 1 hash ∷ bin_in bins 2 hash ∷ bin_in bins 3 hash ∷ []
