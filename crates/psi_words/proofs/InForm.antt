-- What words without a bad place say.
use Rattle.std.proofs.Common.{◌≡◌, ◌+◌, ◌&&◌, nat_lt, ℕ, Bool, true, false, List, ◌∷◌, Some, None, if◌then◌else◌, length, refl}
use Rattle.psi_words.specs.Words.{Form, bad_from}
use Rattle.psi_words.proofs.WordValues.{both_true}

-- the first form is met, and the others are
pub bad_from-none : (form : Form) (needed optional : List Form) (words : List (List ℕ)) (at : ℕ)
    → bad_from (form ∷ needed) optional words at ≡ None
    → (form words at ≡ true) × (bad_from needed optional words (at + 1) ≡ None)
bad_from-none form needed optional words at e = by_test (nat_lt at (length words) && form words at) refl e
  where
    by_test : (b : Bool) → (nat_lt at (length words) && form words at) ≡ b
        → (if b then bad_from needed optional words (at + 1) else Some at) ≡ None
        → (form words at ≡ true) × (bad_from needed optional words (at + 1) ≡ None)
    by_test true t e = ((both_true (nat_lt at (length words)) (form words at) t).1, e)
    by_test false t e = cc e
