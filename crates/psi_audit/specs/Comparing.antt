-- Recorded bytes that are compared with others piece by piece.
use Rattle.std.specs.Prelude.{◌≡◌, ◌+◌, ◌==◌, ℕ, List, [], ◌∷◌, length, min, Option, Some, None, if◌then◌else◌}
use Rattle.psi_audit.specs.declared.comparing.Difference.{Difference}

-- the first place, counted from `at` on, at which both byte strings have a byte and these differ, with both bytes
abbrev pub shared_from : ℕ → List ℕ → List ℕ → Option Difference
shared_from at [] bytes = None
shared_from at (x ∷ xs) [] = None
shared_from at (x ∷ xs) (y ∷ ys) =
    if x == y then shared_from (at + 1) xs ys else Some (record { place = at; found = x; wanted = y })

-- a comparison: the recorded bytes, how many of them were compared, and the first difference so far
pub record Compared : Type 0 where
  pub recorded : List ℕ
  pub compared : ℕ
  pub difference : Option Difference

-- recorded bytes were compared with these others
pub record IsCompared (recorded bytes : List ℕ) (c : Compared) : Type 0 where
  pub bytes_are : c.recorded ≡ recorded
  pub compared : c.difference ≡ None → c.compared ≡ min (length bytes) (length recorded)
  pub difference : c.difference ≡ shared_from 0 recorded bytes
