-- The first place in which two byte strings differ.
use Rattle.std.specs.Prelude.{ℕ, ◌+◌, ◌==◌, List, [], ◌∷◌, Option, Some, None, if◌then◌else◌}

-- the first place, counted from `at` on, at which two byte strings have different bytes or only one has any
abbrev pub differs_from : ℕ → List ℕ → List ℕ → Option ℕ
differs_from at [] [] = None
differs_from at [] (y ∷ ys) = Some at
differs_from at (x ∷ xs) [] = Some at
differs_from at (x ∷ xs) (y ∷ ys) = if x == y then differs_from (at + 1) xs ys else Some at

-- the same, counted from 0
unfoldable pub first_difference : List ℕ → List ℕ → Option ℕ
first_difference xs ys = differs_from 0 xs ys
