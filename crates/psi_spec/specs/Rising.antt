-- Byte strings in rising order, compared from the first byte on.
use Rattle.std.specs.Prelude.{ℕ, List, [], ◌∷◌, if◌then◌else◌}
use Rattle.psi_spec.specs.Frames.{is_below}

-- a rising list with one more byte string at its place
abbrev pub with_one : List ℕ → List (List ℕ) → List (List ℕ)
with_one x [] = x ∷ []
with_one x (y ∷ ys) = if is_below y x then y ∷ with_one x ys else x ∷ y ∷ ys

-- byte strings in rising order, with repeats kept
unfoldable pub rising : List (List ℕ) → List (List ℕ)
rising [] = []
rising (x ∷ xs) = with_one x (rising xs)
