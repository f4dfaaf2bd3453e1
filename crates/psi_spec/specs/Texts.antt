-- Printed texts.
use Rattle.std.specs.Prelude.{ℕ, List, [], ◌∷◌, ◌++◌}
use Rattle.std.specs.List.{flat_map}

-- each item followed by a line feed
abbrev pub lines_text : List (List ℕ) → List ℕ
lines_text items = flat_map (λ item. item ++ 10 ∷ []) items
