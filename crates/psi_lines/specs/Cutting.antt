-- Lines that are kept as bytes, one line after another, and where each of them ends.
use Rattle.std.specs.Prelude.{◌≡◌, ◌≤◌, ◌-◌, ◌*◌, ℕ, zero, suc, List, [], ◌∷◌, length, take, drop, slice_index, All}
use Rattle.psi_spec.specs.Limits.{limit_items, line_limit}

-- the lines that end at these places, of which the first begins here
abbrev pub cut_at : ℕ → List ℕ → List ℕ → List (List ℕ)
cut_at start [] bytes = []
cut_at start (end ∷ ends) bytes = take (end - start) (drop start bytes) ∷ cut_at end ends bytes

-- where line i begins: where the line before it ends, and the first one here
abbrev pub start_in : ℕ → List ℕ → ℕ → ℕ
start_in start ends zero = start
start_in start ends (suc i) = slice_index ends i

-- the ends do not fall, and the last is that of all bytes
abbrev pub RiseTo : ℕ → ℕ → List ℕ → Type 0
RiseTo size start [] = start ≡ size
RiseTo size start (end ∷ ends) = (start ≤ end) × RiseTo size end ends

-- a line has at most 256 bytes
abbrev pub IsShort : List ℕ → Type 0
IsShort line = length line ≤ line_limit

-- at most 1,048,576 lines of at most 256 bytes each
pub record AreLines (lines : List (List ℕ)) : Type 0 where
  pub few : length lines ≤ limit_items
  pub each : All IsShort lines

-- the bytes of such lines, and their ends
pub record ArePacked (ends bytes : List ℕ) : Type 0 where
  pub few : length ends ≤ limit_items
  pub rise : RiseTo (length bytes) 0 ends
  pub each : All IsShort (cut_at 0 ends bytes)
  pub size : length bytes ≤ line_limit * length ends
