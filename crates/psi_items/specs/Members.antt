-- What every list of items keeps.
use Rattle.std.specs.Prelude.{ℕ, ◌≤◌, List, length, All}
use Rattle.std.specs.List.{IsDistinct}
use Rattle.std.specs.Str.{bytes_eq}
use Rattle.psi_spec.specs.Limits.{limit_items, line_limit}

-- an item has 1 to 256 bytes
pub record IsItem (item : List ℕ) : Type 0 where
  pub some : 1 ≤ length item
  pub short : length item ≤ line_limit

-- at most 1,048,576 items, no two of them equal
pub record AreItems (items : List (List ℕ)) : Type 0 where
  pub few : length items ≤ limit_items
  pub distinct : IsDistinct bytes_eq items
  pub each : All IsItem items
