-- Crowded lists: items that outnumber the bins that they name and the rows of the stash.
use Rattle.std.specs.Prelude.{◌+◌, ◌<◌, ℕ, List, [], length, nat_eq, slice_index_or, All}
use Rattle.std.specs.List.{flat_map}
use Rattle.std.specs.List.Sorted.{IsStrictlyIncreasing}
use Rattle.std.specs.Set.{distinct_count}

-- the candidates of the items with these numbers, one after another, with repeats
abbrev pub named_bins : List (List ℕ) → List ℕ → List ℕ
named_bins candidates items = flat_map (λ item. slice_index_or candidates item []) items

-- how many different bins the items with these numbers name
abbrev pub touched_by : List (List ℕ) → List ℕ → ℕ
touched_by candidates items = distinct_count nat_eq (named_bins candidates items)

-- rising item numbers, more of them than the bins that they name and the rows of the stash
pub record IsCrowded (stash : ℕ) (candidates : List (List ℕ)) (items : List ℕ) : Type 0 where
  pub rising : IsStrictlyIncreasing items
  pub within : All (λ item. item < length candidates) items
  pub many : stash + touched_by candidates items < length items
