-- The sender's lists of tags: a tag of each of its items in every list.
use Rattle.std.specs.Prelude.{◌≡◌, ◌+◌, ◌-◌, ℕ, List, length, map, nat_lt, IsSorted, All, if◌then◌else◌}
use Rattle.std.specs.Cmp.Lexicographic.{slice_cmp}
use Rattle.std.specs.List.{range_with_len}
use Rattle.std.specs.Ordering.{nat_cmp}
use Rattle.psi_spec.specs.Bits.{xor, both}
use Rattle.psi_spec.specs.Formulas.{item_digest, code, bin, tag}
use Rattle.psi_spec.specs.Columns.{row_of}
use Rattle.psi_spec.specs.Rising.{rising}

-- what the sender makes tags with: of its deal the key, the tag length and the choice word, the receiver's bins, and
-- the word of each row that it opened
pub record SenderSide : Type 0 where
  pub key : List ℕ
  pub tag_length : ℕ
  pub choice : List ℕ
  pub bins : ℕ
  pub opened : ℕ → List ℕ

-- a row that a sender opens: the row of its chosen columns, xor what the choice word and the row of those that were
-- sent share
abbrev pub opened_row : List ℕ → List (List ℕ) → List (List ℕ) → ℕ → List ℕ
opened_row choice chosen sent row = xor (row_of chosen row) (both choice (row_of sent row))

-- the tag of an item at an index and a row
unfoldable pub sent_tag : SenderSide → ℕ → ℕ → List ℕ → List ℕ
sent_tag s index row y =
    tag s.key s.tag_length row (xor (s.opened row) (both s.choice (code s.key index (item_digest y))))

-- the tag of an item in a list: in lists 0, 1 and 2 at index 1, 2 and 3 and the item's own bin, in each later list at
-- index 0 and a row of the stash
abbrev pub tag_in_list : SenderSide → ℕ → List ℕ → List ℕ
tag_in_list s list y =
    if nat_lt list 3 then sent_tag s (list + 1) (bin s.key s.bins (list + 1) (item_digest y)) y
    else sent_tag s 0 (s.bins + (list - 3)) y

-- a list: a tag of each item, in rising order with repeats kept
unfoldable pub tag_list : SenderSide → List (List ℕ) → ℕ → List (List ℕ)
tag_list s ys list = rising (map (tag_in_list s list) ys)

-- the lists: one for each index of bins, then one for each row of the stash
unfoldable pub tag_lists : ℕ → SenderSide → List (List ℕ) → List (List (List ℕ))
tag_lists stash s ys = map (tag_list s ys) (range_with_len 0 (3 + stash))

-- so many tags of this length, in rising order
pub record IsTagList (tag_length count : ℕ) (tags : List (List ℕ)) : Type 0 where
  pub size : length tags ≡ count
  pub lengths : All (λ tag. length tag ≡ tag_length) tags
  pub rises : IsSorted (slice_cmp nat_cmp) tags
