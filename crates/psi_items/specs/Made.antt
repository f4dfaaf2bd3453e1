-- What stands in made files.
use Rattle.std.specs.Prelude.{◌≡◌, ◌≤◌, ◌<◌, ◌^◌, ℕ, Bool, List, ◌++◌, codes, decimal, map, None}
use Rattle.psi_spec.specs.Items.{first_bad, items_of}
use Rattle.psi_spec.specs.Limits.{limit_items}
use Rattle.psi_spec.specs.MadeFiles.{made_file, made_letter, made_order}

-- line k of a made file, without its line feed
abbrev pub made_item : Bool → ℕ → ℕ → ℕ → List ℕ
made_item is_second shared number k = made_letter is_second shared k ++ decimal number ++ codes "-" ++ decimal k

-- the lines of a made file, in their order
abbrev pub made_items : Bool → ℕ → ℕ → ℕ → List (List ℕ)
made_items is_second count shared number = map (made_item is_second shared number) (made_order is_second count)

-- no line of a file is bad, and these are its items
pub record AreItemsOf (bytes : List ℕ) (items : List (List ℕ)) : Type 0 where
  pub good : first_bad bytes ≡ None
  pub listed : items_of bytes ≡ items

-- no line of a made file is bad, and each is an item of its own
abbrev pub MadeFilesHoldLines : Type 0
MadeFilesHoldLines =
    (is_second : Bool) (count shared number : ℕ) → count ≤ limit_items → number < 2 ^ 64
    → AreItemsOf (made_file is_second count shared number) (made_items is_second count shared number)
