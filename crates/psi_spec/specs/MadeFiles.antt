-- Item files that are made by rule, to try psi on.
use Rattle.std.specs.Prelude.{ℕ, Bool, List, ◌++◌, decimal, nat_lt, reverse, codes, if◌then◌else◌}
use Rattle.std.specs.List.{flat_map, range_with_len}

-- the letter that a line begins with: `s` where both files have it, else `x` in the first file and `y` in the second
abbrev pub made_letter : Bool → ℕ → ℕ → List ℕ
made_letter is_second shared k = if nat_lt k shared then codes "s" else if is_second then codes "y" else codes "x"

-- line k: its letter, the number of the files, a hyphen and k
abbrev pub made_line : Bool → ℕ → ℕ → ℕ → List ℕ
made_line is_second shared number k =
    made_letter is_second shared k ++ decimal number ++ codes "-" ++ decimal k ++ codes "\n"

-- the numbers of the lines: rising in the first file, falling in the second
abbrev pub made_order : Bool → ℕ → List ℕ
made_order is_second count =
    if is_second then reverse (range_with_len 0 count) else range_with_len 0 count

-- a file of so many lines, of which so many are in both files
unfoldable pub made_file : Bool → ℕ → ℕ → ℕ → List ℕ
made_file is_second count shared number = flat_map (made_line is_second shared number) (made_order is_second count)
