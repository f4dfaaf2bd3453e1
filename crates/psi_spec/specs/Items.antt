-- The items of a file, and the first line that has a fault.
use Rattle.std.specs.Prelude.{ℕ, ◌+◌, ◌-◌, ◌==◌, ◌&&◌, ◌||◌, Bool, not, List, [], ◌∷◌, ◌++◌, length, take, drop, map, filter, find, nat_lt, Option, Some, None, if◌then◌else◌}
use Rattle.std.specs.Char.{to_ascii_lowercase}
use Rattle.std.specs.Option.{option_map_or}
use Rattle.std.specs.List.{slice_split, prefix_len, suffix_len, list_any}
use Rattle.std.specs.Str.{bytes_eq}
use Rattle.std.specs.Str.Lines.{strip_carriage_return}
use Rattle.psi_spec.specs.Limits.{limit_items, line_limit}

-- the lines of a file: what stands between the line feeds, and what follows the last of them
abbrev pub lines_of : List ℕ → List (List ℕ)
lines_of bytes = slice_split (λ b. b == 10) bytes

-- a byte that no line may hold: one below 32 that is no tab, and 127
abbrev pub is_control : ℕ → Bool
is_control b = (nat_lt b 32 && not (b == 9)) || (b == 127)

-- a space or a tab
abbrev pub is_blank : ℕ → Bool
is_blank b = (b == 32) || (b == 9)

-- a line without the blanks at its start and at its end
abbrev pub trimmed : List ℕ → List ℕ
trimmed line = without_end (drop (prefix_len is_blank line) line)
  where
    without_end : List ℕ → List ℕ
    without_end rest = take (length rest - suffix_len is_blank rest) rest

-- a line in its normal form: no carriage return at its end, no blanks round it, no ASCII capitals
unfoldable pub normal : List ℕ → List ℕ
normal line = map to_ascii_lowercase (trimmed (strip_carriage_return line))

-- the first element of each kind
abbrev pub distinct : List (List ℕ) → List (List ℕ)
distinct [] = []
distinct (x ∷ xs) = x ∷ filter (λ y. not (bytes_eq x y)) (distinct xs)

-- the items of lines: their normal forms, without the empty ones and without repeats
unfoldable pub items_of_lines : List (List ℕ) → List (List ℕ)
items_of_lines lines = distinct (filter (λ item. not (length item == 0)) (map normal lines))

-- the items of a file
abbrev pub items_of : List ℕ → List (List ℕ)
items_of bytes = items_of_lines (lines_of bytes)

-- what may be wrong with a line
pub data LineFault : Type 0 where
  holds_byte : ℕ → LineFault
  is_long : ℕ → LineFault
  is_too_many : LineFault

-- the fault of a line whose normal form is this, with these items before it
abbrev pub fault_of_item : List (List ℕ) → List ℕ → Option LineFault
fault_of_item before item =
    if nat_lt line_limit (length item) then Some (is_long (length item))
    else if not (length item == 0) && (not (list_any (bytes_eq item) before) && (length before == limit_items))
    then Some is_too_many
    else None

-- the fault of a line, with these items before it
unfoldable pub fault_of : List (List ℕ) → List ℕ → Option LineFault
fault_of before line =
    option_map_or (λ byte. Some (holds_byte byte)) (find is_control (strip_carriage_return line))
    (fault_of_item before (normal line))

-- the number of a line, counted from 1, and its fault
pub record BadLine : Type 0 where
  pub line : ℕ
  pub fault : LineFault

-- the first line of `rest` that has a fault, where the lines `before` stand before them
abbrev pub first_bad_after : List (List ℕ) → List (List ℕ) → Option BadLine
first_bad_after before [] = None
first_bad_after before (line ∷ rest) =
    option_map_or (λ fault. Some (record { line = length before + 1; fault = fault }))
    (fault_of (items_of_lines before) line) (first_bad_after (before ++ line ∷ []) rest)

-- the first line of a file that has a fault
unfoldable pub first_bad : List ℕ → Option BadLine
first_bad bytes = first_bad_after [] (lines_of bytes)
