-- Paired lines: the words of their rows, the values that the sender makes of them, and which lines are shown.
use Rattle.std.specs.Prelude.{ℕ, ◌+◌, ◌==◌, Bool, List, [], ◌∷◌, map, decimal, if◌then◌else◌}
use Rattle.std.specs.Str.{bytes_eq}
use Rattle.psi_spec.specs.Bits.{xor, both, zero_word}
use Rattle.psi_spec.specs.Formulas.{item_digest, code, tag}
use Rattle.psi_spec.specs.Columns.{row_of}
use Rattle.psi_spec.specs.Texts.{lines_text}

-- ---- rows

-- the rows of so many lines: one for each, and one where there are none
abbrev pub paired_rows : ℕ → ℕ
paired_rows count = if count == 0 then 1 else count

-- the word of a line: its code at index 0
abbrev pub line_word : List ℕ → List ℕ → List ℕ
line_word key line = code key 0 (item_digest line)

-- the words of the rows: that of each line, and the zero word where there are none
unfoldable pub paired_words : List ℕ → List (List ℕ) → List (List ℕ)
paired_words key [] = zero_word ∷ []
paired_words key (line ∷ lines) = line_word key line ∷ map (line_word key) lines

-- ---- values

-- what the sender makes values with: of its deal the key, the tag length and the choice word, and the word of each row
-- that it opened
pub record ValueSide : Type 0 where
  pub key : List ℕ
  pub tag_length : ℕ
  pub choice : List ℕ
  pub opened : ℕ → List ℕ

-- the value of a line at its row: the tag of the opened row, xor what the choice word and the line's word share
unfoldable pub sent_value : ValueSide → ℕ → List ℕ → List ℕ
sent_value s row y = tag s.key s.tag_length row (xor (s.opened row) (both s.choice (line_word s.key y)))

-- the values of lines, from this row on
abbrev pub sent_values_from : ValueSide → ℕ → List (List ℕ) → List (List ℕ)
sent_values_from s row [] = []
sent_values_from s row (y ∷ ys) = sent_value s row y ∷ sent_values_from s (row + 1) ys

-- the values of the sender's lines
unfoldable pub sent_values : ValueSide → List (List ℕ) → List (List ℕ)
sent_values s ys = sent_values_from s 0 ys

-- ---- what is found

-- what the receiver compares values with: of its deal the key, the tag length and the zero columns
pub record OwnSide : Type 0 where
  pub key : List ℕ
  pub tag_length : ℕ
  pub columns : List (List ℕ)

-- the own value of a row: the tag of that row of the zero columns
unfoldable pub own_value : OwnSide → ℕ → List ℕ
own_value r row = tag r.key r.tag_length row (row_of r.columns row)

-- of values, from this row on, whether each is the own value of its row
abbrev pub found_from : OwnSide → ℕ → List (List ℕ) → List Bool
found_from r row [] = []
found_from r row (value ∷ values) = bytes_eq (own_value r row) value ∷ found_from r (row + 1) values

-- of each line whether its value is its own
unfoldable pub found_lines : OwnSide → List (List ℕ) → List Bool
found_lines r values = found_from r 0 values

-- ---- what is shown

-- the value that a row has by the lines of both ends: what their words differ in is hidden under the choice word, so
-- that it cancels where they are equal
unfoldable pub paired_value : OwnSide → List ℕ → ℕ → List ℕ → List ℕ → List ℕ
paired_value r choice row x y =
    tag r.key r.tag_length row (xor (row_of r.columns row) (both choice (xor (line_word r.key x) (line_word r.key y))))

-- the values of the rows that both lists have, from this one on
abbrev pub paired_values_from : OwnSide → List ℕ → ℕ → List (List ℕ) → List (List ℕ) → List (List ℕ)
paired_values_from r choice row [] ys = []
paired_values_from r choice row (x ∷ xs) [] = []
paired_values_from r choice row (x ∷ xs) (y ∷ ys) =
    paired_value r choice row x y ∷ paired_values_from r choice (row + 1) xs ys

-- of each line of both lists whether it is shown: where its value by both is its own
unfoldable pub shown_lines : OwnSide → List ℕ → List (List ℕ) → List (List ℕ) → List Bool
shown_lines r choice xs ys = found_lines r (paired_values_from r choice 0 xs ys)

-- ---- the printed text

-- the numbers of the marked lines, where the first has this number
abbrev pub marked_numbers : ℕ → List Bool → List ℕ
marked_numbers number [] = []
marked_numbers number (is ∷ marks) =
    if is then number ∷ marked_numbers (number + 1) marks else marked_numbers (number + 1) marks

-- the numbers of the marked lines, counted from 1, each as a line
unfoldable pub numbers_text : List Bool → List ℕ
numbers_text marks = lines_text (map decimal (marked_numbers 1 marks))
