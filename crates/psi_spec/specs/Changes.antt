-- The change of column sets by which another placed set stands for a placed set.
use Rattle.std.specs.Prelude.{ℕ, ◌+◌, ◌==◌, List, [], ◌∷◌, ◌++◌, if◌then◌else◌}
use Rattle.psi_spec.specs.Bits.{bit_of, xor}
use Rattle.psi_spec.specs.Columns.{row_of}
use Rattle.psi_spec.specs.ColumnSets.{ColumnSets}

-- what two lists of row words differ in at bit c, as a column. The words are read as columns here, and bit c of each is
-- their row c
abbrev pub difference : List (List ℕ) → List (List ℕ) → ℕ → List ℕ
difference words others c = xor (row_of words c) (row_of others c)

-- a column, changed by that difference where it is to be changed
abbrev pub changed_column : List (List ℕ) → List (List ℕ) → ℕ → ℕ → ℕ → List ℕ → List ℕ
changed_column words others c bit at column = if at == bit then xor column (difference words others c) else column

-- columns from number c on, each changed where the bit of the choice word is `bit`
abbrev pub changed_from : List ℕ → ℕ → List (List ℕ) → List (List ℕ) → ℕ → List (List ℕ) → List (List ℕ)
changed_from choice bit words others c [] = []
changed_from choice bit words others c (column ∷ columns) =
    changed_column words others c bit (bit_of choice c) column
    ∷ changed_from choice bit words others (c + 1) columns

-- the change for a choice word and two lists of row words: of two columns with one number the one that the choice word
-- does not choose is changed by what the words differ in, and the other one stays
unfoldable pub change : List ℕ → List (List ℕ) → List (List ℕ) → ColumnSets → ColumnSets
change choice words others sets = record {
  zeros = changed_from choice 1 words others 0 sets.zeros;
  ones = changed_from choice 0 words others 0 sets.ones;
}

-- of each number the zero column and then the one column
abbrev pub joined_columns : List (List ℕ) → List (List ℕ) → List ℕ
joined_columns [] ones = []
joined_columns (zero ∷ zeros) [] = []
joined_columns (zero ∷ zeros) (one ∷ ones) = zero ++ one ++ joined_columns zeros ones

-- the file of column sets
unfoldable pub columns_file : ColumnSets → List ℕ
columns_file sets = joined_columns sets.zeros sets.ones
