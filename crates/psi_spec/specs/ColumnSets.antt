-- Pairs of column sets: what the receiver sends of them, what the sender has of them, and what it opens.
use Rattle.std.specs.Prelude.{◌+◌, ℕ, ◌==◌, List, [], ◌∷◌, if◌then◌else◌}
use Rattle.psi_spec.specs.Bits.{bit_of, xor}
use Rattle.psi_spec.specs.Columns.{row_of}
use Rattle.psi_spec.specs.Matrices.{IsColumnSet}

-- the two column sets that a receiver's seeds make: of two columns with one number the sender has one
pub record ColumnSets : Type 0 where
  pub zeros : List (List ℕ)
  pub ones : List (List ℕ)

-- both are sets of clean columns of so many rows
pub record AreColumnSets (rows : ℕ) (sets : ColumnSets) : Type 0 where
  pub zeros : IsColumnSet rows sets.zeros
  pub ones : IsColumnSet rows sets.ones

-- ---- what the receiver sends

-- column c that the receiver sends: the exclusive or of both its columns and of bit c of each row's word. The words are
-- read as columns here, and these bits are their row c
abbrev pub masked : List ℕ → List ℕ → List (List ℕ) → ℕ → List ℕ
masked zero_column one_column words c = xor (xor zero_column one_column) (row_of words c)

-- from number c on, the masked column of each two columns
abbrev pub masked_from : List (List ℕ) → ℕ → List (List ℕ) → List (List ℕ) → List (List ℕ)
masked_from words c [] ones = []
masked_from words c (zero ∷ zeros) [] = []
masked_from words c (zero ∷ zeros) (one ∷ ones) = masked zero one words c ∷ masked_from words (c + 1) zeros ones

-- the columns that a receiver with these row words sends
unfoldable pub masked_columns : List (List ℕ) → ColumnSets → List (List ℕ)
masked_columns words sets = masked_from words 0 sets.zeros sets.ones

-- ---- what the sender has, and what it opens

-- of two columns the one that a bit chooses
abbrev pub chosen_column : ℕ → List ℕ → List ℕ → List ℕ
chosen_column bit zero_column one_column = if bit == 0 then zero_column else one_column

-- from number c on, the columns that the choice word chooses
abbrev pub chosen_columns_from : List ℕ → ℕ → List (List ℕ) → List (List ℕ) → List (List ℕ)
chosen_columns_from choice c [] ones = []
chosen_columns_from choice c (zero ∷ zeros) [] = []
chosen_columns_from choice c (zero ∷ zeros) (one ∷ ones) =
    chosen_column (bit_of choice c) zero one ∷ chosen_columns_from choice (c + 1) zeros ones

-- the columns that a sender with this choice word has: the one column where its bit is 1, and else the zero column
unfoldable pub chosen_columns : List ℕ → ColumnSets → List (List ℕ)
chosen_columns choice sets = chosen_columns_from choice 0 sets.zeros sets.ones

-- a chosen column with the masked one put in where the bit of the choice word is 1
abbrev pub opened_column : ℕ → List ℕ → List ℕ → List ℕ
opened_column bit chosen sent = if bit == 0 then chosen else xor chosen sent

-- from number c on, the opened column of each chosen and masked one
abbrev pub opened_from : List ℕ → ℕ → List (List ℕ) → List (List ℕ) → List (List ℕ)
opened_from choice c [] sent = []
opened_from choice c (column ∷ chosen) [] = []
opened_from choice c (column ∷ chosen) (masked_column ∷ sent) =
    opened_column (bit_of choice c) column masked_column ∷ opened_from choice (c + 1) chosen sent

-- the columns that a sender opens of its chosen columns and of those that were sent
unfoldable pub opened_columns : List ℕ → List (List ℕ) → List (List ℕ) → List (List ℕ)
opened_columns choice chosen sent = opened_from choice 0 chosen sent
