-- The key stream of ChaCha20 by the block function of RFC 8439, section 2.3, the columns that it fills, and their rows.
use Rattle.std.specs.Prelude.{ℕ, ◌+◌, ◌/◌, ◌%◌, ◌^◌, ◌==◌, List, map, slice_index, slice_set, if◌then◌else◌}
use Rattle.rand_core.specs.Steps.{fill_via_u32}
use Rattle.rand_chacha.specs.ChaCha.{key_of, next_word}
use Rattle.psi_spec.specs.Bits.{bit_of, packed}

-- the first n bytes of the key stream of a seed of 32 bytes and a 64-bit stream number
unfoldable pub key_stream : List ℕ → ℕ → ℕ → List ℕ
key_stream seed stream n =
    (fill_via_u32 (next_word 10) n (record { key = key_of seed; stream = stream; word_pos = 0 })).0

-- the bytes of a column of so many rows
abbrev pub column_bytes : ℕ → ℕ
column_bytes rows = (rows + 7) / 8

-- the bytes of a column, with the bits from `rows` on cleared
abbrev pub cleared : ℕ → List ℕ → List ℕ
cleared rows bytes =
    if rows % 8 == 0 then bytes
    else slice_set bytes (rows / 8) (slice_index bytes (rows / 8) % 2 ^ (rows % 8))

-- the column of a seed: one bit for each row
unfoldable pub column : List ℕ → ℕ → ℕ → List ℕ
column seed session rows = cleared rows (key_stream seed session (column_bytes rows))

-- bit j of each column
abbrev pub bits_at : List (List ℕ) → ℕ → List ℕ
bits_at columns j = map (λ column. bit_of column j) columns

-- row j of 512 columns: the word whose bit c is bit j of column c
unfoldable pub row_of : List (List ℕ) → ℕ → List ℕ
row_of columns j = packed (bits_at columns j)
