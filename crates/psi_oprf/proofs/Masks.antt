-- Columns that hide codes.
use Rattle.std.proofs.Common.{◌≡◌, ◌+◌, ◌%◌, ◌<◌, ◌∙◌, ℕ, List, [], length, get_or, sym, arith, ext_get_or}
use Rattle.psi_spec.specs.Bits.{bit_of, xor}
use Rattle.psi_spec.specs.Columns.{column_bytes, row_of}
use Rattle.psi_spec.specs.ColumnSets.{ColumnSets, masked, masked_columns}
use Rattle.psi_spec.proofs.Xor.{xor-assoc, xor-comm, length-xor, bit_of-xor}
use Rattle.psi_spec.proofs.Packing.{bit_of-row_of}
use Rattle.psi_spec.proofs.ColumnSets.{length-row_of_words, length-masked_columns, get_or-masked_columns}

-- the order in which a column is made does not matter
pub masked_by : (zeros ones : List ℕ) (words : List (List ℕ)) (c : ℕ) → xor (xor (row_of words c) zeros) ones ≡ masked zeros ones words c
masked_by zeros ones words c = xor-assoc (row_of words c) zeros ones ∙ xor-comm (row_of words c) (xor zeros ones)

pub bit_of-masked : (zeros ones : List ℕ) (words : List (List ℕ)) (c j : ℕ) → length zeros ≡ column_bytes (length words) → length ones ≡ column_bytes (length words)
    → bit_of (masked zeros ones words c) j ≡ (bit_of zeros j + bit_of ones j + bit_of (get_or words j []) c) % 2
bit_of-masked zeros ones words c j l m =
    let both : length (xor zeros ones) ≡ column_bytes (length words) = length-xor (column_bytes (length words)) zeros ones l m in
    let outer = bit_of-xor (xor zeros ones) (row_of words c) j (both ∙ sym (length-row_of_words words c)) in
    let inner = bit_of-xor zeros ones j (l ∙ sym m) in
    let code = bit_of-row_of words c j in
    omega arith

-- columns that are masked one by one
pub all_masked : (words columns : List (List ℕ)) (sets : ColumnSets) → length columns ≡ 512 → length sets.zeros ≡ 512 → length sets.ones ≡ 512
    → ((k : ℕ) → k < 512 → get_or columns k [] ≡ xor (xor (row_of words k) (get_or sets.zeros k [])) (get_or sets.ones k [])) → columns ≡ masked_columns words sets
all_masked words columns sets count zeros ones each =
    ext_get_or [] columns (masked_columns words sets) (count ∙ sym (length-masked_columns words sets (zeros ∙ sym ones) ∙ zeros))
    (λ k l. each k (omega arith) ∙ (masked_by (get_or sets.zeros k []) (get_or sets.ones k []) words k ∙ sym (get_or-masked_columns words sets k (zeros ∙ sym ones) (omega arith))))
