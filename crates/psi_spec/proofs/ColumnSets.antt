-- What is in masked, chosen and opened columns, and the rows of opened columns.
use Rattle.std.proofs.Common.{◌≡◌, ◌+◌, ◌/◌, ◌%◌, ◌<◌, ℕ, suc, zero, Bool, true, false, cond, List, [], ◌∷◌, length, get_or, min, nat_eq, refl, sym, ap, ap₂, ◌∙◌, arith}
use Rattle.std.proofs.lemmas.List.{length-map}
use Rattle.std.proofs.lemmas.Nat.Bits.{bit_at-lt}
use Rattle.psi_spec.specs.Bits.{bit_of, xor, both}
use Rattle.psi_spec.specs.Columns.{column_bytes, bits_at, row_of}
use Rattle.psi_spec.specs.Matrices.{AreColumns}
use Rattle.psi_spec.specs.ColumnSets.{ColumnSets, masked_from, masked_columns, chosen_columns_from, chosen_columns, opened_from, opened_columns}
use Rattle.psi_spec.specs.Laws.{OpensColumns, OpensRows}
use Rattle.psi_spec.proofs.Xor.{length-xor, length-both, bit_of-xor, bit_of-both}
use Rattle.psi_spec.proofs.Packing.{AreBytes, length-packed, AreBytes-row_of, bit_of-row_of, length-row_of, same_from_bits_of}
use Rattle.psi_spec.proofs.Bytes.{AreBytes-xor, AreBytes-both}

-- ---- elements

pub bit_of-lt : (bytes : List ℕ) (j : ℕ) → bit_of bytes j < 2
bit_of-lt bytes j = bit_at-lt (get_or bytes (j / 8) 0) (j % 8)

-- a bit of every word makes a column with one bit for each
pub length-row_of_words : (words : List (List ℕ)) (c : ℕ) → length (row_of words c) ≡ column_bytes (length words)
unfolding row_of
length-row_of_words words c = length-packed (bits_at words c) ∙ ap column_bytes (length-map words (λ word. bit_of word c))

pub length-masked_from : (words : List (List ℕ)) (c : ℕ) (zeros ones : List (List ℕ)) → length zeros ≡ length ones → length (masked_from words c zeros ones) ≡ length zeros
length-masked_from words c [] ones l = refl
length-masked_from words c (z ∷ zeros) [] l = absurd (omega arith)
length-masked_from words c (z ∷ zeros) (o ∷ ones) l = ap suc (length-masked_from words (c + 1) zeros ones (omega arith))

pub length-chosen_columns_from : (choice : List ℕ) (c : ℕ) (zeros ones : List (List ℕ)) → length zeros ≡ length ones → length (chosen_columns_from choice c zeros ones) ≡ length zeros
length-chosen_columns_from choice c [] ones l = refl
length-chosen_columns_from choice c (z ∷ zeros) [] l = absurd (omega arith)
length-chosen_columns_from choice c (z ∷ zeros) (o ∷ ones) l = ap suc (length-chosen_columns_from choice (c + 1) zeros ones (omega arith))

pub get_or-masked_from : (words : List (List ℕ)) (c : ℕ) (zeros ones : List (List ℕ)) (i : ℕ) → length zeros ≡ length ones → i < length zeros
    → get_or (masked_from words c zeros ones) i [] ≡ xor (xor (get_or zeros i []) (get_or ones i [])) (row_of words (c + i))
get_or-masked_from words c [] ones i l within = absurd (omega arith)
get_or-masked_from words c (z ∷ zeros) [] i l within = absurd (omega arith)
get_or-masked_from words c (z ∷ zeros) (o ∷ ones) zero l within = let place : c ≡ c + 0 = omega arith in ap (λ (k : ℕ). xor (xor z o) (row_of words k)) place
get_or-masked_from words c (z ∷ zeros) (o ∷ ones) (suc i) l within =
    let place : c + 1 + i ≡ c + suc i = omega arith in
    get_or-masked_from words (c + 1) zeros ones i (omega arith) (omega arith) ∙ ap (λ (k : ℕ). xor (xor (get_or zeros i []) (get_or ones i [])) (row_of words k)) place

pub get_or-chosen_columns_from : (choice : List ℕ) (c : ℕ) (zeros ones : List (List ℕ)) (i : ℕ) → length zeros ≡ length ones → i < length zeros
    → get_or (chosen_columns_from choice c zeros ones) i [] ≡ cond (nat_eq (bit_of choice (c + i)) 0) (get_or zeros i []) (get_or ones i [])
get_or-chosen_columns_from choice c [] ones i l within = absurd (omega arith)
get_or-chosen_columns_from choice c (z ∷ zeros) [] i l within = absurd (omega arith)
get_or-chosen_columns_from choice c (z ∷ zeros) (o ∷ ones) zero l within = let place : c ≡ c + 0 = omega arith in ap (λ (k : ℕ). cond (nat_eq (bit_of choice k) 0) z o) place
get_or-chosen_columns_from choice c (z ∷ zeros) (o ∷ ones) (suc i) l within =
    let place : c + 1 + i ≡ c + suc i = omega arith in
    get_or-chosen_columns_from choice (c + 1) zeros ones i (omega arith) (omega arith) ∙ ap (λ (k : ℕ). cond (nat_eq (bit_of choice k) 0) (get_or zeros i []) (get_or ones i [])) place

from_zero : (c : ℕ) → 0 + c ≡ c
from_zero c = omega arith

pub get_or-masked_columns : (words : List (List ℕ)) (sets : ColumnSets) (c : ℕ) → length sets.zeros ≡ length sets.ones → c < length sets.zeros
    → get_or (masked_columns words sets) c [] ≡ xor (xor (get_or sets.zeros c []) (get_or sets.ones c [])) (row_of words c)
unfolding masked_columns
get_or-masked_columns words sets c l within =
    get_or-masked_from words 0 sets.zeros sets.ones c l within
    ∙ ap (λ (k : ℕ). xor (xor (get_or sets.zeros c []) (get_or sets.ones c [])) (row_of words k)) (from_zero c)

pub get_or-chosen_columns : (choice : List ℕ) (sets : ColumnSets) (c : ℕ) → length sets.zeros ≡ length sets.ones → c < length sets.zeros
    → get_or (chosen_columns choice sets) c [] ≡ cond (nat_eq (bit_of choice c) 0) (get_or sets.zeros c []) (get_or sets.ones c [])
unfolding chosen_columns
get_or-chosen_columns choice sets c l within =
    get_or-chosen_columns_from choice 0 sets.zeros sets.ones c l within
    ∙ ap (λ (k : ℕ). cond (nat_eq (bit_of choice k) 0) (get_or sets.zeros c []) (get_or sets.ones c [])) (from_zero c)

pub length-masked_columns : (words : List (List ℕ)) (sets : ColumnSets) → length sets.zeros ≡ length sets.ones → length (masked_columns words sets) ≡ length sets.zeros
unfolding masked_columns
length-masked_columns words sets l = length-masked_from words 0 sets.zeros sets.ones l

pub length-chosen_columns : (choice : List ℕ) (sets : ColumnSets) → length sets.zeros ≡ length sets.ones → length (chosen_columns choice sets) ≡ length sets.zeros
unfolding chosen_columns
length-chosen_columns choice sets l = length-chosen_columns_from choice 0 sets.zeros sets.ones l

length-opened_from : (choice : List ℕ) (c : ℕ) (chosen sent : List (List ℕ)) → length chosen ≡ length sent → length (opened_from choice c chosen sent) ≡ length chosen
length-opened_from choice c [] sent l = refl
length-opened_from choice c (x ∷ chosen) [] l = absurd (omega arith)
length-opened_from choice c (x ∷ chosen) (u ∷ sent) l = ap suc (length-opened_from choice (c + 1) chosen sent (omega arith))

pub length-opened_columns : (choice : List ℕ) (chosen sent : List (List ℕ)) → length chosen ≡ length sent → length (opened_columns choice chosen sent) ≡ length chosen
unfolding opened_columns
length-opened_columns choice chosen sent l = length-opened_from choice 0 chosen sent l

get_or-opened_from : (choice : List ℕ) (c : ℕ) (chosen sent : List (List ℕ)) (i : ℕ) → length chosen ≡ length sent → i < length chosen
    → get_or (opened_from choice c chosen sent) i [] ≡ cond (nat_eq (bit_of choice (c + i)) 0) (get_or chosen i []) (xor (get_or chosen i []) (get_or sent i []))
get_or-opened_from choice c [] sent i l within = absurd (omega arith)
get_or-opened_from choice c (x ∷ chosen) [] i l within = absurd (omega arith)
get_or-opened_from choice c (x ∷ chosen) (u ∷ sent) zero l within = let place : c ≡ c + 0 = omega arith in ap (λ (k : ℕ). cond (nat_eq (bit_of choice k) 0) x (xor x u)) place
get_or-opened_from choice c (x ∷ chosen) (u ∷ sent) (suc i) l within =
    let place : c + 1 + i ≡ c + suc i = omega arith in
    get_or-opened_from choice (c + 1) chosen sent i (omega arith) (omega arith) ∙ ap (λ (k : ℕ). cond (nat_eq (bit_of choice k) 0) (get_or chosen i []) (xor (get_or chosen i []) (get_or sent i []))) place

pub get_or-opened_columns : (choice : List ℕ) (chosen sent : List (List ℕ)) (c : ℕ) → length chosen ≡ length sent → c < length chosen
    → get_or (opened_columns choice chosen sent) c [] ≡ cond (nat_eq (bit_of choice c) 0) (get_or chosen c []) (xor (get_or chosen c []) (get_or sent c []))
unfolding opened_columns
get_or-opened_columns choice chosen sent c l within =
    get_or-opened_from choice 0 chosen sent c l within ∙ ap (λ (k : ℕ). cond (nat_eq (bit_of choice k) 0) (get_or chosen c []) (xor (get_or chosen c []) (get_or sent c []))) (from_zero c)

-- ---- rows

-- columns have the size of so many rows, one by one
abbrev HasSize : ℕ → List (List ℕ) → Type 0
HasSize rows columns = (c : ℕ) → c < 512 → length (get_or columns c []) ≡ column_bytes rows

has_size : (rows : ℕ) (columns : List (List ℕ)) → AreColumns rows columns → HasSize rows columns
has_size rows columns are c l = are.long c [] (let count = are.count in omega arith)

bit_of-cond : (b : Bool) (x y : List ℕ) (j : ℕ) → bit_of (cond b x y) j ≡ cond b (bit_of x j) (bit_of y j)
bit_of-cond true x y j = refl
bit_of-cond false x y j = refl

-- a bit that is put in where the choice bit is 1
put_in_bit : (s x u : ℕ) → s < 2 → x < 2 → u < 2 → cond (nat_eq s 0) x ((x + u) % 2) ≡ (x + min s u) % 2
put_in_bit zero x u ls lx lu = omega arith
put_in_bit (suc zero) x u ls lx lu = omega arith
put_in_bit (suc (suc s)) x u ls lx lu = absurd (omega arith)

-- a word whose bits are those of one row, xor what the choice word and another word share
same_as_opened : (opened own choice other : List ℕ) → length opened ≡ 64 → length own ≡ 64 → length choice ≡ 64 → length other ≡ 64 → AreBytes opened → AreBytes own → AreBytes other
    → ((c : ℕ) → c < 512 → bit_of opened c ≡ (bit_of own c + min (bit_of choice c) (bit_of other c)) % 2) → opened ≡ xor own (both choice other)
same_as_opened opened own choice other lo lw lc lr are_o are_w are_r same =
    let shared : length (both choice other) ≡ 64 = length-both 64 choice other lc lr in
    same_from_bits_of opened (xor own (both choice other)) (lo ∙ sym (length-xor 64 own (both choice other) lw shared)) are_o
    (AreBytes-xor own (both choice other) (lw ∙ sym shared) are_w (AreBytes-both choice other are_r))
    (λ c l. same c (omega arith)
    ∙ (ap (λ (n : ℕ). (bit_of own c + n) % 2) (sym (bit_of-both choice other c)) ∙ sym (bit_of-xor own (both choice other) c (lw ∙ sym shared))))

-- bit c of a row of opened columns
bit_of-opened : (choice : List ℕ) (chosen sent : List (List ℕ)) (rows j c : ℕ) → length chosen ≡ 512 → length sent ≡ 512 → HasSize rows chosen → HasSize rows sent → c < 512
    → bit_of (row_of (opened_columns choice chosen sent) j) c ≡ (bit_of (row_of chosen j) c + min (bit_of choice c) (bit_of (row_of sent j) c)) % 2
bit_of-opened choice chosen sent rows j c lx lu long_x long_u l =
    let x : List ℕ = get_or chosen c [] in
    let u : List ℕ = get_or sent c [] in
    bit_of-row_of (opened_columns choice chosen sent) j c
    ∙ (ap (λ (column : List ℕ). bit_of column j) (get_or-opened_columns choice chosen sent c (lx ∙ sym lu) (omega arith))
    ∙ (bit_of-cond (nat_eq (bit_of choice c) 0) x (xor x u) j
    ∙ (ap (λ (n : ℕ). cond (nat_eq (bit_of choice c) 0) (bit_of x j) n) (bit_of-xor x u j (long_x c l ∙ sym (long_u c l)))
    ∙ (put_in_bit (bit_of choice c) (bit_of x j) (bit_of u j) (bit_of-lt choice c) (bit_of-lt x j) (bit_of-lt u j)
    ∙ ap₂ (λ (m n : ℕ). (m + min (bit_of choice c) n) % 2) (sym (bit_of-row_of chosen j c)) (sym (bit_of-row_of sent j c))))))

pub opens_columns : OpensColumns
opens_columns choice chosen sent rows j lc are_x are_u =
    let lx : length chosen ≡ 512 = are_x.count in
    let lu : length sent ≡ 512 = are_u.count in
    same_as_opened (row_of (opened_columns choice chosen sent) j) (row_of chosen j) choice (row_of sent j)
    (length-row_of 64 (opened_columns choice chosen sent) j (length-opened_columns choice chosen sent (lx ∙ sym lu) ∙ lx))
    (length-row_of 64 chosen j lx) lc (length-row_of 64 sent j lu)
    (AreBytes-row_of (opened_columns choice chosen sent) j) (AreBytes-row_of chosen j) (AreBytes-row_of sent j)
    (λ c l. bit_of-opened choice chosen sent rows j c lx lu (has_size rows chosen are_x) (has_size rows sent are_u) l)

-- ---- rows of one pair of column sets

-- what a chosen bit and a masked bit give together: the zero column's bit, and under the choice the word's
opened_bit : (s z o r : ℕ) → s < 2 → z < 2 → o < 2 → r < 2 → (cond (nat_eq s 0) z o + min s (((z + o) % 2 + r) % 2)) % 2 ≡ (z + min s r) % 2
opened_bit zero z o r ls lz lo lr = omega arith
opened_bit (suc zero) z o r ls lz lo lr = omega arith
opened_bit (suc (suc s)) z o r ls lz lo lr = absurd (omega arith)

module _ (choice : List ℕ) (sets : ColumnSets) (words : List (List ℕ)) (lz : length sets.zeros ≡ 512) (lo : length sets.ones ≡ 512)
    (long_z : HasSize (length words) sets.zeros) (long_o : HasSize (length words) sets.ones) where
  same_count : length sets.zeros ≡ length sets.ones
  same_count = lz ∙ sym lo

  masked_long : (c : ℕ) → c < 512 → length (xor (get_or sets.zeros c []) (get_or sets.ones c [])) ≡ column_bytes (length words)
  masked_long c l = length-xor (column_bytes (length words)) (get_or sets.zeros c []) (get_or sets.ones c []) (long_z c l) (long_o c l)

  masked_size : HasSize (length words) (masked_columns words sets)
  masked_size c l =
      ap length (get_or-masked_columns words sets c same_count (omega arith))
      ∙ length-xor (column_bytes (length words)) (xor (get_or sets.zeros c []) (get_or sets.ones c [])) (row_of words c) (masked_long c l) (length-row_of_words words c)

  chosen_size : HasSize (length words) (chosen_columns choice sets)
  chosen_size c l = ap length (get_or-chosen_columns choice sets c same_count (omega arith)) ∙ by_case (nat_eq (bit_of choice c) 0)
    where
      by_case : (b : Bool) → length (cond b (get_or sets.zeros c []) (get_or sets.ones c [])) ≡ column_bytes (length words)
      by_case true = long_z c l
      by_case false = long_o c l

  -- bit c of a row of the chosen columns, and of the masked ones
  bit_of-chosen : (j c : ℕ) → c < 512
      → bit_of (row_of (chosen_columns choice sets) j) c ≡ cond (nat_eq (bit_of choice c) 0) (bit_of (get_or sets.zeros c []) j) (bit_of (get_or sets.ones c []) j)
  bit_of-chosen j c l =
      bit_of-row_of (chosen_columns choice sets) j c
      ∙ (ap (λ (column : List ℕ). bit_of column j) (get_or-chosen_columns choice sets c same_count (omega arith))
      ∙ bit_of-cond (nat_eq (bit_of choice c) 0) (get_or sets.zeros c []) (get_or sets.ones c []) j)

  bit_of-masked_row : (j c : ℕ) → c < 512
      → bit_of (row_of (masked_columns words sets) j) c ≡ ((bit_of (get_or sets.zeros c []) j + bit_of (get_or sets.ones c []) j) % 2 + bit_of (get_or words j []) c) % 2
  bit_of-masked_row j c l =
      let z : List ℕ = get_or sets.zeros c [] in
      let o : List ℕ = get_or sets.ones c [] in
      bit_of-row_of (masked_columns words sets) j c
      ∙ (ap (λ (column : List ℕ). bit_of column j) (get_or-masked_columns words sets c same_count (omega arith))
      ∙ (bit_of-xor (xor z o) (row_of words c) j (masked_long c l ∙ sym (length-row_of_words words c))
      ∙ ap₂ (λ (a b : ℕ). (a + b) % 2) (bit_of-xor z o j (long_z c l ∙ sym (long_o c l))) (bit_of-row_of words c j)))

  bit_of-opened_row : (j c : ℕ) → c < 512
      → bit_of (row_of (opened_columns choice (chosen_columns choice sets) (masked_columns words sets)) j) c
      ≡ (bit_of (row_of sets.zeros j) c + min (bit_of choice c) (bit_of (get_or words j []) c)) % 2
  bit_of-opened_row j c l =
      let z : List ℕ = get_or sets.zeros c [] in
      let o : List ℕ = get_or sets.ones c [] in
      let r : List ℕ = get_or words j [] in
      bit_of-opened choice (chosen_columns choice sets) (masked_columns words sets) (length words) j c
      (length-chosen_columns choice sets same_count ∙ lz) (length-masked_columns words sets same_count ∙ lz) chosen_size masked_size l
      ∙ (ap₂ (λ (a b : ℕ). (a + min (bit_of choice c) b) % 2) (bit_of-chosen j c l) (bit_of-masked_row j c l)
      ∙ (opened_bit (bit_of choice c) (bit_of z j) (bit_of o j) (bit_of r c) (bit_of-lt choice c) (bit_of-lt z j) (bit_of-lt o j) (bit_of-lt r c)
      ∙ ap (λ (a : ℕ). (a + min (bit_of choice c) (bit_of r c)) % 2) (sym (bit_of-row_of sets.zeros j c))))

pub opens_rows : OpensRows
opens_rows choice sets words j lc are_z are_o is_word =
    let lz : length sets.zeros ≡ 512 = are_z.count in
    let lo : length sets.ones ≡ 512 = are_o.count in
    let chosen : List (List ℕ) = chosen_columns choice sets in
    let sent : List (List ℕ) = masked_columns words sets in
    let count : length (opened_columns choice chosen sent) ≡ 512 =
    length-opened_columns choice chosen sent (length-chosen_columns choice sets (lz ∙ sym lo) ∙ sym (length-masked_columns words sets (lz ∙ sym lo)))
    ∙ (length-chosen_columns choice sets (lz ∙ sym lo) ∙ lz) in
    same_as_opened (row_of (opened_columns choice chosen sent) j) (row_of sets.zeros j) choice (get_or words j [])
    (length-row_of 64 (opened_columns choice chosen sent) j count) (length-row_of 64 sets.zeros j lz) lc is_word.size
    (AreBytes-row_of (opened_columns choice chosen sent) j) (AreBytes-row_of sets.zeros j) is_word.bytes
    (bit_of-opened_row choice sets words lz lo (has_size (length words) sets.zeros are_z) (has_size (length words) sets.ones are_o) j)
