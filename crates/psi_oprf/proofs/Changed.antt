-- Columns that are changed where a bit of a choice word says so.
use Rattle.std.proofs.Common.{◌≡◌, ◌≢◌, ◌+◌, ◌%◌, ◌<◌, ◌∙◌, ℕ, suc, zero, Bool, true, false, cond, nat_eq, List, [], ◌∷◌, length, get_or, set, refl, sym, ap, subst, arith, ext_get_or, ⊎_elim}
use Rattle.std.proofs.Math.Bool.{beq}
use Rattle.std.specs.Bool.{IsTrue}
use Rattle.std.proofs.lemmas.Bool.{cases_eq, false≢true}
use Rattle.std.proofs.lemmas.List.{get_or-set_same, get_or-set_other}
use Rattle.psi_spec.specs.Bits.{bit_of, xor}
use Rattle.psi_spec.specs.Changes.{difference, changed_from, change}
use Rattle.psi_spec.specs.Columns.{column_bytes, row_of}
use Rattle.psi_spec.specs.ColumnSets.{ColumnSets}
use Rattle.psi_spec.specs.HidingLaws.{differing_bit}
use Rattle.psi_spec.specs.Matrices.{Matrix, IsClean, column_of, with_column}
use Rattle.psi_spec.proofs.Clean.{clean-xor}
use Rattle.psi_spec.proofs.ColumnSets.{bit_of-lt, length-row_of_words}
use Rattle.psi_spec.proofs.Hiding.{get_or-change_zeros, get_or-change_ones}
use Rattle.psi_spec.proofs.Packing.{bit_of-row_of}
use Rattle.psi_spec.proofs.Xor.{xor-assoc, length-xor, bit_of-xor}

-- a bit is the one that is looked for just where both truth values agree
pub bit_is : (found wanted : Bool) (s : ℕ) → s < 2 → (IsTrue found → s ≡ 1) × (s ≡ 1 → IsTrue found) → nat_eq s (cond wanted 1 0) ≡ beq found wanted
bit_is true true s l e = ap (λ (k : ℕ). nat_eq k 1) (e.0 refl)
bit_is true false s l e = ap (λ (k : ℕ). nat_eq k 0) (e.0 refl)
bit_is false true zero l e = refl
bit_is false false zero l e = refl
bit_is false wanted (suc zero) l e = absurd (false≢true (e.1 refl))
bit_is false wanted (suc (suc s)) l e = absurd (omega arith)

-- one more column is as wanted, and the others stay
pub one_more : (m : Matrix) (c : ℕ) (bytes : List ℕ) (wanted : ℕ → List ℕ) → c < length m.columns → bytes ≡ wanted c
    → ((k : ℕ) → k < c → column_of m k ≡ wanted k) → (k : ℕ) → k < c + 1 → column_of (with_column m c bytes) k ≡ wanted k
one_more m c bytes wanted l e done k within =
    ⊎_elim
    (λ (same : k ≡ c). subst (λ (i : ℕ). get_or (set m.columns c bytes) i [] ≡ wanted i) (sym same) (get_or-set_same m.columns c bytes [] l ∙ e))
    (λ (other : k ≢ c). get_or-set_other m.columns c k bytes [] other ∙ done k (omega arith))
    (cases_eq k c)

-- a clean column stays clean
pub clean_where : (changed : Bool) (rows : ℕ) (column bytes : List ℕ) → length column ≡ length bytes → IsClean rows column → IsClean rows bytes → IsClean rows (cond changed (xor column bytes) column)
clean_where true rows column bytes l is_clean are_clean = clean-xor rows column bytes l is_clean are_clean
clean_where false rows column bytes l is_clean are_clean = is_clean

-- a column that is changed by one list of words and then by the other is changed by what they differ in
pub changed_twice : (changed : Bool) (column first second row other : List ℕ)
    → first ≡ cond changed (xor column row) column → second ≡ cond changed (xor first other) first → second ≡ cond changed (xor column (xor row other)) column
changed_twice true column first second row other f s = s ∙ (ap (λ (x : List ℕ). xor x other) f ∙ xor-assoc column row other)
changed_twice false column first second row other f s = s ∙ f

-- a column keeps its size
pub length-where : (changed : Bool) (n : ℕ) (column bytes : List ℕ) → length column ≡ n → length bytes ≡ n → length (cond changed (xor column bytes) column) ≡ n
length-where true n column bytes l m = length-xor n column bytes l m
length-where false n column bytes l m = l

-- ---- columns that are changed by two lists of words

-- a column of a change, where the bit of the choice word is `bit`
abbrev pub changed_at : List ℕ → ℕ → List (List ℕ) → List (List ℕ) → Matrix → ℕ → List ℕ
changed_at choice bit words others old k =
    cond (nat_eq (bit_of choice k) bit) (xor (column_of old k) (difference words others k)) (column_of old k)

-- columns are changed where the bit of the choice word is `bit`, by the columns that a list of words is
abbrev pub AreChangedBy : List ℕ → ℕ → List (List ℕ) → Matrix → Matrix → Matrix → Type 0
AreChangedBy choice bit words by old new =
    (k : ℕ) → k < 512 → (column_of new k ≡ cond (nat_eq (bit_of choice k) bit) (xor (column_of old k) (column_of by k)) (column_of old k))
    × (column_of by k ≡ row_of words k)

pub changed_by_both : (choice : List ℕ) (bit : ℕ) (words others : List (List ℕ)) (by other_by old first second : Matrix)
    → AreChangedBy choice bit words by old first → AreChangedBy choice bit others other_by first second
    → (k : ℕ) → k < 512 → column_of second k ≡ changed_at choice bit words others old k
changed_by_both choice bit words others by other_by old first second once again k l =
    let test : Bool = nat_eq (bit_of choice k) bit in
    changed_twice test (column_of old k) (column_of first k) (column_of second k) (row_of words k) (row_of others k)
    ((once k l).0 ∙ ap (λ (x : List ℕ). cond test (xor (column_of old k) x) (column_of old k)) (once k l).1)
    ((again k l).0 ∙ ap (λ (x : List ℕ). cond test (xor (column_of first k) x) (column_of first k)) (again k l).1)

length-changed_from : (choice : List ℕ) (bit : ℕ) (words others : List (List ℕ)) (c : ℕ) (columns : List (List ℕ)) → length (changed_from choice bit words others c columns) ≡ length columns
length-changed_from choice bit words others c [] = refl
length-changed_from choice bit words others c (column ∷ columns) = ap suc (length-changed_from choice bit words others (c + 1) columns)

length-change_zeros : (choice : List ℕ) (words others : List (List ℕ)) (sets : ColumnSets) → length (change choice words others sets).zeros ≡ length sets.zeros
unfolding change
length-change_zeros choice words others sets = length-changed_from choice 1 words others 0 sets.zeros

length-change_ones : (choice : List ℕ) (words others : List (List ℕ)) (sets : ColumnSets) → length (change choice words others sets).ones ≡ length sets.ones
unfolding change
length-change_ones choice words others sets = length-changed_from choice 0 words others 0 sets.ones

-- columns each of which is changed are those of the change
pub zeros_of_change : (choice : List ℕ) (words others : List (List ℕ)) (zeros ones new : Matrix) → length zeros.columns ≡ 512 → length new.columns ≡ 512
    → ((k : ℕ) → k < 512 → column_of new k ≡ changed_at choice 1 words others zeros k)
    → new.columns ≡ (change choice words others (record { zeros = zeros.columns; ones = ones.columns })).zeros
zeros_of_change choice words others zeros ones new lz ln each =
    let sets : ColumnSets = record { zeros = zeros.columns; ones = ones.columns } in
    ext_get_or [] new.columns (change choice words others sets).zeros (ln ∙ sym (length-change_zeros choice words others sets ∙ lz))
    (λ k l. each k (omega arith) ∙ sym (get_or-change_zeros choice words others sets k (omega arith)))

pub ones_of_change : (choice : List ℕ) (words others : List (List ℕ)) (zeros ones new : Matrix) → length ones.columns ≡ 512 → length new.columns ≡ 512
    → ((k : ℕ) → k < 512 → column_of new k ≡ changed_at choice 0 words others ones k)
    → new.columns ≡ (change choice words others (record { zeros = zeros.columns; ones = ones.columns })).ones
ones_of_change choice words others zeros ones new lo ln each =
    let sets : ColumnSets = record { zeros = zeros.columns; ones = ones.columns } in
    ext_get_or [] new.columns (change choice words others sets).ones (ln ∙ sym (length-change_ones choice words others sets ∙ lo))
    (λ k l. each k (omega arith) ∙ sym (get_or-change_ones choice words others sets k (omega arith)))

-- ---- their bits

-- bit j of a column that is changed by what two lists of words differ in
put_in_bit : (words others : List (List ℕ)) (column : List ℕ) (c j : ℕ) → length column ≡ column_bytes (length words) → length others ≡ length words
    → bit_of (xor column (difference words others c)) j ≡ (bit_of column j + differing_bit words others c j) % 2
put_in_bit words others column c j l same =
    let a : List ℕ = row_of words c in
    let b : List ℕ = row_of others c in
    let la : length a ≡ column_bytes (length words) = length-row_of_words words c in
    let lb : length b ≡ column_bytes (length words) = length-row_of_words others c ∙ ap column_bytes same in
    let ld : length (xor a b) ≡ column_bytes (length words) = length-xor (column_bytes (length words)) a b la lb in
    bit_of-xor column (xor a b) j (l ∙ sym ld) ∙ omega (arith, bit_of-xor a b j (la ∙ sym lb), bit_of-row_of words c j, bit_of-row_of others c j)

-- where the bit of the choice word is 1 it is changed
zero_bit : (s : ℕ) (column changes : List ℕ) (j n : ℕ) → s < 2 → bit_of (xor column changes) j ≡ n → bit_of (cond (nat_eq s 1) (xor column changes) column) j ≡ cond (nat_eq s 0) (bit_of column j) n
zero_bit zero column changes j n l e = refl
zero_bit (suc zero) column changes j n l e = e
zero_bit (suc (suc s)) column changes j n l e = absurd (omega arith)

-- where it is 0 it is changed
one_bit : (s : ℕ) (column changes : List ℕ) (j n : ℕ) → s < 2 → bit_of (xor column changes) j ≡ n → bit_of (cond (nat_eq s 0) (xor column changes) column) j ≡ cond (nat_eq s 0) n (bit_of column j)
one_bit zero column changes j n l e = e
one_bit (suc zero) column changes j n l e = refl
one_bit (suc (suc s)) column changes j n l e = absurd (omega arith)

pub bit_of-changed_zero : (choice : List ℕ) (words others : List (List ℕ)) (zeros : Matrix) (c j : ℕ) → length (column_of zeros c) ≡ column_bytes (length words) → length others ≡ length words
    → bit_of (changed_at choice 1 words others zeros c) j ≡ cond (nat_eq (bit_of choice c) 0) (bit_of (column_of zeros c) j) ((bit_of (column_of zeros c) j + differing_bit words others c j) % 2)
bit_of-changed_zero choice words others zeros c j l same =
    zero_bit (bit_of choice c) (column_of zeros c) (difference words others c) j ((bit_of (column_of zeros c) j + differing_bit words others c j) % 2)
    (bit_of-lt choice c) (put_in_bit words others (column_of zeros c) c j l same)

pub bit_of-changed_one : (choice : List ℕ) (words others : List (List ℕ)) (ones : Matrix) (c j : ℕ) → length (column_of ones c) ≡ column_bytes (length words) → length others ≡ length words
    → bit_of (changed_at choice 0 words others ones c) j ≡ cond (nat_eq (bit_of choice c) 0) ((bit_of (column_of ones c) j + differing_bit words others c j) % 2) (bit_of (column_of ones c) j)
bit_of-changed_one choice words others ones c j l same =
    one_bit (bit_of choice c) (column_of ones c) (difference words others c) j ((bit_of (column_of ones c) j + differing_bit words others c j) % 2)
    (bit_of-lt choice c) (put_in_bit words others (column_of ones c) c j l same)
