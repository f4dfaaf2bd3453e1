-- The change of columns hides the receiver's items: it is its own inverse, keeps what was chosen, and gives equal
-- streams; and each view has one source.
use Rattle.std.proofs.Common.{◌≡◌, ◌+◌, ◌%◌, ◌<◌, ℕ, suc, zero, Bool, true, false, cond, All, List, [], ◌∷◌, length, get_or, nat_eq, refl, sym, ap, ap₂, ◌∙◌, arith}
use Rattle.std.specs.List.{AllByRecursion}
use Rattle.std.proofs.lemmas.List.{get_or_past}
use Rattle.std.proofs.lemmas.List.FromFn.{length-map-range_with_len}
use Rattle.std.proofs.lemmas.Nat.Bits.{bit_at-zero}
use Rattle.psi_spec.specs.Limits.{rows_for}
use Rattle.psi_spec.specs.Bits.{bit_of, xor}
use Rattle.psi_spec.specs.Columns.{column_bytes, row_of}
use Rattle.psi_spec.specs.Matrices.{IsColumn, IsColumnSet}
use Rattle.psi_spec.specs.ColumnSets.{ColumnSets, AreColumnSets, masked_from, masked_columns, chosen_columns_from, chosen_columns}
use Rattle.psi_spec.specs.Changes.{difference, changed_from, change}
use Rattle.psi_spec.specs.Deals.{ReceiverDeal}
use Rattle.psi_spec.specs.Meeting.{Placed, row_word}
use Rattle.psi_spec.specs.Streams.{words_of, receiver_stream, sender_stream}
use Rattle.psi_spec.specs.HidingLaws.{ChangesBits, bit_in, differing_bit, HasOneSource, Hides, SetsAreHidden, StreamsAreOver, sender_stream_over}
use Rattle.psi_spec.proofs.Xor.{length-xor, xor-assoc, xor-comm, xor-twice, bit_of-xor}
use Rattle.psi_spec.proofs.Packing.{AreBytes-row_of, bit_of-row_of}
use Rattle.psi_spec.proofs.Bytes.{AreBytes-xor}
use Rattle.psi_spec.proofs.ColumnSets.{bit_of-lt, length-row_of_words}

-- ---- every element

by_recursion : {X : Type 0} (P : X → Type 0) (xs : List X) → All P xs → AllByRecursion P xs
by_recursion P [] h = tt
by_recursion P (x ∷ xs) h = (h 0 x (omega arith), by_recursion P xs (λ k d l. h (suc k) d (omega arith)))

by_place : {X : Type 0} (P : X → Type 0) (xs : List X) → AllByRecursion P xs → All P xs
by_place P [] h k d l = absurd (omega arith)
by_place P (x ∷ xs) h zero d l = h.0
by_place P (x ∷ xs) h (suc k) d l = by_place P xs h.1 k d (omega arith)

-- ---- columns

pub IsColumn-xor : (rows : ℕ) (a b : List ℕ) → IsColumn rows a → IsColumn rows b → IsColumn rows (xor a b)
IsColumn-xor rows a b is_a is_b = record {
  size = length-xor (column_bytes rows) a b is_a.size is_b.size;
  bytes = AreBytes-xor a b (is_a.size ∙ sym is_b.size) is_a.bytes is_b.bytes;
  padding = λ j l. omega (arith, bit_of-xor a b j (is_a.size ∙ sym is_b.size), is_a.padding j l, is_b.padding j l);
}

pub IsColumn-row_of : (rows : ℕ) (words : List (List ℕ)) (c : ℕ) → length words ≡ rows → IsColumn rows (row_of words c)
IsColumn-row_of rows words c l = record {
  size = length-row_of_words words c ∙ ap column_bytes l;
  bytes = AreBytes-row_of words c;
  padding = λ j past. bit_of-row_of words c j ∙ (ap (λ (word : List ℕ). bit_of word c) (get_or_past words j [] (omega arith)) ∙ bit_at-zero (c % 8));
}

pub IsColumn-difference : (rows : ℕ) (words others : List (List ℕ)) (c : ℕ) → length words ≡ rows → length others ≡ rows → IsColumn rows (difference words others c)
IsColumn-difference rows words others c lw lo =
    IsColumn-xor rows (row_of words c) (row_of others c) (IsColumn-row_of rows words c lw) (IsColumn-row_of rows others c lo)

-- ---- exclusive ors of columns of one size

-- what a sum and one part give is the other part
other_part : (n : ℕ) (a b m : List ℕ) → length a ≡ n → length b ≡ n → length m ≡ n → xor (xor a (xor (xor a b) m)) m ≡ b
other_part n a b m la lb lm =
    let lab : length (xor a b) ≡ n = length-xor n a b la lb in
    let whole : List ℕ = xor a (xor a b) in
    let lwhole : length whole ≡ n = length-xor n a (xor a b) la lab in
    ap (λ (x : List ℕ). xor x m) (sym (xor-assoc a (xor a b) m))
    ∙ (xor-twice whole m (omega arith)
    ∙ (xor-comm a (xor a b)
    ∙ (ap (λ (x : List ℕ). xor x a) (xor-comm a b) ∙ xor-twice b a (omega arith))))

other_part' : (n : ℕ) (a b m : List ℕ) → length a ≡ n → length b ≡ n → length m ≡ n → xor (xor (xor (xor a b) m) a) m ≡ b
other_part' n a b m la lb lm = ap (λ (x : List ℕ). xor x m) (xor-comm (xor (xor a b) m) a) ∙ other_part n a b m la lb lm

other_part'' : (n : ℕ) (a b m : List ℕ) → length a ≡ n → length b ≡ n → length m ≡ n → xor (xor a (xor (xor b a) m)) m ≡ b
other_part'' n a b m la lb lm = ap (λ (x : List ℕ). xor (xor a (xor x m)) m) (xor-comm b a) ∙ other_part n a b m la lb lm

-- a change of one part and the other words give the same sum
same_sum : (n : ℕ) (z o m k : List ℕ) → length z ≡ n → length o ≡ n → length m ≡ n → length k ≡ n → xor (xor z (xor o (xor m k))) k ≡ xor (xor z o) m
same_sum n z o m k lz lo lm lk =
    let lzo : length (xor z o) ≡ n = length-xor n z o lz lo in
    let lzom : length (xor (xor z o) m) ≡ n = length-xor n (xor z o) m lzo lm in
    ap (λ (x : List ℕ). xor x k) (sym (xor-assoc z o (xor m k)) ∙ sym (xor-assoc (xor z o) m k)) ∙ xor-twice (xor (xor z o) m) k (omega arith)

same_sum' : (n : ℕ) (z o m k : List ℕ) → length z ≡ n → length o ≡ n → length m ≡ n → length k ≡ n → xor (xor (xor z (xor m k)) o) k ≡ xor (xor z o) m
same_sum' n z o m k lz lo lm lk =
    ap (λ (x : List ℕ). xor x k) (xor-assoc z (xor m k) o ∙ ap (xor z) (xor-comm (xor m k) o)) ∙ same_sum n z o m k lz lo lm lk

-- ---- the change

module _ (rows : ℕ) (choice : List ℕ) (words others : List (List ℕ)) (lw : length words ≡ rows) (lo : length others ≡ rows) where
  -- it gives columns
  is_changed : (bit c : ℕ) (columns : List (List ℕ)) → AllByRecursion (IsColumn rows) columns → AllByRecursion (IsColumn rows) (changed_from choice bit words others c columns)
  is_changed bit c [] each = tt
  is_changed bit c (column ∷ columns) each = (by_case (nat_eq (bit_of choice c) bit), is_changed bit (c + 1) columns each.1)
    where
      by_case : (b : Bool) → IsColumn rows (cond b (xor column (difference words others c)) column)
      by_case true = IsColumn-xor rows column (difference words others c) each.0 (IsColumn-difference rows words others c lw lo)
      by_case false = each.0

  length-changed_from : (bit c : ℕ) (columns : List (List ℕ)) → length (changed_from choice bit words others c columns) ≡ length columns
  length-changed_from bit c [] = refl
  length-changed_from bit c (column ∷ columns) = ap suc (length-changed_from bit (c + 1) columns)

  -- twice it is nothing
  undone_from : (bit c : ℕ) (columns : List (List ℕ)) → AllByRecursion (IsColumn rows) columns → changed_from choice bit words others c (changed_from choice bit words others c columns) ≡ columns
  undone_from bit c [] each = refl
  undone_from bit c (column ∷ columns) each =
      ap₂ (λ (x : List ℕ) (xs : List (List ℕ)). x ∷ xs) (by_case (nat_eq (bit_of choice c) bit)) (undone_from bit (c + 1) columns each.1)
    where
      d : List ℕ
      d = difference words others c

      by_case : (b : Bool) → cond b (xor (cond b (xor column d) column) d) (cond b (xor column d) column) ≡ column
      by_case true = xor-twice column d (let is_d : IsColumn rows d = IsColumn-difference rows words others c lw lo in omega (arith, each.0.size, is_d.size))
      by_case false = refl

  chosen_step : (s : ℕ) (z o d : List ℕ) → s < 2 → cond (nat_eq s 0) (cond (nat_eq s 1) (xor z d) z) (cond (nat_eq s 0) (xor o d) o) ≡ cond (nat_eq s 0) z o
  chosen_step zero z o d l = refl
  chosen_step (suc zero) z o d l = refl
  chosen_step (suc (suc s)) z o d l = absurd (omega arith)

  -- what is chosen stays
  chosen_from_changed : (c : ℕ) (zeros ones : List (List ℕ)) → chosen_columns_from choice c (changed_from choice 1 words others c zeros) (changed_from choice 0 words others c ones) ≡ chosen_columns_from choice c zeros ones
  chosen_from_changed c [] ones = refl
  chosen_from_changed c (z ∷ zeros) [] = refl
  chosen_from_changed c (z ∷ zeros) (o ∷ ones) =
      ap₂ (λ (x : List ℕ) (xs : List (List ℕ)). x ∷ xs) (chosen_step (bit_of choice c) z o (difference words others c) (bit_of-lt choice c)) (chosen_from_changed (c + 1) zeros ones)

  masked_step : (s : ℕ) (z o m k : List ℕ) → s < 2 → length z ≡ column_bytes rows → length o ≡ column_bytes rows → length m ≡ column_bytes rows → length k ≡ column_bytes rows
      → xor (xor (cond (nat_eq s 1) (xor z (xor m k)) z) (cond (nat_eq s 0) (xor o (xor m k)) o)) k ≡ xor (xor z o) m
  masked_step zero z o m k l lz lo lm lk = same_sum (column_bytes rows) z o m k lz lo lm lk
  masked_step (suc zero) z o m k l lz lo lm lk = same_sum' (column_bytes rows) z o m k lz lo lm lk
  masked_step (suc (suc s)) z o m k l lz lo lm lk = absurd (omega arith)

  -- the other words mask the changed columns as the words mask the columns
  masked_from_changed : (c : ℕ) (zeros ones : List (List ℕ)) → AllByRecursion (IsColumn rows) zeros → AllByRecursion (IsColumn rows) ones
      → masked_from others c (changed_from choice 1 words others c zeros) (changed_from choice 0 words others c ones) ≡ masked_from words c zeros ones
  masked_from_changed c [] ones are_z are_o = refl
  masked_from_changed c (z ∷ zeros) [] are_z are_o = refl
  masked_from_changed c (z ∷ zeros) (o ∷ ones) are_z are_o =
      let is_m : IsColumn rows (row_of words c) = IsColumn-row_of rows words c lw in
      let is_k : IsColumn rows (row_of others c) = IsColumn-row_of rows others c lo in
      ap₂ (λ (x : List ℕ) (xs : List (List ℕ)). x ∷ xs)
      (masked_step (bit_of choice c) z o (row_of words c) (row_of others c) (bit_of-lt choice c) are_z.0.size are_o.0.size is_m.size is_k.size)
      (masked_from_changed (c + 1) zeros ones are_z.1 are_o.1)

  pub change_gives_sets : (sets : ColumnSets) → AreColumnSets rows sets → AreColumnSets rows (change choice words others sets)
  unfolding change
  change_gives_sets sets are = record {
    zeros = record { count = length-changed_from 1 0 sets.zeros ∙ are.zeros.count; each = by_place (IsColumn rows) (changed_from choice 1 words others 0 sets.zeros) (is_changed 1 0 sets.zeros (by_recursion (IsColumn rows) sets.zeros are.zeros.each)) };
    ones = record { count = length-changed_from 0 0 sets.ones ∙ are.ones.count; each = by_place (IsColumn rows) (changed_from choice 0 words others 0 sets.ones) (is_changed 0 0 sets.ones (by_recursion (IsColumn rows) sets.ones are.ones.each)) };
  }

  pub change_undone : (sets : ColumnSets) → AreColumnSets rows sets → change choice words others (change choice words others sets) ≡ sets
  unfolding change
  change_undone sets are =
      ap₂ (λ (zs os : List (List ℕ)). record { zeros = zs; ones = os }) (undone_from 1 0 sets.zeros (by_recursion (IsColumn rows) sets.zeros are.zeros.each)) (undone_from 0 0 sets.ones (by_recursion (IsColumn rows) sets.ones are.ones.each))

  pub chosen_columns-change : (sets : ColumnSets) → chosen_columns choice (change choice words others sets) ≡ chosen_columns choice sets
  unfolding change chosen_columns
  chosen_columns-change sets = chosen_from_changed 0 sets.zeros sets.ones

  pub masked_columns-change : (sets : ColumnSets) → AreColumnSets rows sets → masked_columns others (change choice words others sets) ≡ masked_columns words sets
  unfolding change masked_columns
  masked_columns-change sets are = masked_from_changed 0 sets.zeros sets.ones (by_recursion (IsColumn rows) sets.zeros are.zeros.each) (by_recursion (IsColumn rows) sets.ones are.ones.each)

-- ---- the source of a view

-- columns of a source: chosen columns, and where the bit of the choice word is `bit` what the masked column leaves of them
abbrev source_from : List ℕ → ℕ → List (List ℕ) → ℕ → List (List ℕ) → List (List ℕ) → List (List ℕ)
source_from choice bit words c [] masked = []
source_from choice bit words c (a ∷ chosen) [] = []
source_from choice bit words c (a ∷ chosen) (u ∷ masked) = cond (nat_eq (bit_of choice c) bit) (xor (xor a u) (row_of words c)) a ∷ source_from choice bit words (c + 1) chosen masked

module _ (rows : ℕ) (choice : List ℕ) (words : List (List ℕ)) (lw : length words ≡ rows) where
  is_source : (bit c : ℕ) (chosen masked : List (List ℕ)) → AllByRecursion (IsColumn rows) chosen → AllByRecursion (IsColumn rows) masked → AllByRecursion (IsColumn rows) (source_from choice bit words c chosen masked)
  is_source bit c [] masked are_a are_u = tt
  is_source bit c (a ∷ chosen) [] are_a are_u = tt
  is_source bit c (a ∷ chosen) (u ∷ masked) are_a are_u = (by_case (nat_eq (bit_of choice c) bit), is_source bit (c + 1) chosen masked are_a.1 are_u.1)
    where
      by_case : (b : Bool) → IsColumn rows (cond b (xor (xor a u) (row_of words c)) a)
      by_case true = IsColumn-xor rows (xor a u) (row_of words c) (IsColumn-xor rows a u are_a.0 are_u.0) (IsColumn-row_of rows words c lw)
      by_case false = are_a.0

  length-source_from : (bit c : ℕ) (chosen masked : List (List ℕ)) → length chosen ≡ length masked → length (source_from choice bit words c chosen masked) ≡ length chosen
  length-source_from bit c [] masked l = refl
  length-source_from bit c (a ∷ chosen) [] l = absurd (omega arith)
  length-source_from bit c (a ∷ chosen) (u ∷ masked) l = ap suc (length-source_from bit (c + 1) chosen masked (omega arith))

  chosen_step_of_source : (s : ℕ) (a x : List ℕ) → s < 2 → cond (nat_eq s 0) (cond (nat_eq s 1) x a) (cond (nat_eq s 0) x a) ≡ a
  chosen_step_of_source zero a x l = refl
  chosen_step_of_source (suc zero) a x l = refl
  chosen_step_of_source (suc (suc s)) a x l = absurd (omega arith)

  chosen_from_source : (c : ℕ) (chosen masked : List (List ℕ)) → length chosen ≡ length masked → chosen_columns_from choice c (source_from choice 1 words c chosen masked) (source_from choice 0 words c chosen masked) ≡ chosen
  chosen_from_source c [] masked l = refl
  chosen_from_source c (a ∷ chosen) [] l = absurd (omega arith)
  chosen_from_source c (a ∷ chosen) (u ∷ masked) l =
      ap₂ (λ (x : List ℕ) (xs : List (List ℕ)). x ∷ xs) (chosen_step_of_source (bit_of choice c) a (xor (xor a u) (row_of words c)) (bit_of-lt choice c)) (chosen_from_source (c + 1) chosen masked (omega arith))

  view_step : (s : ℕ) (a u m : List ℕ) → s < 2 → length a ≡ column_bytes rows → length u ≡ column_bytes rows → length m ≡ column_bytes rows
      → xor (xor (cond (nat_eq s 1) (xor (xor a u) m) a) (cond (nat_eq s 0) (xor (xor a u) m) a)) m ≡ u
  view_step zero a u m l la lu lm = other_part (column_bytes rows) a u m la lu lm
  view_step (suc zero) a u m l la lu lm = other_part' (column_bytes rows) a u m la lu lm
  view_step (suc (suc s)) a u m l la lu lm = absurd (omega arith)

  view_from_source : (c : ℕ) (chosen masked : List (List ℕ)) → length chosen ≡ length masked → AllByRecursion (IsColumn rows) chosen → AllByRecursion (IsColumn rows) masked
      → masked_from words c (source_from choice 1 words c chosen masked) (source_from choice 0 words c chosen masked) ≡ masked
  view_from_source c [] [] l are_a are_u = refl
  view_from_source c [] (u ∷ masked) l are_a are_u = absurd (omega arith)
  view_from_source c (a ∷ chosen) [] l are_a are_u = absurd (omega arith)
  view_from_source c (a ∷ chosen) (u ∷ masked) l are_a are_u =
      let is_m : IsColumn rows (row_of words c) = IsColumn-row_of rows words c lw in
      ap₂ (λ (x : List ℕ) (xs : List (List ℕ)). x ∷ xs)
      (view_step (bit_of choice c) a u (row_of words c) (bit_of-lt choice c) are_a.0.size are_u.0.size is_m.size)
      (view_from_source (c + 1) chosen masked (omega arith) are_a.1 are_u.1)

  zero_step : (s : ℕ) (z o m : List ℕ) → s < 2 → length z ≡ column_bytes rows → length o ≡ column_bytes rows → length m ≡ column_bytes rows
      → cond (nat_eq s 1) (xor (xor (cond (nat_eq s 0) z o) (xor (xor z o) m)) m) (cond (nat_eq s 0) z o) ≡ z
  zero_step zero z o m l lz lo lm = refl
  zero_step (suc zero) z o m l lz lo lm = other_part'' (column_bytes rows) o z m lo lz lm
  zero_step (suc (suc s)) z o m l lz lo lm = absurd (omega arith)

  one_step : (s : ℕ) (z o m : List ℕ) → s < 2 → length z ≡ column_bytes rows → length o ≡ column_bytes rows → length m ≡ column_bytes rows
      → cond (nat_eq s 0) (xor (xor (cond (nat_eq s 0) z o) (xor (xor z o) m)) m) (cond (nat_eq s 0) z o) ≡ o
  one_step zero z o m l lz lo lm = other_part (column_bytes rows) z o m lz lo lm
  one_step (suc zero) z o m l lz lo lm = refl
  one_step (suc (suc s)) z o m l lz lo lm = absurd (omega arith)

  zeros_from_view : (c : ℕ) (zeros ones : List (List ℕ)) → length zeros ≡ length ones → AllByRecursion (IsColumn rows) zeros → AllByRecursion (IsColumn rows) ones
      → source_from choice 1 words c (chosen_columns_from choice c zeros ones) (masked_from words c zeros ones) ≡ zeros
  zeros_from_view c [] ones l are_z are_o = refl
  zeros_from_view c (z ∷ zeros) [] l are_z are_o = absurd (omega arith)
  zeros_from_view c (z ∷ zeros) (o ∷ ones) l are_z are_o =
      let is_m : IsColumn rows (row_of words c) = IsColumn-row_of rows words c lw in
      ap₂ (λ (x : List ℕ) (xs : List (List ℕ)). x ∷ xs)
      (zero_step (bit_of choice c) z o (row_of words c) (bit_of-lt choice c) are_z.0.size are_o.0.size is_m.size)
      (zeros_from_view (c + 1) zeros ones (omega arith) are_z.1 are_o.1)

  ones_from_view : (c : ℕ) (zeros ones : List (List ℕ)) → length zeros ≡ length ones → AllByRecursion (IsColumn rows) zeros → AllByRecursion (IsColumn rows) ones
      → source_from choice 0 words c (chosen_columns_from choice c zeros ones) (masked_from words c zeros ones) ≡ ones
  ones_from_view c [] [] l are_z are_o = refl
  ones_from_view c [] (o ∷ ones) l are_z are_o = absurd (omega arith)
  ones_from_view c (z ∷ zeros) [] l are_z are_o = absurd (omega arith)
  ones_from_view c (z ∷ zeros) (o ∷ ones) l are_z are_o =
      let is_m : IsColumn rows (row_of words c) = IsColumn-row_of rows words c lw in
      ap₂ (λ (x : List ℕ) (xs : List (List ℕ)). x ∷ xs)
      (one_step (bit_of choice c) z o (row_of words c) (bit_of-lt choice c) are_z.0.size are_o.0.size is_m.size)
      (ones_from_view (c + 1) zeros ones (omega arith) are_z.1 are_o.1)

  -- each view has one source
  pub has_one_source : (chosen sent : List (List ℕ)) → IsColumnSet rows chosen → IsColumnSet rows sent → HasOneSource rows choice words chosen sent
  unfolding chosen_columns masked_columns
  has_one_source chosen sent is_chosen is_sent =
      let same : length chosen ≡ length sent = is_chosen.count ∙ sym is_sent.count in
      let each_chosen : AllByRecursion (IsColumn rows) chosen = by_recursion (IsColumn rows) chosen is_chosen.each in
      let each_sent : AllByRecursion (IsColumn rows) sent = by_recursion (IsColumn rows) sent is_sent.each in
      record {
        sets = record { zeros = source_from choice 1 words 0 chosen sent; ones = source_from choice 0 words 0 chosen sent };
        are = record {
          zeros = record {
            count = length-source_from 1 0 chosen sent same ∙ is_chosen.count;
            each = by_place (IsColumn rows) (source_from choice 1 words 0 chosen sent) (is_source 1 0 chosen sent each_chosen each_sent);
          };
          ones = record {
            count = length-source_from 0 0 chosen sent same ∙ is_chosen.count;
            each = by_place (IsColumn rows) (source_from choice 0 words 0 chosen sent) (is_source 0 0 chosen sent each_chosen each_sent);
          };
        };
        gives_chosen = chosen_from_source 0 chosen sent same;
        gives_sent = view_from_source 0 chosen sent same each_chosen each_sent;
        only = λ other are e_chosen e_sent.
            let long : length other.zeros ≡ length other.ones = are.zeros.count ∙ sym are.ones.count in
            let each_zero : AllByRecursion (IsColumn rows) other.zeros = by_recursion (IsColumn rows) other.zeros are.zeros.each in
            let each_one : AllByRecursion (IsColumn rows) other.ones = by_recursion (IsColumn rows) other.ones are.ones.each in
            ap₂ (λ (zs os : List (List ℕ)). record { zeros = zs; ones = os })
            (sym (zeros_from_view 0 other.zeros other.ones long each_zero each_one) ∙ ap₂ (source_from choice 1 words 0) e_chosen e_sent)
            (sym (ones_from_view 0 other.zeros other.ones long each_zero each_one) ∙ ap₂ (source_from choice 0 words 0) e_chosen e_sent);
      }

-- ---- bits

from_zero : (c : ℕ) → 0 + c ≡ c
from_zero c = omega arith

bit_of-cond : (b : Bool) (x y : List ℕ) (j : ℕ) → bit_of (cond b x y) j ≡ cond b (bit_of x j) (bit_of y j)
bit_of-cond true x y j = refl
bit_of-cond false x y j = refl

get_or-changed_from : (choice : List ℕ) (bit : ℕ) (words others : List (List ℕ)) (c : ℕ) (columns : List (List ℕ)) (i : ℕ) → i < length columns
    → get_or (changed_from choice bit words others c columns) i [] ≡ cond (nat_eq (bit_of choice (c + i)) bit) (xor (get_or columns i []) (difference words others (c + i))) (get_or columns i [])
get_or-changed_from choice bit words others c [] i l = absurd (omega arith)
get_or-changed_from choice bit words others c (column ∷ columns) zero l =
    let place : c ≡ c + 0 = omega arith in
    ap (λ (k : ℕ). cond (nat_eq (bit_of choice k) bit) (xor column (difference words others k)) column) place
get_or-changed_from choice bit words others c (column ∷ columns) (suc i) l =
    let place : c + 1 + i ≡ c + suc i = omega arith in
    get_or-changed_from choice bit words others (c + 1) columns i (omega arith)
    ∙ ap (λ (k : ℕ). cond (nat_eq (bit_of choice k) bit) (xor (get_or columns i []) (difference words others k)) (get_or columns i [])) place

-- each column of a change
pub get_or-change_zeros : (choice : List ℕ) (words others : List (List ℕ)) (sets : ColumnSets) (c : ℕ) → c < length sets.zeros
    → get_or (change choice words others sets).zeros c [] ≡ cond (nat_eq (bit_of choice c) 1) (xor (get_or sets.zeros c []) (difference words others c)) (get_or sets.zeros c [])
unfolding change
get_or-change_zeros choice words others sets c l =
    get_or-changed_from choice 1 words others 0 sets.zeros c l
    ∙ ap (λ (k : ℕ). cond (nat_eq (bit_of choice k) 1) (xor (get_or sets.zeros c []) (difference words others k)) (get_or sets.zeros c [])) (from_zero c)

pub get_or-change_ones : (choice : List ℕ) (words others : List (List ℕ)) (sets : ColumnSets) (c : ℕ) → c < length sets.ones
    → get_or (change choice words others sets).ones c [] ≡ cond (nat_eq (bit_of choice c) 0) (xor (get_or sets.ones c []) (difference words others c)) (get_or sets.ones c [])
unfolding change
get_or-change_ones choice words others sets c l =
    get_or-changed_from choice 0 words others 0 sets.ones c l
    ∙ ap (λ (k : ℕ). cond (nat_eq (bit_of choice k) 0) (xor (get_or sets.ones c []) (difference words others k)) (get_or sets.ones c [])) (from_zero c)

-- bit j of a column that may be changed
changed_bit : (rows bit : ℕ) (choice : List ℕ) (words others columns : List (List ℕ)) (c j : ℕ) → IsColumnSet rows columns → length words ≡ rows → length others ≡ rows → c < 512
    → bit_in (changed_from choice bit words others 0 columns) c j ≡ cond (nat_eq (bit_of choice c) bit) ((bit_in columns c j + differing_bit words others c j) % 2) (bit_in columns c j)
changed_bit rows bit choice words others columns c j are lw lo within =
    let count : length columns ≡ 512 = are.count in
    let column : List ℕ = get_or columns c [] in
    let is : IsColumn rows column = are.each c [] (omega arith) in
    let a : List ℕ = row_of words c in
    let b : List ℕ = row_of others c in
    let la : length a ≡ column_bytes rows = length-row_of_words words c ∙ ap column_bytes lw in
    let lb : length b ≡ column_bytes rows = length-row_of_words others c ∙ ap column_bytes lo in
    let ld : length (xor a b) ≡ column_bytes rows = length-xor (column_bytes rows) a b la lb in
    let put : bit_of (xor column (xor a b)) j ≡ (bit_of column j + differing_bit words others c j) % 2 =
    bit_of-xor column (xor a b) j (is.size ∙ sym ld) ∙ omega (arith, bit_of-xor a b j (la ∙ sym lb), bit_of-row_of words c j, bit_of-row_of others c j) in
    ap (λ (x : List ℕ). bit_of x j) (get_or-changed_from choice bit words others 0 columns c (omega arith) ∙ ap (λ (k : ℕ). cond (nat_eq (bit_of choice k) bit) (xor column (difference words others k)) column) (from_zero c))
    ∙ (bit_of-cond (nat_eq (bit_of choice c) bit) (xor column (xor a b)) column j
    ∙ ap (λ (n : ℕ). cond (nat_eq (bit_of choice c) bit) n (bit_of column j)) put)

-- the two tests of a bit exclude each other
other_test : (s x y : ℕ) → s < 2 → cond (nat_eq s 1) x y ≡ cond (nat_eq s 0) y x
other_test zero x y l = refl
other_test (suc zero) x y l = refl
other_test (suc (suc s)) x y l = absurd (omega arith)

pub changes_bits : ChangesBits
unfolding change
changes_bits rows choice words others sets c j are lw lo within = record {
  zero =
      changed_bit rows 1 choice words others sets.zeros c j are.zeros lw lo within
      ∙ other_test (bit_of choice c) ((bit_in sets.zeros c j + differing_bit words others c j) % 2) (bit_in sets.zeros c j) (bit_of-lt choice c);
  one = changed_bit rows 0 choice words others sets.ones c j are.ones lw lo within;
}

-- ---- streams

pub length-words_of : (deal : ReceiverDeal) (placed : List Placed) → length (words_of deal placed) ≡ rows_for deal.stash (length placed)
length-words_of deal placed = length-map-range_with_len (row_word deal.key placed) 0 (rows_for deal.stash (length placed))

pub streams_are_over : StreamsAreOver
unfolding sender_stream sender_stream_over
streams_are_over deal count sent ys = refl

pub hides : (deal : ReceiverDeal) (choice : List ℕ) (placed others : List Placed) (sets : ColumnSets) → length others ≡ length placed → AreColumnSets (rows_for deal.stash (length placed)) sets → Hides deal choice placed others sets
unfolding receiver_stream
hides deal choice placed others sets count are =
    let rows : ℕ = rows_for deal.stash (length placed) in
    let words : List (List ℕ) = words_of deal placed in
    let other_words : List (List ℕ) = words_of deal others in
    let lw : length words ≡ rows = length-words_of deal placed in
    let lo : length other_words ≡ rows = length-words_of deal others ∙ ap (rows_for deal.stash) count in
    let chosen : chosen_columns choice (change choice words other_words sets) ≡ chosen_columns choice sets = chosen_columns-change rows choice words other_words lw lo sets in
    let sent : masked_columns other_words (change choice words other_words sets) ≡ masked_columns words sets = masked_columns-change rows choice words other_words lw lo sets are in
    record {
      changed = change_gives_sets rows choice words other_words lw lo sets are;
      undone = change_undone rows choice words other_words lw lo sets are;
      chosen = chosen;
      sent = cc;
      answered = λ sender ys e. cc;
    }

pub sets_are_hidden : SetsAreHidden
sets_are_hidden deal choice placed others count =
    let rows : ℕ = rows_for deal.stash (length placed) in
    let lw : length (words_of deal placed) ≡ rows = length-words_of deal placed in
    let lo : length (words_of deal others) ≡ rows = length-words_of deal others ∙ ap (rows_for deal.stash) count in
    record {
      over_all = λ sets are. hides deal choice placed others sets count are;
      source = λ chosen sent is_chosen is_sent.
          (has_one_source rows choice (words_of deal placed) lw chosen sent is_chosen is_sent, has_one_source rows choice (words_of deal others) lo chosen sent is_chosen is_sent);
    }
