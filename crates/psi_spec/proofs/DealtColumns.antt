-- The columns of a deal's seeds: they are clean columns, and the sender's are those that its choice word chooses.
use Rattle.std.proofs.Common.{◌≡◌, ◌+◌, ◌/◌, ◌%◌, ◌^◌, ◌<◌, ◌≤◌, ℕ, suc, zero, Bool, true, false, cond, List, [], ◌∷◌, length, map, set, get_or, nat_eq, refl, sym, ap₂, ◌∙◌, arith}
use Rattle.std.specs.Int.{w32, to_le_bytes}
use Rattle.std.specs.List.{AllByRecursion}
use Rattle.std.proofs.Math.Nat.{mod-le}
use Rattle.std.proofs.lemmas.List.{length-map}
use Rattle.std.proofs.lemmas.List.Elements.{All-from_recursion}
use Rattle.rand_core.specs.Steps.{word_bytes}
use Rattle.rand_chacha.specs.ChaCha.{ChaCha, key_of, next_word}
use Rattle.psi_spec.specs.Bits.{bit_of}
use Rattle.psi_spec.specs.Columns.{key_stream, cleared, column}
use Rattle.psi_spec.specs.Matrices.{AreColumns, IsColumn, IsColumnSet}
use Rattle.psi_spec.specs.ColumnSets.{AreColumnSets, chosen_columns_from, chosen_columns}
use Rattle.psi_spec.specs.Deals.{SeedPair, ReceiverDeal, SenderDeal, chosen_from, sender_columns, ArePair}
use Rattle.psi_spec.specs.Streams.{dealt_sets}
use Rattle.psi_spec.proofs.Packing.{AreBytes}
use Rattle.psi_spec.proofs.CodeBytes.{AreBytes-append}
use Rattle.psi_spec.proofs.Frames.{AreBytes-take}
use Rattle.psi_spec.proofs.KeyStream.{length-column, bit_of-column_above}

-- ---- bytes

AreBytes-to_le_bytes : (n : ℕ) → AreBytes (to_le_bytes w32 n)
AreBytes-to_le_bytes n zero = omega arith
AreBytes-to_le_bytes n (suc zero) = omega arith
AreBytes-to_le_bytes n (suc (suc zero)) = omega arith
AreBytes-to_le_bytes n (suc (suc (suc zero))) = omega arith
AreBytes-to_le_bytes n (suc (suc (suc (suc i)))) = omega arith

AreBytes-words : (n : ℕ) (state : ChaCha) → AreBytes (word_bytes (to_le_bytes w32) (next_word 10) n state).0
unfolding word_bytes
AreBytes-words zero state = λ i. omega arith
AreBytes-words (suc n) state =
    let before : List ℕ × ChaCha = word_bytes (to_le_bytes w32) (next_word 10) n state in
    AreBytes-append before.0 (to_le_bytes w32 (next_word 10 before.1).0) (AreBytes-words n state)
    (AreBytes-to_le_bytes (next_word 10 before.1).0)

pub AreBytes-key_stream : (seed : List ℕ) (stream n : ℕ) → AreBytes (key_stream seed stream n)
unfolding key_stream
AreBytes-key_stream seed stream n =
    let state : ChaCha = record { key = key_of seed; stream = stream; word_pos = 0 } in
    AreBytes-take n (word_bytes (to_le_bytes w32) (next_word 10) ((n + 3) / 4) state).0
    (AreBytes-words ((n + 3) / 4) state)

AreBytes-set : (bytes : List ℕ) (k x : ℕ) → x < 2 ^ 8 → AreBytes bytes → AreBytes (set bytes k x)
AreBytes-set [] k x l h i = omega arith
AreBytes-set (b ∷ bytes) zero x l h zero = l
AreBytes-set (b ∷ bytes) zero x l h (suc i) = h (suc i)
AreBytes-set (b ∷ bytes) (suc k) x l h zero = h 0
AreBytes-set (b ∷ bytes) (suc k) x l h (suc i) = AreBytes-set bytes k x l (λ j. h (suc j)) i

AreBytes-cleared : (rows : ℕ) (bytes : List ℕ) → AreBytes bytes → AreBytes (cleared rows bytes)
AreBytes-cleared rows bytes h = by_case (nat_eq (rows % 8) 0)
  where
    last : ℕ
    last = get_or bytes (rows / 8) 0

    by_case : (b : Bool) → AreBytes (cond b bytes (set bytes (rows / 8) (last % 2 ^ (rows % 8))))
    by_case true = h
    by_case false =
        let low : last % 2 ^ (rows % 8) ≤ last = mod-le last (2 ^ (rows % 8)) in
        AreBytes-set bytes (rows / 8) (last % 2 ^ (rows % 8)) (omega (arith, low, h (rows / 8))) h

pub AreBytes-column : (seed : List ℕ) (session rows : ℕ) → AreBytes (column seed session rows)
unfolding column
AreBytes-column seed session rows =
    AreBytes-cleared rows (key_stream seed session ((rows + 7) / 8))
    (AreBytes-key_stream seed session ((rows + 7) / 8))

-- ---- columns

pub IsColumn-column : (seed : List ℕ) (session rows : ℕ) → IsColumn rows (column seed session rows)
IsColumn-column seed session rows = record {
  size = length-column seed session rows;
  bytes = AreBytes-column seed session rows;
  padding = bit_of-column_above seed session rows;
}

each_is_column : {A : Type 0} (seed : A → List ℕ) (session rows : ℕ) (xs : List A)
    → AllByRecursion (IsColumn rows) (map (λ x. column (seed x) session rows) xs)
each_is_column seed session rows [] = tt
each_is_column seed session rows (x ∷ xs) =
    (IsColumn-column (seed x) session rows, each_is_column seed session rows xs)

-- the columns of 512 seeds are a column set
column_set_of : {A : Type 0} (seed : A → List ℕ) (session rows : ℕ) (xs : List A) → length xs ≡ 512
    → IsColumnSet rows (map (λ x. column (seed x) session rows) xs)
column_set_of seed session rows xs count = record {
  count = length-map xs (λ x. column (seed x) session rows) ∙ count;
  each = All-from_recursion (IsColumn rows) (map (λ x. column (seed x) session rows) xs)
      (each_is_column seed session rows xs);
}

-- the columns of 512 pairs of seeds are column sets
pub dealt_sets_are : (deal : ReceiverDeal) (rows : ℕ) → length deal.seeds ≡ 512
    → AreColumnSets rows (dealt_sets deal rows)
dealt_sets_are deal rows count = record {
  zeros = column_set_of (λ (pair : SeedPair). pair.zero) deal.session rows deal.seeds count;
  ones = column_set_of (λ (pair : SeedPair). pair.one) deal.session rows deal.seeds count;
}

-- and so are the columns of 512 chosen seeds
pub sender_columns_are : (deal : SenderDeal) (rows : ℕ) → length deal.chosen ≡ 512
    → IsColumnSet rows (sender_columns deal rows)
sender_columns_are deal rows count =
    column_set_of (λ (seed : List ℕ). seed) deal.session rows deal.chosen count

-- a set of clean columns has its sizes
pub are_columns : (rows : ℕ) (columns : List (List ℕ)) → IsColumnSet rows columns → AreColumns rows columns
are_columns rows columns is = record { count = is.count; long = λ c d l. (is.each c d l).size }

-- ---- a pair of deals

column_of_chosen : (b : Bool) (pair : SeedPair) (session rows : ℕ)
    → column (cond b pair.zero pair.one) session rows
    ≡ cond b (column pair.zero session rows) (column pair.one session rows)
column_of_chosen true pair session rows = refl
column_of_chosen false pair session rows = refl

columns_of_chosen : (choice : List ℕ) (c session rows : ℕ) (pairs : List SeedPair)
    → map (λ seed. column seed session rows) (chosen_from choice c pairs)
    ≡ chosen_columns_from choice c (map (λ pair. column pair.zero session rows) pairs)
    (map (λ pair. column pair.one session rows) pairs)
columns_of_chosen choice c session rows [] = refl
columns_of_chosen choice c session rows (pair ∷ pairs) =
    ap₂ (λ (x : List ℕ) (xs : List (List ℕ)). x ∷ xs)
    (column_of_chosen (nat_eq (bit_of choice c) 0) pair session rows)
    (columns_of_chosen choice (c + 1) session rows pairs)

-- the columns of a sender's chosen seeds are the chosen columns of the receiver's
pub sender_columns_of_pair : (receiver : ReceiverDeal) (sender : SenderDeal) (rows : ℕ) → ArePair receiver sender
    → sender_columns sender rows ≡ chosen_columns sender.choice (dealt_sets receiver rows)
unfolding chosen_columns
sender_columns_of_pair receiver sender rows pair =
    ap₂ (λ (seeds : List (List ℕ)) (session : ℕ). map (λ seed. column seed session rows) seeds)
    pair.chosen (sym pair.session)
    ∙ columns_of_chosen sender.choice 0 receiver.session rows receiver.seeds
