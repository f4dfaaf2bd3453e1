-- The rows that a sender opens, and what it answers over them.
use Rattle.std.proofs.Common.{◌≡◌, ◌+◌, ◌-◌, ◌<◌, ◌≤◌, ℕ, suc, zero, Bool, true, false, cond, List, [], ◌∷◌, ◌++◌, length, map, get_or, nat_eq, ltb, refl, sym, ap, ap₂, ◌∙◌, arith}
use Rattle.std.specs.List.{AllByRecursion, range_with_len}
use Rattle.std.proofs.lemmas.Bool.{ltb-false}
use Rattle.std.proofs.lemmas.List.Elements.{All-from_recursion, recursion_from_All}
use Rattle.psi_spec.specs.Limits.{bins_for, rows_for}
use Rattle.psi_spec.specs.Bits.{bit_of, xor, both, IsWord}
use Rattle.psi_spec.specs.Formulas.{item_digest, code, bin, tag}
use Rattle.psi_spec.specs.Columns.{column_bytes, row_of}
use Rattle.psi_spec.specs.Matrices.{AreColumns}
use Rattle.psi_spec.specs.ColumnSets.{ColumnSets, masked_from, masked_columns, chosen_columns_from, chosen_columns, opened_columns}
use Rattle.psi_spec.specs.Deals.{SenderDeal, sender_columns}
use Rattle.psi_spec.specs.Frames.{layout, sender_hello}
use Rattle.psi_spec.specs.Rising.{rising}
use Rattle.psi_spec.specs.TagLists.{SenderSide, opened_row, sent_tag, tag_in_list, tag_list, tag_lists}
use Rattle.psi_spec.specs.Streams.{layouts, lists_frames, lists_stream, side_of_rows, sender_answer, sender_stream}
use Rattle.psi_spec.specs.SessionLaws.{OpenedColumnsAnswer}
use Rattle.psi_spec.proofs.Xor.{length-xor}
use Rattle.psi_spec.proofs.ColumnSets.{length-row_of_words, length-masked_columns, length-chosen_columns, opens_columns, opens_rows}
use Rattle.psi_spec.proofs.Placing.{bin-lt}
use Rattle.psi_spec.proofs.DealtColumns.{are_columns, sender_columns_are}

-- ---- sizes

abbrev Have : ℕ → List (List ℕ) → Type 0
Have size columns = AllByRecursion (λ column. length column ≡ size) columns

masked_have : (words : List (List ℕ)) (c : ℕ) (zeros ones : List (List ℕ))
    → Have (column_bytes (length words)) zeros → Have (column_bytes (length words)) ones
    → Have (column_bytes (length words)) (masked_from words c zeros ones)
masked_have words c [] ones long_z long_o = tt
masked_have words c (z ∷ zeros) [] long_z long_o = tt
masked_have words c (z ∷ zeros) (o ∷ ones) long_z long_o =
    let size : ℕ = column_bytes (length words) in (
      length-xor size (xor z o) (row_of words c) (length-xor size z o long_z.0 long_o.0) (length-row_of_words words c),
      masked_have words (c + 1) zeros ones long_z.1 long_o.1,
    )

chosen_have : (choice : List ℕ) (c size : ℕ) (zeros ones : List (List ℕ)) → Have size zeros → Have size ones
    → Have size (chosen_columns_from choice c zeros ones)
chosen_have choice c size [] ones long_z long_o = tt
chosen_have choice c size (z ∷ zeros) [] long_z long_o = tt
chosen_have choice c size (z ∷ zeros) (o ∷ ones) long_z long_o =
    (by_case (nat_eq (bit_of choice c) 0), chosen_have choice (c + 1) size zeros ones long_z.1 long_o.1)
  where
    by_case : (b : Bool) → length (cond b z o) ≡ size
    by_case true = long_z.0
    by_case false = long_o.0

-- masked columns and chosen ones have the sizes of the two that each is made of
pub are_masked_columns : (words : List (List ℕ)) (sets : ColumnSets) → AreColumns (length words) sets.zeros
    → AreColumns (length words) sets.ones → AreColumns (length words) (masked_columns words sets)
unfolding masked_columns
are_masked_columns words sets are_z are_o =
    let long : List ℕ → Type 0 = λ column. length column ≡ column_bytes (length words) in
    record {
      count = length-masked_columns words sets (are_z.count ∙ sym are_o.count) ∙ are_z.count;
      long = All-from_recursion long (masked_from words 0 sets.zeros sets.ones)
          (masked_have words 0 sets.zeros sets.ones (recursion_from_All long sets.zeros are_z.long)
          (recursion_from_All long sets.ones are_o.long));
    }

pub are_chosen_columns : (rows : ℕ) (choice : List ℕ) (sets : ColumnSets) → AreColumns rows sets.zeros
    → AreColumns rows sets.ones → AreColumns rows (chosen_columns choice sets)
unfolding chosen_columns
are_chosen_columns rows choice sets are_z are_o =
    let long : List ℕ → Type 0 = λ column. length column ≡ column_bytes rows in
    record {
      count = length-chosen_columns choice sets (are_z.count ∙ sym are_o.count) ∙ are_z.count;
      long = All-from_recursion long (chosen_columns_from choice 0 sets.zeros sets.ones)
          (chosen_have choice 0 (column_bytes rows) sets.zeros sets.ones
          (recursion_from_All long sets.zeros are_z.long) (recursion_from_All long sets.ones are_o.long));
    }

-- ---- opened rows

-- of one pair of column sets and any row words, an opened row is the row of the zero columns, xor what the choice word
-- and the row's word share
pub row_opened : (choice : List ℕ) (sets : ColumnSets) (words : List (List ℕ)) (j : ℕ) → length choice ≡ 64
    → AreColumns (length words) sets.zeros → AreColumns (length words) sets.ones → IsWord (get_or words j [])
    → opened_row choice (chosen_columns choice sets) (masked_columns words sets) j
    ≡ xor (row_of sets.zeros j) (both choice (get_or words j []))
row_opened choice sets words j long are_z are_o is_word =
    sym (opens_columns choice (chosen_columns choice sets) (masked_columns words sets) (length words) j long
    (are_chosen_columns (length words) choice sets are_z are_o) (are_masked_columns words sets are_z are_o))
    ∙ opens_rows choice sets words j long are_z are_o is_word

-- ---- answers

pub opened_columns_answer : OpenedColumnsAnswer
unfolding sender_stream lists_stream sender_answer
opened_columns_answer deal count sent ys long chosen are =
    let rows : ℕ = rows_for deal.stash count in
    let columns : List (List ℕ) = sender_columns deal rows in
    let own : AreColumns rows columns = are_columns rows columns (sender_columns_are deal rows chosen) in
    let same : opened_row deal.choice columns sent ≡ row_of (opened_columns deal.choice columns sent) =
    λ i. λ j. sym (opens_columns deal.choice columns sent rows j long own are) i in
    ap
    (λ (opened : ℕ → List ℕ). layout (sender_hello deal.id deal.session (length ys))
    ++ layouts (lists_frames 0 (tag_lists deal.stash (side_of_rows deal count opened) ys))) same

-- a sender's stream is its hello and its answer
pub sender_stream_is : (deal : SenderDeal) (count : ℕ) (sent ys : List (List ℕ))
    → sender_stream deal count sent ys
    ≡ layout (sender_hello deal.id deal.session (length ys))
    ++ sender_answer deal count (opened_row deal.choice (sender_columns deal (rows_for deal.stash count)) sent) ys
unfolding sender_stream lists_stream sender_answer
sender_stream_is deal count sent ys = refl

-- ---- rows that no list asks for

module _ (deal : SenderDeal) (count : ℕ) (opened other : ℕ → List ℕ)
    (same : (j : ℕ) → j < rows_for deal.stash count → opened j ≡ other j) where
  abbrev one : SenderSide
  one = side_of_rows deal count opened

  abbrev two : SenderSide
  two = side_of_rows deal count other

  sent_tag-within : (index row : ℕ) (y : List ℕ) → row < rows_for deal.stash count
      → sent_tag one index row y ≡ sent_tag two index row y
  unfolding sent_tag
  sent_tag-within index row y l =
      let hidden : List ℕ = both deal.choice (code deal.key index (item_digest y)) in
      ap (λ (w : List ℕ). tag deal.key deal.tag_length row (xor w hidden)) (same row l)

  tag_in_list-within : (list : ℕ) (y : List ℕ) → list < 3 + deal.stash
      → tag_in_list one list y ≡ tag_in_list two list y
  tag_in_list-within list y l = by_case (ltb list 3) refl
    where
      row : ℕ
      row = bin deal.key (bins_for count) (list + 1) (item_digest y)

      later : ℕ
      later = bins_for count + (list - 3)

      by_case : (b : Bool) → ltb list 3 ≡ b
          → cond b (sent_tag one (list + 1) row y) (sent_tag one 0 later y)
          ≡ cond b (sent_tag two (list + 1) row y) (sent_tag two 0 later y)
      by_case true e =
          let low : row < bins_for count = bin-lt deal.key (bins_for count) (list + 1) (item_digest y) (omega arith) in
          sent_tag-within (list + 1) row y (omega arith)
      by_case false e =
          let past : 3 ≤ list = ltb-false list 3 e in
          sent_tag-within 0 later y (omega arith)

  tags_in_list-within : (list : ℕ) (ys : List (List ℕ)) → list < 3 + deal.stash
      → map (tag_in_list one list) ys ≡ map (tag_in_list two list) ys
  tags_in_list-within list [] l = refl
  tags_in_list-within list (y ∷ ys) l =
      ap₂ (λ (x : List ℕ) (xs : List (List ℕ)). x ∷ xs) (tag_in_list-within list y l) (tags_in_list-within list ys l)

  lists-within : (ys : List (List ℕ)) (a n : ℕ) → a + n ≤ 3 + deal.stash
      → map (tag_list one ys) (range_with_len a n) ≡ map (tag_list two ys) (range_with_len a n)
  unfolding tag_list
  lists-within ys a zero l = refl
  lists-within ys a (suc n) l =
      ap₂ (λ (x : List (List ℕ)) (xs : List (List (List ℕ))). x ∷ xs)
      (ap rising (tags_in_list-within a ys (omega arith))) (lists-within ys (a + 1) n (omega arith))

  pub tag_lists-within : (ys : List (List ℕ)) → tag_lists deal.stash one ys ≡ tag_lists deal.stash two ys
  unfolding tag_lists
  tag_lists-within ys = lists-within ys 0 (3 + deal.stash) (omega arith)

  -- an answer depends on the words of the rows alone
  pub sender_answer-within : (ys : List (List ℕ))
      → sender_answer deal count opened ys ≡ sender_answer deal count other ys
  unfolding sender_answer
  sender_answer-within ys =
      ap (λ (lists : List (List (List ℕ))). layouts (lists_frames 0 lists)) (tag_lists-within ys)
