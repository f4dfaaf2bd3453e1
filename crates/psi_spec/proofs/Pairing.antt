-- Paired lines: equal ones are shown, what is found is shown, and a receiver's columns hide its lines.
use Rattle.std.proofs.Common.{◌≡◌, ◌+◌, ◌<◌, ℕ, suc, zero, Bool, false, cond, List, [], ◌∷◌, length, get_or, refl, sym, ap, ap₂, ◌∙◌, subst, arith}
use Rattle.std.specs.Str.{bytes_eq}
use Rattle.std.proofs.lemmas.Bool.{ne_eqb}
use Rattle.std.proofs.lemmas.List.{length-map, get_or-map}
use Rattle.psi_spec.specs.Bits.{xor, both, IsWord}
use Rattle.psi_spec.specs.Formulas.{item_digest, tag}
use Rattle.psi_spec.specs.Columns.{row_of}
use Rattle.psi_spec.specs.Matrices.{AreColumns}
use Rattle.psi_spec.specs.ColumnSets.{ColumnSets, AreColumnSets, masked_columns, chosen_columns}
use Rattle.psi_spec.specs.Changes.{change}
use Rattle.psi_spec.specs.Deals.{zero_columns, one_columns, sender_columns}
use Rattle.psi_spec.specs.TagLists.{opened_row}
use Rattle.psi_spec.specs.PairedRows.{paired_rows, line_word, paired_words, ValueSide, sent_value, sent_values_from, sent_values, OwnSide, own_value, found_from, found_lines, paired_value, paired_values_from, shown_lines}
use Rattle.psi_spec.specs.PairedLaws.{line_at, mark_at, ListsShowEqual, own_side, value_side, dealt_columns_of_lines, PairsFindShownLines, HidesLines, ListsAreHidden}
use Rattle.psi_spec.proofs.Xor.{opened, xor_masked_self}
use Rattle.psi_spec.proofs.Packing.{length-row_of}
use Rattle.psi_spec.proofs.Sizes.{length-code}
use Rattle.psi_spec.proofs.Tags.{same_from_bytes_eq, bytes_eq-same}
use Rattle.psi_spec.proofs.RowWords.{IsWord-row_word}
use Rattle.psi_spec.proofs.DealtColumns.{dealt_sets_are, are_columns, sender_columns_of_pair}
use Rattle.psi_spec.proofs.Opening.{row_opened}
use Rattle.psi_spec.proofs.Hiding.{change_gives_sets, change_undone, chosen_columns-change, masked_columns-change, has_one_source}

-- ---- words

rows_of_some : (n : ℕ) → paired_rows (suc n) ≡ suc n
rows_of_some n = ap (λ (b : Bool). cond b 1 (suc n)) (ne_eqb (suc n) 0 (λ e. omega arith))

pub length-paired_words : (key : List ℕ) (xs : List (List ℕ)) → length (paired_words key xs) ≡ paired_rows (length xs)
unfolding paired_words
length-paired_words key [] = refl
length-paired_words key (x ∷ xs) = ap suc (length-map xs (line_word key)) ∙ sym (rows_of_some (length xs))

pub get_or-paired_words : (key : List ℕ) (xs : List (List ℕ)) (j : ℕ) → j < length xs
    → get_or (paired_words key xs) j [] ≡ line_word key (get_or xs j [])
unfolding paired_words
get_or-paired_words key [] j l = absurd (omega arith)
get_or-paired_words key (x ∷ xs) zero l = refl
get_or-paired_words key (x ∷ xs) (suc j) l = get_or-map (line_word key) xs j [] [] (omega arith)

-- the word of a line is that of an item alone at row 0
pub IsWord-line_word : (key x : List ℕ) → IsWord (line_word key x)
IsWord-line_word key x = IsWord-row_word key (record { item = x; slot = record { row = 0; index = 0 } } ∷ []) 0

-- ---- marks

length-found_from : (r : OwnSide) (row : ℕ) (values : List (List ℕ)) → length (found_from r row values) ≡ length values
length-found_from r row [] = refl
length-found_from r row (v ∷ values) = ap suc (length-found_from r (row + 1) values)

get_or-found_from : (r : OwnSide) (row : ℕ) (values : List (List ℕ)) (j : ℕ) → j < length values
    → get_or (found_from r row values) j false ≡ bytes_eq (own_value r (row + j)) (get_or values j [])
get_or-found_from r row [] j l = absurd (omega arith)
get_or-found_from r row (v ∷ values) zero l =
    let place : row ≡ row + 0 = omega arith in ap (λ (k : ℕ). bytes_eq (own_value r k) v) place
get_or-found_from r row (v ∷ values) (suc j) l =
    let place : row + 1 + j ≡ row + suc j = omega arith in
    get_or-found_from r (row + 1) values j (omega arith)
    ∙ ap (λ (k : ℕ). bytes_eq (own_value r k) (get_or values j [])) place

length-paired_values_from : (r : OwnSide) (choice : List ℕ) (row : ℕ) (xs ys : List (List ℕ)) → length ys ≡ length xs
    → length (paired_values_from r choice row xs ys) ≡ length xs
length-paired_values_from r choice row [] ys l = refl
length-paired_values_from r choice row (x ∷ xs) [] l = absurd (omega arith)
length-paired_values_from r choice row (x ∷ xs) (y ∷ ys) l =
    ap suc (length-paired_values_from r choice (row + 1) xs ys (omega arith))

get_or-paired_values_from : (r : OwnSide) (choice : List ℕ) (row : ℕ) (xs ys : List (List ℕ)) (j : ℕ)
    → length ys ≡ length xs → j < length xs
    → get_or (paired_values_from r choice row xs ys) j []
    ≡ paired_value r choice (row + j) (get_or xs j []) (get_or ys j [])
get_or-paired_values_from r choice row [] ys j l within = absurd (omega arith)
get_or-paired_values_from r choice row (x ∷ xs) [] j l within = absurd (omega arith)
get_or-paired_values_from r choice row (x ∷ xs) (y ∷ ys) zero l within =
    let place : row ≡ row + 0 = omega arith in ap (λ (k : ℕ). paired_value r choice k x y) place
get_or-paired_values_from r choice row (x ∷ xs) (y ∷ ys) (suc j) l within =
    let place : row + 1 + j ≡ row + suc j = omega arith in
    get_or-paired_values_from r choice (row + 1) xs ys j (omega arith) (omega arith)
    ∙ ap (λ (k : ℕ). paired_value r choice k (get_or xs j []) (get_or ys j [])) place

-- ---- what is shown

-- a line that both have has its own value
value_of_equal : (r : OwnSide) (choice : List ℕ) (j : ℕ) (x y : List ℕ) → length choice ≡ 64 → length r.columns ≡ 512
    → x ≡ y → own_value r j ≡ paired_value r choice j x y
unfolding own_value paired_value
value_of_equal r choice j x y long count same =
    let word : List ℕ = line_word r.key x in
    sym
    (ap
    (λ (z : List ℕ). tag r.key r.tag_length j (xor (row_of r.columns j) (both choice (xor word (line_word r.key z)))))
    (sym same)
    ∙ ap (tag r.key r.tag_length j)
    (xor_masked_self 64 (row_of r.columns j) choice word (length-row_of 64 r.columns j count) long
    (length-code r.key 0 (item_digest x))))

mark_is : (r : OwnSide) (choice : List ℕ) (xs ys : List (List ℕ)) (j : ℕ) → length ys ≡ length xs → j < length xs
    → mark_at (shown_lines r choice xs ys) j
    ≡ bytes_eq (own_value r j) (paired_value r choice j (line_at xs j) (line_at ys j))
unfolding shown_lines found_lines
mark_is r choice xs ys j l within =
    let from_zero : 0 + j ≡ j = omega arith in
    get_or-found_from r 0 (paired_values_from r choice 0 xs ys) j
    (omega (arith, length-paired_values_from r choice 0 xs ys l))
    ∙ (ap (bytes_eq (own_value r (0 + j))) (get_or-paired_values_from r choice 0 xs ys j l within)
    ∙ ap (λ (k : ℕ). bytes_eq (own_value r k) (paired_value r choice k (line_at xs j) (line_at ys j))) from_zero)

length-shown_lines : (r : OwnSide) (choice : List ℕ) (xs ys : List (List ℕ)) → length ys ≡ length xs
    → length (shown_lines r choice xs ys) ≡ length xs
unfolding shown_lines found_lines
length-shown_lines r choice xs ys l =
    length-found_from r 0 (paired_values_from r choice 0 xs ys) ∙ length-paired_values_from r choice 0 xs ys l

pub lists_show_equal : ListsShowEqual
lists_show_equal r choice xs ys long count l = record {
  count = length-shown_lines r choice xs ys l;
  marks = λ j within. mark_is r choice xs ys j l within;
  equal = λ j within same.
      mark_is r choice xs ys j l within
      ∙ bytes_eq-same (own_value r j) (paired_value r choice j (line_at xs j) (line_at ys j))
      (value_of_equal r choice j (line_at xs j) (line_at ys j) long count same);
  others = λ j within marked.
      same_from_bytes_eq (own_value r j) (paired_value r choice j (line_at xs j) (line_at ys j))
      (sym (mark_is r choice xs ys j l within) ∙ marked);
}

-- ---- what is found

-- a sender's side with what the receiver has, over any opened rows
abbrev side_of : OwnSide → List ℕ → (ℕ → List ℕ) → ValueSide
side_of r choice opened_rows =
    record { key = r.key; tag_length = r.tag_length; choice = choice; opened = opened_rows }

-- a row as a sender opens it that got this line's word in it
abbrev opened_with : OwnSide → List ℕ → List ℕ → ℕ → List ℕ
opened_with r choice x row = xor (row_of r.columns row) (both choice (line_word r.key x))

sent_is_paired : (r : OwnSide) (choice : List ℕ) (opened_rows : ℕ → List ℕ) (row : ℕ) (x y : List ℕ)
    → opened_rows row ≡ opened_with r choice x row
    → sent_value (side_of r choice opened_rows) row y ≡ paired_value r choice row x y
unfolding sent_value paired_value
sent_is_paired r choice opened_rows row x y is =
    ap (λ (q : List ℕ). tag r.key r.tag_length row (xor q (both choice (line_word r.key y)))) is
    ∙ ap (tag r.key r.tag_length row) (opened (row_of r.columns row) choice (line_word r.key x) (line_word r.key y))

sent_are_paired : (r : OwnSide) (choice : List ℕ) (opened_rows : ℕ → List ℕ) (row : ℕ) (xs ys : List (List ℕ))
    → length ys ≡ length xs
    → ((k : ℕ) → k < length xs → opened_rows (row + k) ≡ opened_with r choice (get_or xs k []) (row + k))
    → sent_values_from (side_of r choice opened_rows) row ys ≡ paired_values_from r choice row xs ys
sent_are_paired r choice opened_rows row [] [] l are = refl
sent_are_paired r choice opened_rows row [] (y ∷ ys) l are = absurd (omega arith)
sent_are_paired r choice opened_rows row (x ∷ xs) [] l are = absurd (omega arith)
sent_are_paired r choice opened_rows row (x ∷ xs) (y ∷ ys) l are =
    ap₂ (λ (v : List ℕ) (vs : List (List ℕ)). v ∷ vs)
    (sent_is_paired r choice opened_rows row x y
    (let place : row + 0 ≡ row = omega arith in
    subst (λ (k : ℕ). opened_rows k ≡ opened_with r choice x k) place (are 0 (omega arith))))
    (sent_are_paired r choice opened_rows (row + 1) xs ys (omega arith) (λ k within.
    let place : row + suc k ≡ row + 1 + k = omega arith in
    subst (λ (j : ℕ). opened_rows j ≡ opened_with r choice (get_or xs k []) j) place (are (suc k) (omega arith))))

-- each row that a sender opens of the columns of lines has its line's word in it
row_with_line : (r : OwnSide) (choice : List ℕ) (ones xs : List (List ℕ)) (j : ℕ) → length choice ≡ 64
    → AreColumns (paired_rows (length xs)) r.columns → AreColumns (paired_rows (length xs)) ones → j < length xs
    → opened_row choice (chosen_columns choice (record { zeros = r.columns; ones = ones }))
    (masked_columns (paired_words r.key xs) (record { zeros = r.columns; ones = ones })) j
    ≡ opened_with r choice (get_or xs j []) j
row_with_line r choice ones xs j long are_z are_o within =
    let words : List (List ℕ) = paired_words r.key xs in
    let count : length words ≡ paired_rows (length xs) = length-paired_words r.key xs in
    let word : get_or words j [] ≡ line_word r.key (get_or xs j []) = get_or-paired_words r.key xs j within in
    row_opened choice (record { zeros = r.columns; ones = ones }) words j long
    (subst (λ (n : ℕ). AreColumns n r.columns) (sym count) are_z)
    (subst (λ (n : ℕ). AreColumns n ones) (sym count) are_o)
    (subst IsWord (sym word) (IsWord-line_word r.key (get_or xs j [])))
    ∙ ap (λ (w : List ℕ). xor (row_of r.columns j) (both choice w)) word

pub pairs_find_shown_lines : PairsFindShownLines
unfolding found_lines shown_lines sent_values
pairs_find_shown_lines receiver sender xs ys pair seeds choice l =
    let rows : ℕ = paired_rows (length xs) in
    let r : OwnSide = own_side receiver (length xs) in
    let zeros : List (List ℕ) = zero_columns receiver rows in
    let ones : List (List ℕ) = one_columns receiver rows in
    let sets : ColumnSets = record { zeros = zeros; ones = ones } in
    let sent : List (List ℕ) = dealt_columns_of_lines receiver xs in
    let are : AreColumnSets rows sets = dealt_sets_are receiver rows seeds in
    let chosen : sender_columns sender rows ≡ chosen_columns sender.choice sets =
    sender_columns_of_pair receiver sender rows pair in
    let opened_rows : ℕ → List ℕ = opened_row sender.choice (chosen_columns sender.choice sets) sent in
    let sides : value_side sender (length xs) sent ≡ side_of r sender.choice opened_rows =
    λ i. record {
      key = sym pair.key i;
      tag_length = sym pair.tag_length i;
      choice = sender.choice;
      opened = opened_row sender.choice (chosen i) sent;
    } in
    ap (found_from r 0)
    (ap (λ (s : ValueSide). sent_values_from s 0 ys) sides
    ∙ sent_are_paired r sender.choice opened_rows 0 xs ys l (λ k within.
    let place : k ≡ 0 + k = omega arith in
    subst (λ (j : ℕ). opened_rows j ≡ opened_with r sender.choice (get_or xs k []) j) place
    (row_with_line r sender.choice ones xs k choice (are_columns rows zeros are.zeros)
    (are_columns rows ones are.ones) within)))

-- ---- what is hidden

hides_lines : (key choice : List ℕ) (xs others : List (List ℕ)) (sets : ColumnSets) → length others ≡ length xs
    → AreColumnSets (paired_rows (length xs)) sets → HidesLines key choice xs others sets
hides_lines key choice xs others sets l are =
    let rows : ℕ = paired_rows (length xs) in
    let words : List (List ℕ) = paired_words key xs in
    let other_words : List (List ℕ) = paired_words key others in
    let lw : length words ≡ rows = length-paired_words key xs in
    let lo : length other_words ≡ rows = length-paired_words key others ∙ ap paired_rows l in
    let chosen : chosen_columns choice (change choice words other_words sets) ≡ chosen_columns choice sets =
    chosen_columns-change rows choice words other_words lw lo sets in
    let sent : masked_columns other_words (change choice words other_words sets) ≡ masked_columns words sets =
    masked_columns-change rows choice words other_words lw lo sets are in
    record {
      changed = change_gives_sets rows choice words other_words lw lo sets are;
      undone = change_undone rows choice words other_words lw lo sets are;
      chosen = chosen;
      sent = sent;
      answered = λ sender ys e. cc;
    }

pub lists_are_hidden : ListsAreHidden
lists_are_hidden key choice xs others l =
    let rows : ℕ = paired_rows (length xs) in
    let lw : length (paired_words key xs) ≡ rows = length-paired_words key xs in
    let lo : length (paired_words key others) ≡ rows = length-paired_words key others ∙ ap paired_rows l in
    record {
      over_all = λ sets are. hides_lines key choice xs others sets l are;
      source = λ chosen sent is_chosen is_sent. (
        has_one_source rows choice (paired_words key xs) lw chosen sent is_chosen is_sent,
        has_one_source rows choice (paired_words key others) lo chosen sent is_chosen is_sent,
      );
    }
