-- The words of all rows of a placed set, as code fills them in item by item.
use Rattle.std.proofs.Common.{◌≡◌, ◌+◌, ◌<◌, ℕ, suc, zero, Bool, cond, List, [], ◌∷◌, length, take, map, set, replicate, get_or, refl, sym, ap, ◌∙◌, arith, ⊎_elim, eq-eqb}
use Rattle.std.specs.List.{range_with_len}
use Rattle.std.proofs.lemmas.Bool.{cases_eq, ne_eqb}
use Rattle.std.proofs.lemmas.List.{ext_get_or, get_or-set_same, get_or-set_other, length-set}
use Rattle.std.proofs.lemmas.List.FromFn.{get_or-map-range_with_len, length-map-range_with_len}
use Rattle.psi_spec.specs.Bits.{zero_word, IsWord}
use Rattle.psi_spec.specs.Formulas.{item_digest, code}
use Rattle.psi_spec.specs.Meeting.{Placed, row_word}
use Rattle.psi_spec.specs.Streams.{row_words}
use Rattle.psi_spec.proofs.CodeBytes.{AreBytes-row_word}
use Rattle.psi_spec.proofs.Placing.{AreApart, length-row_word, row_word-more}

pub IsWord-row_word : (key : List ℕ) (placed : List Placed) (row : ℕ) → IsWord (row_word key placed row)
IsWord-row_word key placed row =
    record { size = length-row_word key placed row; bytes = AreBytes-row_word key placed row }

pub length-row_words : (key : List ℕ) (placed : List Placed) (rows : ℕ) → length (row_words key placed rows) ≡ rows
length-row_words key placed rows = length-map-range_with_len (row_word key placed) 0 rows

pub get_or-row_words : (key : List ℕ) (placed : List Placed) (rows row : ℕ) → row < rows
    → get_or (row_words key placed rows) row [] ≡ row_word key placed row
get_or-row_words key placed rows row l =
    get_or-map-range_with_len (row_word key placed) 0 rows row row [] l (omega arith)

-- a list of words is that of the rows where each is the word of its row
pub row_words_are : (key : List ℕ) (placed : List Placed) (words : List (List ℕ))
    → ((row : ℕ) → row < length words → get_or words row [] ≡ row_word key placed row)
    → words ≡ row_words key placed (length words)
row_words_are key placed words same =
    ext_get_or [] words (row_words key placed (length words)) (sym (length-row_words key placed (length words)))
    (λ row l. same row l ∙ sym (get_or-row_words key placed (length words) row l))

-- without items each row has the zero word
zero_words_from : (key : List ℕ) (a rows : ℕ)
    → map (row_word key []) (range_with_len a rows) ≡ replicate rows zero_word
zero_words_from key a zero = refl
zero_words_from key a (suc rows) =
    ap (λ (words : List (List ℕ)). zero_word ∷ words) (zero_words_from key (a + 1) rows)

pub row_words_of_none : (key : List ℕ) (rows : ℕ) → row_words key [] rows ≡ replicate rows zero_word
row_words_of_none key rows = zero_words_from key 0 rows

-- with one more item, its code stands at its row
pub row_words-more : (key : List ℕ) (placed : List Placed) (i : ℕ) (d : Placed) (rows : ℕ) → AreApart placed
    → i < length placed → (get_or placed i d).slot.row < rows
    → row_words key (take (i + 1) placed) rows
    ≡ set (row_words key (take i placed) rows) (get_or placed i d).slot.row
    (code key (get_or placed i d).slot.index (item_digest (get_or placed i d).item))
row_words-more key placed i d rows apart within low =
    let p : Placed = get_or placed i d in
    let word : List ℕ = code key p.slot.index (item_digest p.item) in
    let before : List (List ℕ) = row_words key (take i placed) rows in
    let long : length before ≡ rows = length-row_words key (take i placed) rows in
    let count : length (row_words key (take (i + 1) placed) rows) ≡ rows =
    length-row_words key (take (i + 1) placed) rows in
    ext_get_or [] (row_words key (take (i + 1) placed) rows) (set before p.slot.row word)
    (count ∙ sym (length-set before p.slot.row word ∙ long))
    (λ row l.
    get_or-row_words key (take (i + 1) placed) rows row (omega arith)
    ∙ (row_word-more key placed i d row apart within
    ∙ ⊎_elim
    (λ (same : row ≡ p.slot.row).
    ap (λ (b : Bool). cond b word (row_word key (take i placed) row)) (eq-eqb p.slot.row row (sym same))
    ∙ (sym (get_or-set_same before p.slot.row word [] (omega arith))
    ∙ ap (λ (k : ℕ). get_or (set before p.slot.row word) k []) (sym same)))
    (λ (other : row ≡ p.slot.row → ⊥).
    ap (λ (b : Bool). cond b word (row_word key (take i placed) row))
    (ne_eqb p.slot.row row (λ (e : p.slot.row ≡ row). other (sym e)))
    ∙ (sym (get_or-row_words key (take i placed) rows row (omega arith))
    ∙ sym (get_or-set_other before p.slot.row row word [] other)))
    (cases_eq row p.slot.row)))
