-- The forms of words as loops and recursions read them.
use Rattle.std.proofs.Common.{◌≡◌, ◌+◌, ◌-◌, ◌<◌, ◌≤◌, ◌∙◌, ℕ, true, false, List, [], ◌∷◌, length, suc, nat_lt, None, refl, ap, arith}
use Rattle.std.specs.Str.{bytes_eq}
use Rattle.std.proofs.lemmas.Bool.Decides.{nat_tests}
use Rattle.psi_words.specs.Words.{bad_optional, is_among, word_at}
use Rattle.psi_words.specs.Form.{tests_of}
use Rattle.psi_words.specs.declared.form.Form.{Form}

-- a word that is not the first of some words is among the others or among none
pub is_among-later : (words : List (List ℕ)) (word : List ℕ) (place to : ℕ) → place < to → bytes_eq (word_at words place) word ≡ false
    → is_among words word place (to - place) ≡ is_among words word (place + 1) (to - (place + 1))
is_among-later words word place to within t =
    let e : to - place ≡ suc (to - (place + 1)) = omega arith in
    ap (λ n. is_among words word place n) e ∙ (rw t refl)

pub is_among-here : (words : List (List ℕ)) (word : List ℕ) (place to : ℕ) → place < to → bytes_eq (word_at words place) word ≡ true
    → is_among words word place (to - place) ≡ true
is_among-here words word place to within t =
    let e : to - place ≡ suc (to - (place + 1)) = omega arith in
    ap (λ n. is_among words word place n) e ∙ (rw t refl)

pub is_among-none : (words : List (List ℕ)) (word : List ℕ) (place to : ℕ) → to ≤ place → is_among words word place (to - place) ≡ false
is_among-none words word place to past =
    let e : to - place ≡ 0 = omega arith in
    ap (λ n. is_among words word place n) e

-- past the last word no optional word is bad
pub bad_optional-past : (forms : List Form) (words : List (List ℕ)) (at : ℕ) → length words ≤ at → None ≡ bad_optional (tests_of forms) words at
bad_optional-past [] words at past = let t : nat_lt at (length words) ≡ false = grind (arith, nat_tests) in rw t refl
bad_optional-past (form ∷ forms) words at past = let t : nat_lt at (length words) ≡ false = grind (arith, nat_tests) in rw t refl
