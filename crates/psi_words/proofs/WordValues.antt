-- What `parse` and `from_hex` answer for words in form.
use Rattle.std.proofs.Common.{◌≡◌, ◌^◌, ◌*◌, ◌<◌, ◌≤◌, ◌&&◌, ℕ, Bool, true, false, List, [], ◌∷◌, length, refl, sym, ap, ◌∙◌, arith, nat_lt, nat_le, ◌==◌, Ok, Err}
use Rattle.std.specs.declared.result.Result.{Result}
use Rattle.std.specs.Result.{is_ok, OkIff, result_unwrap_or}
use Rattle.std.specs.Char.{is_ascii_digit}
use Rattle.std.specs.List.{after_first, before_first, list_all, list_any}
use Rattle.std.specs.Str.{all_ascii_digits}
use Rattle.std.specs.Str.Parse.{ParsesUnsigned, digits_value}
use Rattle.std.proofs.lemmas.Str.Parse.{IsNumeralModel, numerals_by_value, tells_all_ascii_digits, parse_digits, parse_gives, digits_value_short}
use Rattle.std.proofs.lemmas.Bool.Decides.{nat_tests}
use Rattle.std.proofs.lemmas.List.Sums.{AllPass-from_list_all, list_all-from_AllPass}
use Rattle.hex.specs.Hex.{decode_sized, is_hex_digit}
use Rattle.hex.specs.declared.error.FromHexError.{FromHexError}
use Rattle.hex.proofs.HexLemmas.{IsOk-decode_sized, decode_sized-twice}
use Rattle.psi_words.specs.Words.{are_digits, are_sizes, is_count, is_part, is_stroke, is_seed, is_session, is_stash_count, is_tag_length, number_of, seed_of}
use Rattle.psi_spec.specs.Limits.{limit_items}
use Rattle.psi_spec.proofs.Lists.{same_test}

-- two spellings of one test
list_all-digits : (word : List ℕ) → list_all is_ascii_digit word ≡ all_ascii_digits word
list_all-digits [] = refl
list_all-digits (c ∷ word) = ap (λ b. is_ascii_digit c && b) (list_all-digits word)

numerals : IsNumeralModel (λ word. all_ascii_digits word ≡ true) (digits_value 10)
numerals = numerals_by_value (λ word. all_ascii_digits word ≡ true) tells_all_ascii_digits

pub both_true : (a b : Bool) → (a && b) ≡ true → (a ≡ true) × (b ≡ true)
both_true true b e = (refl, e)
both_true false b e = cc e

-- what it means that a word has 1 to `most` digits
pub record HasDigits (most : ℕ) (word : List ℕ) : Type 0 where
  pub some : 1 ≤ length word
  pub few : length word ≤ most
  pub digits : all_ascii_digits word ≡ true

pub has_digits : (most : ℕ) (word : List ℕ) → are_digits most word ≡ true → HasDigits most word
has_digits most word e =
    let first = both_true (nat_le 1 (length word)) (nat_le (length word) most && list_all is_ascii_digit word) e in
    let second = both_true (nat_le (length word) most) (list_all is_ascii_digit word) first.1 in
    let some : nat_le 1 (length word) ≡ true = first.0 in
    let few : nat_le (length word) most ≡ true = second.0 in
    record { some = grind (arith, nat_tests); few = grind (arith, nat_tests); digits = sym (list_all-digits word) ∙ second.1 }

variant : {E : Type 0} (bits : ℕ) (v : ℕ) (word : List ℕ) (r : Result ℕ E) → 1 ≤ length word → OkIff r ((0 < length word) × (v < 2 ^ bits)) v → is_ok r ≡ nat_lt v (2 ^ bits)
variant bits v word (Ok x) some h = let small : v < 2 ^ bits = h.0.1 in grind (arith, nat_tests)
variant bits v word (Err e) some h = let large : v < 2 ^ bits → ⊥ = λ l. h (omega arith, l) in grind (arith, nat_tests)

-- `parse` succeeds exactly where the number fits
pub parse_fits : {E : Type 0} (bits most : ℕ) (word : List ℕ) (r : Result ℕ E) → ParsesUnsigned bits 10 word r → HasDigits most word → is_ok r ≡ nat_lt (number_of word) (2 ^ bits)
parse_fits bits most word r h d = variant bits (number_of word) word r d.some (parse_digits numerals bits word r h d.digits)

-- and then answers the number
pub parse_number : {E : Type 0} (bits most : ℕ) (word : List ℕ) (r : Result ℕ E) → ParsesUnsigned bits 10 word r → HasDigits most word → number_of word < 2 ^ bits → r ≡ Ok (number_of word)
parse_number bits most word r h d small = parse_gives numerals bits word r h d.digits (let s = d.some in omega arith) small

-- a number of two digits is below 100
pub two_digits : (word : List ℕ) → HasDigits 2 word → number_of word < 100
two_digits word d = digits_value_short numerals word 2 d.digits d.few

-- a number of seven digits is below 10,000,000
pub seven_digits : (word : List ℕ) → HasDigits 7 word → number_of word < 10000000
seven_digits word d = digits_value_short numerals word 7 d.digits d.few

-- what the form of a number of items says
pub count_parts : (word : List ℕ) → is_count word ≡ true → HasDigits 7 word × (number_of word ≤ limit_items)
count_parts word e =
    let parts = both_true (are_digits 7 word) (nat_le (number_of word) limit_items) e in
    let high : nat_le (number_of word) limit_items ≡ true = parts.1 in
    (has_digits 7 word parts.0, grind (arith, nat_tests))

-- what the form of two numbers of items says
pub record AreCounts (whole word : List ℕ) : Type 0 where
  pub whole_is : is_count whole ≡ true
  pub word_is : is_count word ≡ true
  pub within : number_of word ≤ number_of whole
  pub few : number_of whole ≤ limit_items

pub part_parts : (whole word : List ℕ) → is_part whole word ≡ true → AreCounts whole word
part_parts whole word e =
    let parts = both_true (is_count whole && is_count word) (nat_le (number_of word) (number_of whole)) e in
    let counts = both_true (is_count whole) (is_count word) parts.0 in
    let within : nat_le (number_of word) (number_of whole) ≡ true = parts.1 in
    record { whole_is = counts.0; word_is = counts.1; within = grind (arith, nat_tests); few = (count_parts whole counts.0).1 }

-- what the form of a session says
pub session_parts : (word : List ℕ) → is_session word ≡ true → HasDigits 20 word × (number_of word < 2 ^ 64)
session_parts word e =
    let parts = both_true (are_digits 20 word) (nat_lt (number_of word) (2 ^ 64)) e in
    let small : nat_lt (number_of word) (2 ^ 64) ≡ true = parts.1 in
    (has_digits 20 word parts.0, grind (arith, nat_tests))

-- what the form of a tag length says
pub tag_length_parts : (word : List ℕ) → is_tag_length word ≡ true → HasDigits 2 word × (1 ≤ number_of word) × (number_of word ≤ 16)
tag_length_parts word e =
    let parts = both_true (are_digits 2 word) (nat_le 1 (number_of word) && nat_le (number_of word) 16) e in
    let ends = both_true (nat_le 1 (number_of word)) (nat_le (number_of word) 16) parts.1 in
    let low : nat_le 1 (number_of word) ≡ true = ends.0 in
    let high : nat_le (number_of word) 16 ≡ true = ends.1 in
    (has_digits 2 word parts.0, grind (arith, nat_tests), grind (arith, nat_tests))

-- what the form of a number of stash rows says
pub stash_parts : (word : List ℕ) → is_stash_count word ≡ true → HasDigits 2 word × (number_of word ≤ 16)
stash_parts word e =
    let parts = both_true (are_digits 2 word) (nat_le (number_of word) 16) e in
    let high : nat_le (number_of word) 16 ≡ true = parts.1 in
    (has_digits 2 word parts.0, grind (arith, nat_tests))

-- hexadecimal digits are read exactly where a word has the form of a seed
pub decoded_sized : (word : List ℕ) → is_ok (decode_sized word 32) ≡ is_seed word
decoded_sized word =
    let both = IsOk-decode_sized word 32 in
    same_test (is_ok (decode_sized word 32)) (is_seed word)
    (λ ok. let h = both.0 ok in
    let long : (length word == 64) ≡ true = let e = h.0 in grind (arith, nat_tests) in
    rw (long, list_all-from_AllPass is_hex_digit word h.1) refl)
    (λ seed. let h = both_true (length word == 64) (list_all is_hex_digit word) seed in
    let long : (length word == 64) ≡ true = h.0 in
    let even : length word ≡ 2 * 32 = grind (arith, nat_tests) in
    both.1 (even, AllPass-from_list_all is_hex_digit word h.1))

-- what is read is the seed
pub decoded_seed : (word seed : List ℕ) → is_seed word ≡ true → decode_sized word 32 ≡ Ok seed → seed ≡ seed_of word
unfolding seed_of
decoded_seed word seed form e =
    let h = both_true (length word == 64) (list_all is_hex_digit word) form in
    let long : (length word == 64) ≡ true = h.0 in
    let even : length word ≡ 2 * 32 = grind (arith, nat_tests) in
    sym (ap (λ (r : Result (List ℕ) FromHexError). result_unwrap_or r []) (sym (decode_sized-twice word 32 even) ∙ e))

-- what the form of sizes says where they have a stroke
pub sizes_parts : (word : List ℕ) → are_sizes word ≡ true → list_any is_stroke word ≡ true
    → (is_tag_length (before_first is_stroke word) ≡ true) × (is_stash_count (after_first is_stroke word) ≡ true)
sizes_parts word form stroke =
    let both : (is_tag_length (before_first is_stroke word) && is_stash_count (after_first is_stroke word)) ≡ true = rw stroke at form in
    both_true (is_tag_length (before_first is_stroke word)) (is_stash_count (after_first is_stroke word)) both
