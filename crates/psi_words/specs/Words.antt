-- The words of a command line: their forms, and what they say.
use Rattle.std.specs.Prelude.{ℕ, ◌+◌, ◌-◌, ◌^◌, ◌==◌, ◌&&◌, ◌||◌, Bool, false, not, List, [], ◌∷◌, length, zero, suc, Option, Some, None, nat_lt, nat_le, slice_get, unwrap_or, if◌then◌else◌}
use Rattle.std.specs.Char.{is_ascii_digit}
use Rattle.std.specs.List.{after_first, before_first, list_all, list_any}
use Rattle.std.specs.Result.{result_unwrap_or}
use Rattle.std.specs.Str.{bytes_eq}
use Rattle.std.specs.Str.Parse.{digits_value}
use Rattle.hex.specs.Hex.{decode_of, is_hex_digit}
use Rattle.psi_spec.specs.Deals.{fits_tag_length}
use Rattle.psi_spec.specs.Limits.{limit_items, stash_limit, usual_stash}

-- the word at a place, and the empty text past the end
abbrev pub word_at : List (List ℕ) → ℕ → List ℕ
word_at words at = unwrap_or (slice_get words at) []

-- ---- one word

-- a name, of a file or an address: not empty
abbrev pub is_name : List ℕ → Bool
is_name word = not (length word == 0)

-- 64 hexadecimal digits of either case
abbrev pub is_seed : List ℕ → Bool
is_seed word = (length word == 64) && list_all is_hex_digit word

-- the 32 bytes that they spell
unfoldable pub seed_of : List ℕ → List ℕ
seed_of word = result_unwrap_or (decode_of word) []

-- 1 to `most` decimal digits
abbrev pub are_digits : ℕ → List ℕ → Bool
are_digits most word = nat_le 1 (length word) && (nat_le (length word) most && list_all is_ascii_digit word)

-- the number that decimal digits spell
abbrev pub number_of : List ℕ → ℕ
number_of word = digits_value 10 word

-- the number of a session: 1 to 20 digits with a value below 2^64
abbrev pub is_session : List ℕ → Bool
is_session word = are_digits 20 word && nat_lt (number_of word) (2 ^ 64)

-- the length of a tag: 1 or 2 digits with a value that a tag may have
abbrev pub is_tag_length : List ℕ → Bool
is_tag_length word = are_digits 2 word && fits_tag_length (number_of word)

-- the number of stash rows: 1 or 2 digits with a value of at most 16
abbrev pub is_stash_count : List ℕ → Bool
is_stash_count word = are_digits 2 word && nat_le (number_of word) stash_limit

-- a stroke, which parts the length of a tag from the number of stash rows
abbrev pub is_stroke : ℕ → Bool
is_stroke b = b == 47

-- the sizes of a deal: the length of a tag, alone or before a stroke and the number of stash rows
abbrev pub are_sizes : List ℕ → Bool
are_sizes word =
    if list_any is_stroke word
    then is_tag_length (before_first is_stroke word) && is_stash_count (after_first is_stroke word)
    else is_tag_length word

-- the length of a tag that they say
unfoldable pub tag_length_of : List ℕ → ℕ
tag_length_of word = number_of (before_first is_stroke word)

-- the number of stash rows that they say, and the usual one where they say none
unfoldable pub stash_of : List ℕ → ℕ
stash_of word = if list_any is_stroke word then number_of (after_first is_stroke word) else usual_stash

-- a number of items: 1 to 7 digits with a value of at most 1,048,576
abbrev pub is_count : List ℕ → Bool
is_count word = are_digits 7 word && nat_le (number_of word) limit_items

-- two numbers of items, of which the second is at most the first
abbrev pub is_part : List ℕ → List ℕ → Bool
is_part whole word = (is_count whole && is_count word) && nat_le (number_of word) (number_of whole)

-- ---- the words of a command

-- the form of a word: a test of all words at its place
abbrev pub Form : Type 0
Form = List (List ℕ) → ℕ → Bool

-- the form that speaks of the word alone
abbrev pub alone : (List ℕ → Bool) → Form
alone test words at = test (word_at words at)

-- whether the word is one of so many words from a place on
abbrev pub is_among : List (List ℕ) → List ℕ → ℕ → ℕ → Bool
is_among words word from zero = false
is_among words word from (suc count) = bytes_eq (word_at words from) word || is_among words word (from + 1) count

-- the name of a file that is written: not one of the names of files from this place on and before that one
abbrev pub is_output : ℕ → ℕ → Form
is_output from to words at =
    is_name (word_at words at) && not (is_among words (word_at words at) from (to - from))

-- a number of items that is at most the one in the word before
abbrev pub is_shared : Form
is_shared words at = is_part (word_at words (at - 1)) (word_at words at)

-- the forms of the words after a command's name: of those that must be there, and of those that may
pub record Forms : Type 0 where
  pub needed : List Form
  pub optional : List Form

-- the least place from `at` on whose word is out of form or one too many, where each may be missing
abbrev pub bad_optional : List Form → List (List ℕ) → ℕ → Option ℕ
bad_optional [] words at = if nat_lt at (length words) then Some at else None
bad_optional (form ∷ forms) words at =
    if nat_lt at (length words) then (if form words at then bad_optional forms words (at + 1) else Some at) else None

-- the least place from `at` on whose word is missing, out of form or one too many
abbrev pub bad_from : List Form → List Form → List (List ℕ) → ℕ → Option ℕ
bad_from [] optional words at = bad_optional optional words at
bad_from (form ∷ needed) optional words at =
    if nat_lt at (length words) && form words at then bad_from needed optional words (at + 1) else Some at

-- the least place, counted from 0, whose word after the command's name fails these forms
abbrev pub bad_word : Forms → List (List ℕ) → Option ℕ
bad_word forms words = bad_from forms.needed forms.optional words 1
