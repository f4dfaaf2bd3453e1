-- What the words of `make` and of `trial` say.
use Rattle.std.proofs.Common.{◌≡◌, ℕ, true, List, [], ◌∷◌, None}
use Rattle.psi_words.specs.Words.{alone, bad_word, is_count, is_name, is_output, is_part, is_seed, is_session, is_shared, word_at}
use Rattle.psi_words.proofs.InForm.{bad_from-none}
use Rattle.psi_local.specs.Commands.{make_forms, trial_forms}

-- the words of `make` have their forms
pub record IsMaking (words : List (List ℕ)) : Type 0 where
  pub counts : is_part (word_at words 1) (word_at words 2) ≡ true
  pub number : is_session (word_at words 3) ≡ true

pub make_words : (words : List (List ℕ)) → bad_word make_forms words ≡ None → IsMaking words
make_words words fit =
    let name = alone is_name in
    let number = alone is_session in
    let first = bad_from-none (alone is_count) (is_shared ∷ number ∷ name ∷ is_output 4 5 ∷ []) [] words 1 fit in
    let second = bad_from-none is_shared (number ∷ name ∷ is_output 4 5 ∷ []) [] words 2 first.1 in
    let third = bad_from-none number (name ∷ is_output 4 5 ∷ []) [] words 3 second.1 in
    record { counts = second.0; number = third.0 }

-- the words of `trial` have their forms
pub record IsTrying (words : List (List ℕ)) : Type 0 where
  pub counts : is_part (word_at words 1) (word_at words 2) ≡ true
  pub seed : is_seed (word_at words 3) ≡ true

pub trial_words : (words : List (List ℕ)) → bad_word trial_forms words ≡ None → IsTrying words
trial_words words fit =
    let seed = alone is_seed in
    let first = bad_from-none (alone is_count) (is_shared ∷ seed ∷ []) [] words 1 fit in
    let second = bad_from-none is_shared (seed ∷ []) [] words 2 first.1 in
    let third = bad_from-none seed [] [] words 3 second.1 in
    record { counts = second.0; seed = third.0 }
