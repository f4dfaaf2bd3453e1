-- The words of paired lines, with and without lines.
use Rattle.std.proofs.Common.{◌≡◌, ◌<◌, ℕ, List, [], ◌∷◌, length, map, refl, arith}
use Rattle.psi_spec.specs.Bits.{zero_word}
use Rattle.psi_spec.specs.PairedRows.{line_word, paired_words}

pub paired_words_of_none : (key : List ℕ) (xs : List (List ℕ)) → length xs ≡ 0 → paired_words key xs ≡ zero_word ∷ []
unfolding paired_words
paired_words_of_none key [] none = refl
paired_words_of_none key (x ∷ xs) none = absurd (omega arith)

pub paired_words_of_some : (key : List ℕ) (xs : List (List ℕ)) → 0 < length xs → paired_words key xs ≡ map (line_word key) xs
unfolding paired_words
paired_words_of_some key [] some = absurd (omega arith)
paired_words_of_some key (x ∷ xs) some = refl
