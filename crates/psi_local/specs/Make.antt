-- What `make` does: it writes two item files that are made by rule.
use Rattle.std.specs.Prelude.{◌≡◌, ℕ, Bool, true, false, List, [], ◌∷◌, None}
use Rattle.psi_spec.specs.MadeFiles.{made_file}
use Rattle.psi_words.specs.Words.{number_of, word_at}
use Rattle.psi_base.specs.Outside.{Outside, written}
use Rattle.psi_walk.specs.Tree.{puts, Tree, ends, End}
use Rattle.psi_texts.specs.declared.status.Status.TheVariants.{Done}

-- the file that the words name by the number of its items, of those in both files, and of the files: the first or the
-- second
abbrev pub made_for : Bool → List (List ℕ) → List ℕ
made_for is_second words =
    made_file is_second (number_of (word_at words 1)) (number_of (word_at words 2)) (number_of (word_at words 3))

-- the first file is written, and then the second
abbrev pub make_tree : List (List ℕ) → Tree
make_tree words = ends None (puts 4 (made_for false words) ∷ puts 5 (made_for true words) ∷ [])

-- both files were written, and nothing else changed
abbrev pub WroteMade : List (List ℕ) → Outside → Outside → Type 0
WroteMade words before after =
    after ≡ written (written before (word_at words 4) (made_for false words)) (word_at words 5) (made_for true words)

-- all that `make` promises
pub record MakePromise (words : List (List ℕ)) (before : Outside) (end : End) : Type 0 where
  pub writes : end.status ≡ Done → WroteMade words before end.left
