-- Lists and deals among the files of a command: which were read before another is due, and which are there.
use Rattle.std.specs.Prelude.{◌≡◌, ◌≤◌, ◌⊎◌, ℕ, List, length, None, Some}
use Rattle.psi_spec.specs.Deals.{ReceiverDeal}
use Rattle.psi_spec.specs.Items.{first_bad}
use Rattle.psi_spec.specs.Limits.{file_limit}
use Rattle.psi_words.specs.Words.{word_at}
use Rattle.psi_base.specs.Outside.{Files, Known, Outside}
use Rattle.psi_walk.specs.JudgedFiles.{HasItems, HasReceiverDeal}

-- the item file of a word was read and has items
abbrev pub AfterItems : Known → List (List ℕ) → Outside → ℕ → Type 0
AfterItems known words before word = (items : List (List ℕ)) × HasItems known words before word items

-- both lists of a command were read: the first word names one, and the second the other
abbrev pub AfterLists : Known → List (List ℕ) → Outside → Type 0
AfterLists known words before = AfterItems known words before 1 × AfterItems known words before 2

-- these and the receiver's deal, of the third word
abbrev pub AfterDeal : Known → List (List ℕ) → Outside → Type 0
AfterDeal known words before =
    AfterLists known words before × ((deal : ReceiverDeal) × HasReceiverDeal known words before 3 deal)

-- a fact on the first item file, or on the second where the first has items
abbrev pub OnFirstOrSecond : Known → List (List ℕ) → Outside → (ℕ → Type 0) → Type 0
OnFirstOrSecond known words before P = P 1 ⊎ ((xs : List (List ℕ)) × HasItems known words before 1 xs × P 2)

-- the file of a word is there, and is a list without a bad line
pub record HasList (words : List (List ℕ)) (files : Files) (word : ℕ) : Type 0 where
  pub bytes : List ℕ
  pub there : files (word_at words word) ≡ Some bytes
  pub short : length bytes ≤ file_limit
  pub good : first_bad bytes ≡ None
