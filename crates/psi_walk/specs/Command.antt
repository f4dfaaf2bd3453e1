-- What a command is, and what a run may answer whose first word may name one.
use Rattle.std.specs.Prelude.{◌≡◌, ◌⊎◌, ℕ, Bool, true, false, cond, List, [], ◌∷◌, Option, Some, None}
use Rattle.std.specs.Str.{bytes_eq}
use Rattle.psi_words.specs.Words.{Forms, bad_word, word_at}
use Rattle.psi_base.specs.Outside.{Known, Outside}
use Rattle.psi_texts.specs.declared.status.Status.TheVariants.{BadWords, Done}
use Rattle.psi_walk.specs.Tree.{Tree, End, ended, stopped}
use Rattle.psi_walk.specs.Walk.{Runs}
use Rattle.psi_walk.specs.declared.outcome.Outcome.{Outcome}

-- a command: its name, the forms of the words after it, its steps with these words, whether it runs both ends of a
-- session, and what it promises in its own words of a run that ended so
pub record Command : Type 1 where
  pub name : List ℕ
  pub forms : Forms
  pub steps : List (List ℕ) → Tree
  pub both_ends : Bool
  pub promise : Known → List (List ℕ) → Outside → End → Type 0

-- what a name means among some commands: none of them, or one
pub data Meaning : Type 1 where
  nothing : Meaning
  means : Command → Meaning

-- the first of some commands that has this name
abbrev pub named : List Command → List ℕ → Meaning
named [] name = nothing
named (command ∷ rest) name = cond (bytes_eq name command.name) (means command) (named rest name)

-- ---- a run of one command

-- an outcome has the digest of a session only where a command is done that runs both of its ends
abbrev pub IsWired : Bool → End → Type 0
IsWired false end = end.wire ≡ None
IsWired true end = (end.wire ≡ None) ⊎ (end.status ≡ Done)

-- what it may answer, by the bad place of its words: a bad word is refused at its place, and changes nothing; and else
-- its steps are followed
abbrev pub AnswersBy : Command → Known → List (List ℕ) → Outside → End → Option ℕ → Type 0
AnswersBy command known words before end (Some at) = end ≡ stopped (BadWords at) before
AnswersBy command known words before end None = Runs known words (command.steps words) before end

abbrev pub Answers : Command → Known → List (List ℕ) → Outside → End → Type 0
Answers command known words before end = AnswersBy command known words before end (bad_word command.forms words)

-- what it keeps where no word is bad: its promise
pub record Keeps (command : Command) (known : Known) (words : List (List ℕ)) (before : Outside) (end : End)
    : Type 0 where
  pub promise : command.promise known words before end
  pub wire : IsWired command.both_ends end

abbrev pub KeepsInForm : Command → Known → List (List ℕ) → Outside → End → Type 0
KeepsInForm command known words before end =
    bad_word command.forms words ≡ None → Keeps command known words before end

-- ---- a run of the command that a name means

-- a fact on the command that a name means, if it means one
abbrev pub OnNamed : Meaning → (Command → Type 0) → Type 0
OnNamed nothing P = Unit {0}
OnNamed (means command) P = P command

-- what a call may answer that carries out the command of a name, where it has one of it
abbrev pub CarriesOutBy : Meaning → Known → List (List ℕ) → Outside → Option Outcome → Outside → Type 0
CarriesOutBy nothing known words before None after = after ≡ before
CarriesOutBy nothing known words before (Some outcome) after = ⊥
CarriesOutBy (means command) known words before None after = ⊥
CarriesOutBy (means command) known words before (Some outcome) after =
    Answers command known words before (ended outcome after)
    × KeepsInForm command known words before (ended outcome after)

-- the same of the commands that the first word may name
abbrev pub CarriesOut : List Command → Known → List (List ℕ) → Outside → Option Outcome → Outside → Type 0
CarriesOut commands known words before answer after =
    CarriesOutBy (named commands (word_at words 0)) known words before answer after
