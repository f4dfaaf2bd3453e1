-- Runs of the command that a name means.
use Rattle.std.proofs.Common.{◌≡◌, ℕ, Bool, true, false, cond, List, [], ◌∷◌, ◌++◌, Option, Some, None, subst}
use Rattle.std.specs.Str.{bytes_eq}
use Rattle.psi_words.specs.Words.{bad_word, word_at}
use Rattle.psi_base.specs.Outside.{Known, Outside}
use Rattle.psi_walk.specs.Command.{Answers, AnswersBy, CarriesOut, CarriesOutBy, Command, Meaning, OnNamed, means, named, nothing}
use Rattle.psi_walk.specs.Tree.{End}
use Rattle.psi_walk.specs.Walk.{Runs}
use Rattle.psi_walk.specs.declared.outcome.Outcome.{Outcome}

-- words in form: the steps of the command are followed
pub runs_in_form : (command : Command) (known : Known) (words : List (List ℕ)) (before : Outside) (end : End) → bad_word command.forms words ≡ None
    → Answers command known words before end → Runs known words (command.steps words) before end
runs_in_form command known words before end fit h = subst (AnswersBy command known words before end) fit h

-- a fact that follows from another, of the command that a name means
pub on_named : (meaning : Meaning) (P Q : Command → Type 0) → ((command : Command) → P command → Q command) → OnNamed meaning P → OnNamed meaning Q
on_named nothing P Q law h = tt
on_named (means command) P Q law h = law command h

-- the first of some commands that has the name is among more of them
pub carried_first : (first rest : List Command) (known : Known) (words : List (List ℕ)) (before after : Outside) (outcome : Outcome)
    → CarriesOut first known words before (Some outcome) after → CarriesOut (first ++ rest) known words before (Some outcome) after
carried_first [] rest known words before after outcome h = absurd h
carried_first (command ∷ first) rest known words before after outcome h =
    by_test (bytes_eq (word_at words 0) command.name) (carried_first first rest known words before after outcome) h
  where
    by_test : (b : Bool) → (CarriesOut first known words before (Some outcome) after → CarriesOut (first ++ rest) known words before (Some outcome) after)
        → CarriesOutBy (cond b (means command) (named first (word_at words 0))) known words before (Some outcome) after
        → CarriesOutBy (cond b (means command) (named (first ++ rest) (word_at words 0))) known words before (Some outcome) after
    by_test true later h = h
    by_test false later h = later h

-- none of some commands has the name, and so those that stand behind them decide
pub carried_on : (first rest : List Command) (known : Known) (words : List (List ℕ)) (before mid after : Outside) (answer : Option Outcome)
    → CarriesOut first known words before None mid → CarriesOut rest known words mid answer after → CarriesOut (first ++ rest) known words before answer after
carried_on [] rest known words before mid after answer none h = subst (λ (o : Outside). CarriesOut rest known words o answer after) none h
carried_on (command ∷ first) rest known words before mid after answer none h =
    by_test (bytes_eq (word_at words 0) command.name) (λ n. carried_on first rest known words before mid after answer n h) none
  where
    by_test : (b : Bool) → (CarriesOut first known words before None mid → CarriesOut (first ++ rest) known words before answer after)
        → CarriesOutBy (cond b (means command) (named first (word_at words 0))) known words before None mid
        → CarriesOutBy (cond b (means command) (named (first ++ rest) (word_at words 0))) known words before answer after
    by_test true later none = absurd none
    by_test false later none = later none
