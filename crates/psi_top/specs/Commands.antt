-- The commands, and what a run may answer.
use Rattle.std.specs.Prelude.{◌≡◌, ◌++◌, ℕ, List, Option, Some, None}
use Rattle.psi_words.specs.Words.{bad_word, word_at}
use Rattle.psi_base.specs.Outside.{Known, Outside}
use Rattle.psi_walk.specs.Command.{Answers, Command, Meaning, OnNamed, means, named, nothing}
use Rattle.psi_walk.specs.Tree.{End, stopped}
use Rattle.psi_auditor.specs.Commands.{auditor_commands}
use Rattle.psi_dealer.specs.Commands.{dealer_commands}
use Rattle.psi_link.specs.Commands.{link_commands}
use Rattle.psi_local.specs.Commands.{local_commands}
use Rattle.psi_twin.specs.Commands.{twin_commands}
use Rattle.psi_texts.specs.declared.status.Status.TheVariants.{BadWords}

-- all commands, by the crates where they stand
abbrev pub commands : List Command
commands = dealer_commands ++ (local_commands ++ (link_commands ++ (auditor_commands ++ twin_commands)))

-- the command that the first word names
abbrev pub command_of : List (List ℕ) → Meaning
command_of words = named commands (word_at words 0)

-- the least place, counted from 0, whose word is bad: the first, where it names no command
abbrev pub bad_by : Meaning → List (List ℕ) → Option ℕ
bad_by nothing words = Some 0
bad_by (means command) words = bad_word command.forms words

abbrev pub bad_place : List (List ℕ) → Option ℕ
bad_place words = bad_by (command_of words) words

-- what a run may answer, by what its first word means
abbrev pub RunsAs : Meaning → Known → List (List ℕ) → Outside → End → Type 0
RunsAs nothing known words before end = end ≡ stopped (BadWords 0) before
RunsAs (means command) known words before end = Answers command known words before end

abbrev pub RunAnswers : Known → List (List ℕ) → Outside → End → Type 0
RunAnswers known words before end = RunsAs (command_of words) known words before end

-- a fact on the command that the words name, where none of them is bad
abbrev pub OnCommand : List (List ℕ) → (Command → Type 0) → Type 0
OnCommand words P = OnNamed (command_of words) (λ command. bad_word command.forms words ≡ None → P command)
