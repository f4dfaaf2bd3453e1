-- What callers read from how a run followed the tree of the command that its words name.
use Rattle.std.specs.Prelude.{◌≡◌, ℕ, List, Option, Some, None, false}
use Rattle.psi_base.specs.Outside.{Known, Outside}
use Rattle.psi_walk.specs.Command.{IsWired, Keeps, Meaning, OnNamed, means, nothing}
use Rattle.psi_walk.specs.Due.{Contents, Due}
use Rattle.psi_walk.specs.Promises.{ComesThrough, IsAnswered, IsCounted, Leaves, OnDue}
use Rattle.psi_walk.specs.Tree.{End}
use Rattle.psi_texts.specs.declared.status.Status.{Status}
use Rattle.psi_texts.specs.declared.status.Status.TheVariants.{Done, BadWords}
use Rattle.psi_top.specs.Commands.{OnCommand, command_of}

-- ---- words

-- the status is `BadWords` exactly where the words have a bad place, which it names
abbrev pub IsBadWords : Status → Option ℕ → Type 0
IsBadWords (BadWords at) place = place ≡ Some at
IsBadWords _ place = place ≡ None

-- ---- counts and status, in every world

-- a bad word changes nothing at all, and a command no count but that of its status's cause
abbrev pub CountsBy : List (List ℕ) → Outside → Status → Outside → Option ℕ → Type 0
CountsBy words before why after (Some at) = after ≡ before
CountsBy words before why after None = IsCounted words before why after

-- the tree comes to a step that answers the status, with the placements that the outcome carries
abbrev pub IsOfCommand : Known → List (List ℕ) → Outside → End → Type 0
IsOfCommand known words before end =
    OnCommand words
    (λ command. IsAnswered known words false (command.steps words) before end.placed end.status end.left)

-- ---- where the contents that decide are told

-- a fact on what the command is due, where all that decides it is told
abbrev pub OnTold
    : List (List ℕ) → Outside → ((Option Contents → Due) → Option Contents → Type 0) → Type 0
OnTold words before P = OnCommand words (λ command. OnDue words before (command.steps words) P)

-- from valid files, sets that have placements and a well-formed peer the run is done in a calm world, or memory was
-- wanting
abbrev pub RunsThrough : List (List ℕ) → Outside → End → Type 0
RunsThrough words before end = OnCommand words (λ command. ComesThrough words (command.steps words) before end)

-- what a run that is done read, placed, exchanged and left, in every world
abbrev pub DoneLeaves : Known → List (List ℕ) → Outside → End → Type 0
DoneLeaves known words before end =
    OnNamed (command_of words) (λ command. end.status ≡ Done → Leaves known words (command.steps words) before end)

-- ---- what the command itself promises

-- the promise of the command that the words name, which stands in its crate, is kept
abbrev pub Promised : Known → List (List ℕ) → Outside → End → Type 0
Promised known words before end = OnCommand words (λ command. Keeps command known words before end)

-- only where a command is done that runs both ends of a session does an outcome have its digest
abbrev pub IsWiredAs : Meaning → End → Type 0
IsWiredAs nothing end = end.wire ≡ None
IsWiredAs (means command) end = IsWired command.both_ends end
