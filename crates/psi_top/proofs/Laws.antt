-- The promises that follow from `RunAnswers`, for every command.
use Rattle.std.proofs.Common.{◌≡◌, ℕ, Bool, true, false, List, Option, Some, None, refl, sym, ap, ◌∙◌, subst, inl}
use Rattle.psi_words.specs.Words.{bad_word}
use Rattle.psi_base.specs.Outside.{Known, Outside}
use Rattle.psi_walk.specs.Command.{AnswersBy, CarriesOut, CarriesOutBy, Command, IsWired, Keeps, Meaning, OnNamed, means, nothing}
use Rattle.psi_walk.specs.Promises.{ComesThrough, Completes, IsAnswered, IsDue, Leaves, OnDue, StandsAt}
use Rattle.psi_walk.specs.Tree.{Tree, End, ended, stopped}
use Rattle.psi_walk.specs.Walk.{Runs}
use Rattle.psi_walk.specs.declared.outcome.Outcome.{Outcome}
use Rattle.psi_texts.specs.declared.status.Status.{Status}
use Rattle.psi_texts.specs.declared.status.Status.TheVariants as status
use Rattle.psi_walk.proofs.Answered.{follows_answers}
use Rattle.psi_walk.proofs.Commands.{runs_in_form}
use Rattle.psi_walk.proofs.Counted.{follows_counted}
use Rattle.psi_walk.proofs.Laws.{runs_complete, runs_exact, runs_in_words, runs_stand}
use Rattle.psi_walk.proofs.Left.{follows_leaves}
use Rattle.psi_walk.proofs.Through.{runs_through}
use Rattle.psi_top.specs.Commands.{OnCommand, RunAnswers, RunsAs, bad_by, bad_place, command_of, commands}
use Rattle.psi_top.specs.Promises.{CountsBy, DoneLeaves, IsBadWords, IsOfCommand, IsWiredAs, OnTold, Promised, RunsThrough}

-- ---- the relation, by what the first word means

-- what follows for every command from how its tree was followed holds of the one that the words name
by_law : (known : Known) (words : List (List ℕ)) (before : Outside) (end : End) (P : Command → Type 0)
    → ((command : Command) → Runs known words (command.steps words) before end → P command) → RunAnswers known words before end → OnCommand words P
by_law known words before end P law h = by_meaning (command_of words) h
  where
    by_meaning : (meaning : Meaning) → RunsAs meaning known words before end → OnNamed meaning (λ command. bad_word command.forms words ≡ None → P command)
    by_meaning nothing h = tt
    by_meaning (means command) h = λ fit. law command (runs_in_form command known words before end fit h)

-- ---- what was carried out

pub carried_answers : (known : Known) (words : List (List ℕ)) (before after : Outside) (outcome : Outcome) → CarriesOut commands known words before (Some outcome) after
    → RunAnswers known words before (ended outcome after)
carried_answers known words before after outcome h = by_meaning (command_of words) h
  where
    by_meaning : (meaning : Meaning) → CarriesOutBy meaning known words before (Some outcome) after → RunsAs meaning known words before (ended outcome after)
    by_meaning nothing h = absurd h
    by_meaning (means command) h = h.0

pub carried_keeps : (known : Known) (words : List (List ℕ)) (before after : Outside) (outcome : Outcome) → CarriesOut commands known words before (Some outcome) after
    → Promised known words before (ended outcome after)
carried_keeps known words before after outcome h = by_meaning (command_of words) h
  where
    by_meaning : (meaning : Meaning) → CarriesOutBy meaning known words before (Some outcome) after
        → OnNamed meaning (λ command. bad_word command.forms words ≡ None → Keeps command known words before (ended outcome after))
    by_meaning nothing h = absurd h
    by_meaning (means command) h = h.1

-- a first word that names no command
pub nothing_answers : (known : Known) (words : List (List ℕ)) (before after : Outside) → CarriesOut commands known words before None after
    → RunAnswers known words before (stopped (status.BadWords 0) after)
nothing_answers known words before after h = by_meaning (command_of words) h
  where
    by_meaning : (meaning : Meaning) → CarriesOutBy meaning known words before None after → RunsAs meaning known words before (stopped (status.BadWords 0) after)
    by_meaning nothing h = ap (λ (o : Outside). stopped (status.BadWords 0) o) h
    by_meaning (means command) h = absurd h

pub nothing_keeps : (known : Known) (words : List (List ℕ)) (before after : Outside) (end : End) → CarriesOut commands known words before None after
    → Promised known words before end
nothing_keeps known words before after end h = by_meaning (command_of words) h
  where
    by_meaning : (meaning : Meaning) → CarriesOutBy meaning known words before None after
        → OnNamed meaning (λ command. bad_word command.forms words ≡ None → Keeps command known words before end)
    by_meaning nothing h = tt
    by_meaning (means command) h = absurd h

-- ---- counts and words

counted_by : (known : Known) (words : List (List ℕ)) (before : Outside) (end : End) (command : Command) (place : Option ℕ)
    → AnswersBy command known words before end place → CountsBy words before end.status end.left place
counted_by known words before end command (Some at) h = ap (λ (d : End). d.left) h
counted_by known words before end command None h = follows_counted known words false (command.steps words) before end h

pub answers_counted : (known : Known) (words : List (List ℕ)) (before : Outside) (end : End) → RunAnswers known words before end
    → CountsBy words before end.status end.left (bad_place words)
answers_counted known words before end h = by_meaning (command_of words) h
  where
    by_meaning : (meaning : Meaning) → RunsAs meaning known words before end → CountsBy words before end.status end.left (bad_by meaning words)
    by_meaning nothing h = ap (λ (d : End). d.left) h
    by_meaning (means command) h = counted_by known words before end command (bad_word command.forms words) h

no_bad_words : (known : Known) (words : List (List ℕ)) (tree : Tree) (before : Outside) (end : End) → Runs known words tree before end → (why : Status) → end.status ≡ why
    → IsBadWords why None
no_bad_words known words tree before end h (status.BadWords at) e = absurd (runs_in_words known words tree before end at h e)
no_bad_words known words tree before end h _ e = refl

stopped_at : (before : Outside) (end : End) (at : ℕ) → end.status ≡ status.BadWords at → IsBadWords end.status (Some at)
stopped_at before end at e = subst (λ (why : Status). IsBadWords why (Some at)) (sym e) refl

bad_words_by : (known : Known) (words : List (List ℕ)) (before : Outside) (end : End) (command : Command) (place : Option ℕ)
    → AnswersBy command known words before end place → IsBadWords end.status place
bad_words_by known words before end command (Some at) h = stopped_at before end at (ap (λ (d : End). d.status) h)
bad_words_by known words before end command None h = no_bad_words known words (command.steps words) before end h end.status refl

pub answers_bad_words : (known : Known) (words : List (List ℕ)) (before : Outside) (end : End) → RunAnswers known words before end → IsBadWords end.status (bad_place words)
answers_bad_words known words before end h = by_meaning (command_of words) h
  where
    by_meaning : (meaning : Meaning) → RunsAs meaning known words before end → IsBadWords end.status (bad_by meaning words)
    by_meaning nothing h = stopped_at before end 0 (ap (λ (d : End). d.status) h)
    by_meaning (means command) h = bad_words_by known words before end command (bad_word command.forms words) h

pub answers_of_command : (known : Known) (words : List (List ℕ)) (before : Outside) (end : End) → RunAnswers known words before end → IsOfCommand known words before end
answers_of_command known words before end =
    by_law known words before end (λ command. IsAnswered known words false (command.steps words) before end.placed end.status end.left)
    (λ command. follows_answers known words false (command.steps words) before end)

-- ---- where the contents that decide are told

pub answers_exact : (known : Known) (words : List (List ℕ)) (before : Outside) (end : End) → RunAnswers known words before end → OnTold words before (IsDue end.status)
answers_exact known words before end =
    by_law known words before end (λ command. OnDue words before (command.steps words) (IsDue end.status))
    (λ command. runs_exact known words (command.steps words) before end)

pub answers_complete : (known : Known) (words : List (List ℕ)) (before : Outside) (end : End) → RunAnswers known words before end
    → OnTold words before (Completes before end.status end.left)
answers_complete known words before end =
    by_law known words before end (λ command. OnDue words before (command.steps words) (Completes before end.status end.left))
    (λ command. runs_complete known words (command.steps words) before end)

pub answers_stand : (known : Known) (words : List (List ℕ)) (before : Outside) (end : End) → RunAnswers known words before end
    → OnTold words before (StandsAt words before end.status end.left)
answers_stand known words before end =
    by_law known words before end (λ command. OnDue words before (command.steps words) (StandsAt words before end.status end.left))
    (λ command. runs_stand known words (command.steps words) before end)

pub answers_through : (known : Known) (words : List (List ℕ)) (before : Outside) (end : End) → RunAnswers known words before end → RunsThrough words before end
answers_through known words before end =
    by_law known words before end (λ command. ComesThrough words (command.steps words) before end)
    (λ command. runs_through known words false (command.steps words) before end)

-- ---- what Done leaves

-- a run that is done had no bad word
pub done_fits : (known : Known) (words : List (List ℕ)) (before : Outside) (end : End) → RunAnswers known words before end → end.status ≡ status.Done → bad_place words ≡ None
done_fits known words before end h done =
    subst (λ (why : Status). IsBadWords why (bad_place words)) done (answers_bad_words known words before end h)

leaves_by : (known : Known) (words : List (List ℕ)) (before : Outside) (end : End) (command : Command) → end.status ≡ status.Done → (place : Option ℕ)
    → AnswersBy command known words before end place → Leaves known words (command.steps words) before end
leaves_by known words before end command done (Some at) h = absurd (let e : status.BadWords at ≡ status.Done = sym (ap (λ (d : End). d.status) h) ∙ done in cc e)
leaves_by known words before end command done None h = follows_leaves known words false (command.steps words) before end done h

pub answers_done : (known : Known) (words : List (List ℕ)) (before : Outside) (end : End) → RunAnswers known words before end → DoneLeaves known words before end
answers_done known words before end h = by_meaning (command_of words) h
  where
    by_meaning : (meaning : Meaning) → RunsAs meaning known words before end → OnNamed meaning (λ command. end.status ≡ status.Done → Leaves known words (command.steps words) before end)
    by_meaning nothing h = tt
    by_meaning (means command) h = λ done. leaves_by known words before end command done (bad_word command.forms words) h

-- ---- the digest of a session

unwired : (both_ends : Bool) (end : End) → end.wire ≡ None → IsWired both_ends end
unwired true end none = inl none
unwired false end none = none

wired_by : (known : Known) (words : List (List ℕ)) (before : Outside) (end : End) (command : Command) (place : Option ℕ)
    → AnswersBy command known words before end place → (place ≡ None → Keeps command known words before end) → IsWired command.both_ends end
wired_by known words before end command (Some at) h kept = unwired command.both_ends end (ap (λ (d : End). d.wire) h)
wired_by known words before end command None h kept = (kept refl).wire

pub answers_wired : (known : Known) (words : List (List ℕ)) (before : Outside) (end : End) → RunAnswers known words before end → Promised known words before end
    → IsWiredAs (command_of words) end
answers_wired known words before end h kept = by_meaning (command_of words) h kept
  where
    by_meaning : (meaning : Meaning) → RunsAs meaning known words before end
        → OnNamed meaning (λ command. bad_word command.forms words ≡ None → Keeps command known words before end) → IsWiredAs meaning end
    by_meaning nothing h kept = ap (λ (d : End). d.wire) h
    by_meaning (means command) h kept = wired_by known words before end command (bad_word command.forms words) h kept
