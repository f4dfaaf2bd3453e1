-- The clauses of `run` that are spelled out of the promises of the commands.
use Rattle.std.proofs.Common.{◌≡◌, ℕ, List, None, subst, codes}
use Rattle.psi_words.specs.Words.{bad_word, word_at}
use Rattle.psi_base.specs.Outside.{Known, Outside}
use Rattle.psi_walk.specs.Command.{Keeps, OnNamed, named}
use Rattle.psi_walk.specs.Tree.{End}
use Rattle.psi_top.specs.Commands.{RunAnswers, bad_by, bad_place, commands}
use Rattle.psi_top.specs.Headline.{LocalShows, ReceiveFinds, ReceiveHides, TwinHides}
use Rattle.psi_top.specs.Promises.{Promised}
use Rattle.psi_top.proofs.Laws.{done_fits}

-- the command that a name means, where it is the first word
called : (known : Known) (words : List (List ℕ)) (before : Outside) (end : End) (name : List ℕ) → word_at words 0 ≡ name → Promised known words before end
    → OnNamed (named commands name) (λ command. bad_word command.forms words ≡ None → Keeps command known words before end)
called known words before end name e kept =
    subst (λ (n : List ℕ). OnNamed (named commands n) (λ command. bad_word command.forms words ≡ None → Keeps command known words before end)) e kept

-- and its words, where none is bad
in_form : (words : List (List ℕ)) (name : List ℕ) → word_at words 0 ≡ name → bad_place words ≡ None → bad_by (named commands name) words ≡ None
in_form words name e fit = subst (λ (n : List ℕ). bad_by (named commands n) words ≡ None) e fit

pub answers_shown : (known : Known) (words : List (List ℕ)) (before : Outside) (end : End) → RunAnswers known words before end → Promised known words before end → LocalShows known words before end
answers_shown known words before end h kept = λ name done.
    (called known words before end (codes "local") name kept (in_form words (codes "local") name (done_fits known words before end h done))).promise.shows done

pub answers_found : (known : Known) (words : List (List ℕ)) (before : Outside) (end : End) → RunAnswers known words before end → Promised known words before end → ReceiveFinds known words before end
answers_found known words before end h kept = λ name done.
    (called known words before end (codes "receive") name kept (in_form words (codes "receive") name (done_fits known words before end h done))).promise.finds done

pub answers_hides : (known : Known) (words : List (List ℕ)) (before : Outside) (end : End) → Promised known words before end → ReceiveHides known words before end
answers_hides known words before end kept = λ fit name.
    (called known words before end (codes "receive") name kept (in_form words (codes "receive") name fit)).promise.hides

pub answers_hidden : (known : Known) (words : List (List ℕ)) (before : Outside) (end : End) → RunAnswers known words before end → Promised known words before end → TwinHides known words before end
answers_hidden known words before end h kept = λ name done.
    (called known words before end (codes "twin") name kept (in_form words (codes "twin") name (done_fits known words before end h done))).promise.hides done
