use Rattle.std.proofs.Common.{◌≡◌, length}
use Rattle.psi_examples.proofs.twins.second_words.Given as goal

-- the words keep their number
abbrev pub invariant-loop-i : goal.invariant-loop-i
invariant-loop-i g l = length l.words ≡ l.rows
