use Rattle.std.proofs.Common.{◌≡◌, ◌-◌}
use Rattle.psi_words.specs.Words.{is_among}
use Rattle.psi_words.proofs.form.is_output.Given as goal

-- the word is among those from the first place on exactly where it is among those that are left
abbrev pub invariant-loop-place : goal.invariant-loop-place
invariant-loop-place l = is_among l.words l.word l.fn.from (l.fn.to - l.fn.from) ≡ is_among l.words l.word l.place (l.fn.to - l.place)
