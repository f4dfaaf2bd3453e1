use Rattle.std.proofs.Common.{◌≡◌, ◌<◌, ◌*◌, ℕ, [], length, get_or}
use Rattle.psi_spec.specs.Columns.{row_of}
use Rattle.psi_lanes.proofs.flips.flip_words.Given as goal

-- the rows of the strips so far
abbrev pub invariant-strips : goal.invariant-strips
invariant-strips l = (j : ℕ) → j < 64 * l.strip → j < length l.words → get_or l.words j [] ≡ row_of l.columns.columns j
