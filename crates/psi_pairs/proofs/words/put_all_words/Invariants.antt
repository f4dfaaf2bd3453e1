use Rattle.std.proofs.Common.{◌≡◌, ◌*◌, map, take}
use Rattle.psi_spec.specs.PairedRows.{line_word}
use Rattle.psi_pairs.proofs.words.put_all_words.Given as goal

-- the words so far
abbrev pub invariant-loop-turn : goal.invariant-loop-turn
invariant-loop-turn l = take (64 * l.turn) l.out ≡ map (line_word l.key) (take (64 * l.turn) l.lines)
