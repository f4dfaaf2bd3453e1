use Rattle.std.proofs.Common.{◌≡◌, ◌*◌, map, take}
use Rattle.psi_sender.specs.Answering.{word_tag}
use Rattle.psi_sender.proofs.answer.stash_tags.Given as goal

-- the tags so far
abbrev pub invariant-loop-turn : goal.invariant-loop-turn
invariant-loop-turn l = take (64 * l.turn) l.out ≡ map (word_tag l.deal l.opened l.row) (take (64 * l.turn) l.stored)
