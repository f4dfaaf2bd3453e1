use Rattle.std.proofs.Common.{◌≡◌, ◌*◌, take}
use Rattle.psi_sender.specs.Answering.{bin_list}
use Rattle.psi_sender.proofs.answer.bin_tags.Given as goal

-- the tags so far
abbrev pub invariant-loop-turn : goal.invariant-loop-turn
invariant-loop-turn l =
    take (64 * l.turn) l.out ≡ bin_list l.deal l.opened l.list (take (64 * l.turn) l.bins) (take (64 * l.turn) l.digests)
