use Rattle.std.proofs.Common.{◌≡◌, ◌*◌, map, take}
use Rattle.psi_receiver.specs.Slots.{tag_of_word}
use Rattle.psi_receiver.proofs.own.item_tags.Given as goal

-- the tags so far
abbrev pub invariant-loop-turn : goal.invariant-loop-turn
invariant-loop-turn l = take (64 * l.turn) l.out ≡ map (tag_of_word l.deal l.rows) (take (64 * l.turn) l.placement)
