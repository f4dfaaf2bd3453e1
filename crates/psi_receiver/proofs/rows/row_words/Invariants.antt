use Rattle.std.proofs.Common.{◌≡◌, ◌*◌, length, take}
use Rattle.psi_spec.specs.Meeting.{placed_of}
use Rattle.psi_spec.specs.Streams.{row_words}
use Rattle.psi_receiver.proofs.rows.row_words.Given as goal

-- the codes so far are in their rows
abbrev pub invariant-loop-turn : goal.invariant-loop-turn
invariant-loop-turn l = record {
  count : length l.out ≡ length l.fn.out;
  words : l.out ≡ row_words l.key (take (64 * l.turn) (placed_of l.items l.placement)) (length l.fn.out);
}
