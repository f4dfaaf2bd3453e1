use Rattle.std.proofs.Common.{◌≡◌, ◌+◌, length, take}
use Rattle.psi_spec.specs.Meeting.{placed_of}
use Rattle.psi_spec.specs.Streams.{row_words}
use Rattle.psi_receiver.proofs.rows.put_codes.Given as goal

-- the codes so far are in their rows
abbrev pub invariant-loop-i : goal.invariant-loop-i
invariant-loop-i l = record {
  count : length l.out ≡ length l.fn.out;
  words : l.out ≡ row_words l.key (take (l.at + l.i) (placed_of l.items l.placement)) (length l.fn.out);
}
