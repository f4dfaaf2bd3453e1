use Rattle.std.proofs.Common.{◌≡◌, ◌<◌, ◌++◌, take}
use Rattle.psi_spec.specs.Matrices.{IsMatrix}
use Rattle.psi_spec.specs.Streams.{layouts, column_frames}
use Rattle.psi_receiver.proofs.stream.add_columns.Given as goal

-- the frames of the columns so far were added
abbrev pub invariant-loop-index : goal.invariant-loop-index
invariant-loop-index l = record {
  added : l.stream.items ≡ l.fn.stream.items ++ layouts (column_frames 0 (take l.index l.columns.columns));
  outbox : l.outbox ≡ l.fn.outbox;
  matrix : 0 < l.index → IsMatrix l.columns;
}
