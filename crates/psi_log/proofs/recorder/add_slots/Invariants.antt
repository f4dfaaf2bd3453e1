use Rattle.std.proofs.Common.{◌≡◌, ◌+◌, ◌*◌, ◌≤◌, ◌++◌, take}
use Rattle.std.specs.Prelude.{vec_capacity, vec_len}
use Rattle.psi_spec.specs.Records.{slots_bytes}
use Rattle.psi_log.proofs.recorder.add_slots.Given as goal

abbrev pub invariant-loop-i : goal.invariant-loop-i
invariant-loop-i l = record {
  bytes : l.bytes.items ≡ l.fn.bytes.items ++ slots_bytes (take l.i l.placement);
  len : vec_len l.bytes ≡ vec_len l.fn.bytes + 5 * l.i;
  capacity : vec_capacity l.fn.bytes ≤ vec_capacity l.bytes;
}
