use Rattle.std.proofs.Common.{◌≡◌, map}
use Rattle.psi_cuckoo.specs.Table.{slot_of}
use Rattle.psi_spec.specs.Records.{slots_of}
use Rattle.psi_log.proofs.reading.slots_in.Given as goal

abbrev pub invariant-loop-i : goal.invariant-loop-i
invariant-loop-i l = map slot_of l.slots.items ≡ slots_of l.i l.bytes
