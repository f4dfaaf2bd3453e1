use Rattle.std.proofs.Common.{◌≡◌, length}
use Rattle.psi_items.proofs.Reading.{HasRead}
use Rattle.psi_items.proofs.items.Items.read.Given as goal

abbrev pub invariant-loop-line : goal.invariant-loop-line
invariant-loop-line l = record { count : l.number ≡ length l.yielded; read : HasRead l.bytes l.number l.items }
