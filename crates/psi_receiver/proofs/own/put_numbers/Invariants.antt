use Rattle.std.proofs.Common.{◌≡◌, drop, map, take}
use Rattle.psi_receiver.proofs.own.put_numbers.Given as goal

-- the rows so far
abbrev pub invariant-loop-i : goal.invariant-loop-i
invariant-loop-i l = take l.i l.numbers ≡ map (λ slot. slot.row) (take l.i (drop l.at l.placement))
