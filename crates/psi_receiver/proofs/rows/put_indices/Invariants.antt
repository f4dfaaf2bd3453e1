use Rattle.std.proofs.Common.{◌≡◌, drop, map, take}
use Rattle.psi_receiver.proofs.rows.put_indices.Given as goal

-- the indices so far
abbrev pub invariant-loop-i : goal.invariant-loop-i
invariant-loop-i l = take l.i l.indices ≡ map (λ slot. slot.index) (take l.i (drop l.at l.placement))
