use Rattle.std.proofs.Common.{◌≡◌, map, take, slice_index}
use Rattle.psi_sender.proofs.answer.put_rows.Given as goal

-- the rows so far
abbrev pub invariant-loop-i : goal.invariant-loop-i
invariant-loop-i l = take l.i l.rows ≡ map (λ three. slice_index three l.index) (take l.i l.bins)
