use Rattle.std.proofs.Common.{◌≡◌, [], map, take, slice_index_or}
use Rattle.psi_sender.proofs.answer.gather_rows.Given as goal

-- the words so far
abbrev pub invariant-loop-i : goal.invariant-loop-i
invariant-loop-i l = take l.i l.words ≡ map (λ row. slice_index_or l.opened row []) (take l.i l.rows)
