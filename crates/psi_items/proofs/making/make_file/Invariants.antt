use Rattle.std.proofs.Common.{◌≡◌}
use Rattle.psi_items.specs.Making.{is_second}
use Rattle.psi_items.proofs.MadeLines.{front_lines}
use Rattle.psi_items.proofs.making.make_file.Given as goal

abbrev pub invariant-loop-place : goal.invariant-loop-place
invariant-loop-place l = l.out.items ≡ front_lines (is_second l.fn.file) l.fn.count l.fn.shared l.fn.number l.place
