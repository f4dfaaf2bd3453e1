use Rattle.std.proofs.Common.{◌≡◌, ◌*◌, map, take}
use Rattle.std.specs.List.{concat}
use Rattle.psi_sender.proofs.answer.join_tags.Given as goal

-- the bytes so far
abbrev pub invariant-loop-i : goal.invariant-loop-i
invariant-loop-i l = take (l.i * l.fn.tag_length) l.out ≡ concat (map (λ tag. take l.fn.tag_length tag) (take l.i l.tags))
