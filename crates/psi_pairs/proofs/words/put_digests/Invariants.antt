use Rattle.std.proofs.Common.{◌≡◌, drop, map, take}
use Rattle.psi_spec.specs.Formulas.{item_digest}
use Rattle.psi_pairs.proofs.words.put_digests.Given as goal

-- the digests so far
abbrev pub invariant-loop-i : goal.invariant-loop-i
invariant-loop-i l = take l.i l.out ≡ map item_digest (take l.i (drop l.at l.lines))
