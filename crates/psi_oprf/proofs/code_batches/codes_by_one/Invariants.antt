use Rattle.std.proofs.Common.{◌≡◌, map, take}
use Rattle.psi_spec.specs.Formulas.{code}
use Rattle.psi_oprf.proofs.code_batches.codes_by_one.Given as goal

-- the codes so far
abbrev pub invariant-loop-i : goal.invariant-loop-i
invariant-loop-i l = take l.i l.out ≡ map (code l.key l.index) (take l.i l.digests)
