use Rattle.std.proofs.Common.{◌≡◌, take}
use Rattle.std.specs.Simd.Lanes.{zip2}
use Rattle.psi_spec.specs.Formulas.{code}
use Rattle.psi_oprf.proofs.code_batches.codes_at_by_one.Given as goal

-- the codes so far
abbrev pub invariant-loop-i : goal.invariant-loop-i
invariant-loop-i l = take l.i l.out ≡ zip2 (code l.key) (take l.i l.indices) (take l.i l.digests)
