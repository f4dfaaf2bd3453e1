use Rattle.std.proofs.Common.{refl}
use Rattle.psi_lanes.proofs.operators.big_sigma1.Goals as goal

pub returns : goal.returns
returns c = (
  c.xor-2.ensures.0,
  λ k lt. rw (c.xor-2.ensures.1 k lt, c.xor.ensures.1 k lt, c.rotated-3.ensures.1 k lt, c.rotated-2.ensures.1 k lt, c.rotated.ensures.1 k lt) refl,
)
