use Rattle.std.proofs.Common.{◌/◌, ◌^◌, refl}
use Rattle.psi_lanes.proofs.Each.{splat2}
use Rattle.psi_lanes.proofs.operators.small_sigma0.Goals as goal

pub xor-requires-2-clause-y : goal.xor-requires-2-clause-y
xor-requires-2-clause-y c = (splat2 (λ a b. a / 2 ^ b) c.args.x 3 c.requires).0

pub returns : goal.returns
returns c = (
  c.xor-2.ensures.0,
  λ k lt.
      let moved = splat2 (λ a b. a / 2 ^ b) c.args.x 3 c.requires in
      rw (c.xor-2.ensures.1 k lt, c.xor.ensures.1 k lt, c.rotated-2.ensures.1 k lt, c.rotated.ensures.1 k lt, moved.1 k lt) refl,
)
