use Rattle.std.proofs.Common.{ℕ, arith, ◌≡◌, ◌%◌, ◌-◌, ◌/◌, ◌*◌, ◌^◌, bit_or}
use Rattle.psi_lanes.proofs.Each.{splat2, joined}
use Rattle.psi_lanes.proofs.operators.rotated.Goals as goal

pub returns : goal.returns
returns c =
    let down : ℕ → ℕ → ℕ = λ a b. a / 2 ^ b in
    let up : ℕ → ℕ → ℕ = λ a b. a * 2 ^ b % 2 ^ 32 in
    let x = c.args.x in
    let r = c.args.count in
    let l : ℕ = 32 - r in
    let both = joined bit_or (λ a. down a r) (λ a. up a l) x _ _ (splat2 down x r c.requires.x) (splat2 up x l c.requires.x) in
    let near : r % 32 ≡ r = omega arith in
    let far : (32 - r) % 32 ≡ l = omega arith in
    (both.0, λ k lt. rw (near, far) (both.1 k lt))
