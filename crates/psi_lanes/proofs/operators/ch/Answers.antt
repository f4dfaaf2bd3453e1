use Rattle.std.proofs.Common.{ap, ap₂, ◌∙◌, bit_and, bit_xor, slice_index}
use Rattle.std.specs.Int.{w32, bit_not}
use Rattle.psi_lanes.proofs.Each.{each1, each2}
use Rattle.psi_lanes.proofs.operators.ch.Goals as goal

pub returns : goal.returns
returns c =
    let near = each2 bit_and c.args.x c.args.y c.requires.x c.requires.y in
    let turned = each1 (bit_not w32) c.args.x c.requires.x in
    let far = each2 bit_and _ c.args.z turned.0 c.requires.z in
    let both = each2 bit_xor _ _ near.0 far.0 in
    (both.0, λ k lt. both.1 k lt ∙ ap₂ bit_xor (near.1 k lt) (far.1 k lt ∙ ap (λ n. bit_and n (slice_index c.args.z k)) (turned.1 k lt)))
