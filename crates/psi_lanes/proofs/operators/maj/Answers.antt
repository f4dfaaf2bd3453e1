use Rattle.std.proofs.Common.{ap, ap₂, ◌∙◌, bit_and, bit_xor, slice_index}
use Rattle.psi_lanes.proofs.Each.{each2}
use Rattle.psi_lanes.proofs.Majority.{maj-short}
use Rattle.psi_lanes.proofs.operators.maj.Goals as goal

pub returns : goal.returns
returns c =
    let near = each2 bit_xor c.args.x c.args.y c.requires.x c.requires.y in
    let far = each2 bit_xor c.args.y c.args.z c.requires.y c.requires.z in
    let common = each2 bit_and _ _ near.0 far.0 in
    let all = each2 bit_xor c.args.y _ c.requires.y common.0 in (
      all.0,
      λ k lt. all.1 k lt ∙ ap (bit_xor (slice_index c.args.y k)) (common.1 k lt ∙ ap₂ bit_and (near.1 k lt) (far.1 k lt))
          ∙ maj-short (slice_index c.args.x k) (slice_index c.args.y k) (slice_index c.args.z k),
    )
