use Rattle.std.proofs.Common.{◌∙◌, nat_cmp}
use Rattle.psi_sender.proofs.Numbers.{cmp_of_16, cmp_of_high}
use Rattle.psi_sender.proofs.answer.tag_order.Goals as goal

pub returns-then-left_high-right_high : goal.returns-then-left_high-right_high
returns-then-left_high-right_high c =
    c.cmp.ensures
    ∙ ((λ i. nat_cmp (c.from_be_bytes-left.ensures i) (c.from_be_bytes-right.ensures i))
    ∙ cmp_of_16 c.args.left.now c.args.right.now c.told-left c.told-right c.fits-left c.fits-right)

pub returns-else-left_high-right_high : goal.returns-else-left_high-right_high
returns-else-left_high-right_high c =
    c.cmp-else-left_high-right_high.ensures
    ∙ (cmp_of_high c.from_be_bytes-left.result c.from_be_bytes-right.result c.if-left_high-right_high.false
    ∙ ((λ i. nat_cmp (c.from_be_bytes-left.ensures i) (c.from_be_bytes-right.ensures i))
    ∙ cmp_of_16 c.args.left.now c.args.right.now c.told-left c.told-right c.fits-left c.fits-right))
