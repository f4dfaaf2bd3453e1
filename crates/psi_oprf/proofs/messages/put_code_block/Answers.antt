use Rattle.std.proofs.Common.{◌++◌}
use Rattle.psi_oprf.proofs.Padding.{code_blocks}
use Rattle.psi_oprf.proofs.messages.put_code_block.Goals as goal

pub returns : goal.returns
returns c =
    code_blocks c.args.key.now c.args.digest.now _ c.args.index c.args.half c.told-key c.told-digest
    (λ i. c.copy_from_slice.ensures.after i ++ (c.copy_from_slice-2.ensures.after i ++ (c.copy_from_slice-3.ensures.after i ++ (c.copy_from_slice-4.ensures.after i ++ c.copy_from_slice-5.ensures.after i))))
