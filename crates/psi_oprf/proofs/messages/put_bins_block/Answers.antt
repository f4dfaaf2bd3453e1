use Rattle.std.proofs.Common.{◌++◌}
use Rattle.psi_oprf.proofs.Padding.{bins_blocks}
use Rattle.psi_oprf.proofs.messages.put_bins_block.Goals as goal

pub returns : goal.returns
returns c =
    bins_blocks c.args.key.now c.args.digest.now _ c.told-key c.told-digest
    (λ i. c.copy_from_slice.ensures.after i ++ (c.copy_from_slice-2.ensures.after i ++ (c.copy_from_slice-3.ensures.after i ++ c.copy_from_slice-4.ensures.after i)))
