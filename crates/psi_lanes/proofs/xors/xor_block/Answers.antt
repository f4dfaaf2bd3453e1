use Rattle.psi_lanes.proofs.Blocks.{inside, below, above}
use Rattle.psi_lanes.proofs.xors.xor_block.Goals as goal

pub returns-clause-inside : goal.returns-clause-inside
returns-clause-inside c = inside _ c.args.at 32 c.args.out.now c.args.bytes.now c.requires.out c.requires.bytes

pub returns-clause-below : goal.returns-clause-below
returns-clause-below c = below _ c.args.at 32 c.args.out.now c.args.bytes.now c.requires.out c.requires.bytes

pub returns-clause-above : goal.returns-clause-above
returns-clause-above c = above _ c.args.at 32 c.args.out.now c.args.bytes.now c.requires.out c.requires.bytes
