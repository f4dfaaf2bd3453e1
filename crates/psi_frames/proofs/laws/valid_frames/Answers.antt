use Rattle.psi_frames.proofs.Parts.{valid_by_parts}
use Rattle.psi_frames.proofs.laws.valid_frames.Goals as goal

pub returns : goal.returns
returns c = valid_by_parts
