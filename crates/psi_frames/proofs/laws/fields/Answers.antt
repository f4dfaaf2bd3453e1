use Rattle.psi_spec.proofs.Frames.{none_below_zeros, order_by_sorting, tags_of-at}
use Rattle.psi_frames.proofs.Judged.{fields_fill}
use Rattle.psi_frames.proofs.laws.fields.Goals as goal

pub returns-clause-fill : goal.returns-clause-fill
returns-clause-fill c = fields_fill

pub returns-clause-places : goal.returns-clause-places
returns-clause-places c = tags_of-at

pub returns-clause-floor : goal.returns-clause-floor
returns-clause-floor c = none_below_zeros

pub returns-clause-order : goal.returns-clause-order
returns-clause-order c = order_by_sorting
