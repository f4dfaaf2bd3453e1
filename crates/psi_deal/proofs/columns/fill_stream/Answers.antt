use Rattle.std.proofs.Common.{rules}
use Rattle.rand_core.specs.Stream.{fill_bytes}
use Rattle.rand_core.specs.Steps.{stream_of}
use Rattle.psi_spec.specs.Columns.{key_stream}
use Rattle.psi_deal.proofs.columns.fill_stream.Goals as goal

pub returns : goal.returns
unfolding key_stream fill_bytes stream_of
returns c = search rules
