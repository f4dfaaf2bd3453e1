use Rattle.std.proofs.Common.{[], false, Ok, Some}
use Rattle.sha2.specs.Sha256.{sha256}
use Rattle.psi_walk.specs.Tree.{closed}
use Rattle.psi_local.proofs.Played.{closes}
use Rattle.psi_local.proofs.trial.print_summary.Goals as goal

pub returns : goal.returns
returns g c = λ words bytes held.
    let after = g.W.World.outside c.print_text.new.world in
    let digest = c.finish-log.result.0 in
    c.in_ok-print_text.ensures words false (Some (sha256 bytes)) [] (closed (Ok digest) after)
    (closes g.W.World.known words digest (sha256 bytes) after (c.finish-log.ensures.digest bytes held))
