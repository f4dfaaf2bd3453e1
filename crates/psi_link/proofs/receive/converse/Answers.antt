use Rattle.std.proofs.Common.{Err, subst, sym}
use Rattle.std.specs.declared.result.Result.{Result}
use Rattle.psi_frames.specs.declared.turns.EndFault.{EndFault}
use Rattle.psi_receiver.specs.Laws.{receiver_dialogue}
use Rattle.psi_receiver.specs.Receiving.{Receives}
use Rattle.psi_link.specs.Receive.{IsHeard}
use Rattle.psi_walk.specs.Walk.{StepsTalk}
use Rattle.psi_texts.specs.declared.status.Status.{Status}
use Rattle.psi_link.proofs.Heard.{length-marks, received_talks}
use Rattle.psi_walk.proofs.Walks.{talks_out}
use Rattle.psi_link.proofs.receive.converse.Goals as goal

pub returns-in-Ok-clause-session : goal.returns-in-Ok-clause-session
returns-in-Ok-clause-session g c =
    let known = g.W.World.known in
    let end = c.args.end.now in
    let new = c.run_receiver.new.end in
    let before = g.W.World.outside c.args.world.now in
    let after = g.W.World.outside c.run_receiver.new.world in
    λ words. received_talks known words end.core.deal end.core.placed before end.log new.core.shown new.log after
    (subst (λ (r : Result (Unit {0}) EndFault). Receives known end.core.deal end.core.placed before end.log r new.core.shown new.log after) c.in-Ok.is c.run_receiver.ensures)

pub returns-in-Ok-clause-marks : goal.returns-in-Ok-clause-marks
returns-in-Ok-clause-marks g c =
    let known = g.W.World.known in
    let end = c.args.end.now in
    let new = c.run_receiver.new.end in
    let before = g.W.World.outside c.args.world.now in
    let after = g.W.World.outside c.run_receiver.new.world in
    length-marks known end.core.deal end.core.placed before end.log new.core.shown new.log after
    (subst (λ (r : Result (Unit {0}) EndFault). Receives known end.core.deal end.core.placed before end.log r new.core.shown new.log after) c.in-Ok.is c.run_receiver.ensures)

pub returns-in-Err-clause-session : goal.returns-in-Err-clause-session
returns-in-Err-clause-session g c =
    let known = g.W.World.known in
    let end = c.args.end.now in
    let new = c.run_receiver.new.end in
    let before = g.W.World.outside c.args.world.now in
    let after = g.W.World.outside c.run_receiver.new.world in
    let told = IsHeard end.core.deal end.core.placed end.log new.core.shown new.log in
    λ words. subst (λ (s : Status). StepsTalk known words (receiver_dialogue end.core.deal end.core.placed) told before (Err s) after) (sym c.session_status.ensures)
    (talks_out known words (receiver_dialogue end.core.deal end.core.placed) told before after c.in-Err.fault
    (subst (λ (r : Result (Unit {0}) EndFault). Receives known end.core.deal end.core.placed before end.log r new.core.shown new.log after) c.in-Err.is c.run_receiver.ensures))
