use Rattle.std.proofs.Common.{arith}
use Rattle.psi_spec.specs.Meeting.{is_shown}
use Rattle.psi_audit.specs.Naming.{setup_in}
use Rattle.psi_audit.proofs.Foreign.{marks_count}
use Rattle.psi_audit.proofs.judging.consistent.Goals as goal

pub marked_places-requires : goal.marked_places-requires
marked_places-requires c =
    let i = c.args.inputs.now in
    let few = c.requires.inputs.few in
    omega (arith, few, marks_count i.receiver.now.stash i.receiver.now.key i.own.now i.placement.now (is_shown (setup_in i) i.peer.now) c.args.marks.now c.requires.inputs.placed c.requires.marks)
