use Rattle.std.proofs.Common.{◌++◌, ℕ, List, ap, sym, subst, ◌∙◌}
use Rattle.psi_spec.specs.Frames.{Frame, layout}
use Rattle.psi_frames.specs.Expected.{seen}
use Rattle.psi_frames.specs.Script.{EndState, MayCome, due_frame}
use Rattle.psi_receiver.specs.Logging.{IsLogging, LoggedState}
use Rattle.psi_receiver.specs.Running.{KeptSince, state_of}
use Rattle.psi_receiver.proofs.Wires.{logging_taken}
use Rattle.psi_receiver.proofs.logged.LoggedReceiverEnd.take.Goals as goal

pub invariant_of-self-2 : goal.invariant_of-self-2
invariant_of-self-2 c =
    let s = c.self.inside in
    let f : Frame = seen c.args.frame.now in
    let may = subst (λ (e : LoggedState). MayCome (due_frame (state_of e.core)) f) (sym c.self.view_is) c.requires in
    subst (λ (state : EndState). IsLogging state c.write_down.new.log.spare c.write_down.new.room) (sym c.in_ok-turn.ensures.taken)
    (logging_taken (state_of s.core) f s.log.spare c.make_room.new.log.spare c.write_down.new.log.spare s.frame c.write_down.new.room may c.self.invariant c.in_ok-make_room.ensures.room
    c.write_down.ensures.spare c.write_down.ensures.room)

pub returns-clause-keeps : goal.returns-clause-keeps
returns-clause-keeps c first before wire kept =
    let f : Frame = seen c.args.frame.now in
    let was = subst (λ (e : LoggedState). KeptSince first.core e.core before) (sym c.self.view_is) kept.core in
    record {
      core = c.in_ok-turn.ensures.keeps first.core before wire was;
      log =
          c.write_down.ensures.bytes
          ∙ ap (λ (bytes : List ℕ). bytes ++ layout f) (c.in_ok-make_room.ensures.bytes ∙ (ap (λ (e : LoggedState). e.log) c.self.view_is ∙ kept.log));
    }
