use Rattle.std.proofs.Common.{◌≡◌, true, length, ap, sym, subst, arith, length-append}
use Rattle.psi_frames.specs.Script.{IsWithin}
use Rattle.psi_receiver.specs.Running.{ReceiverState, Stage, is_new_at, next_of}
use Rattle.psi_receiver.proofs.Within.{within_receiver}
use Rattle.psi_receiver.proofs.logged.LoggedReceiver.new.Goals as goal

pub invariant_of-result : goal.invariant_of-result
invariant_of-result c =
    let core : ReceiverState = c.args.core in
    record {
      owed =
          let room = c.in_ok-reserve.ensures.room in
          omega (arith, room, length-append core.pending core.rest, ap length c.requires.new.rest, ap length c.pending.ensures.gives);
      all = λ old. absurd (let new : is_new_at core.stage ≡ true = ap is_new_at c.requires.new.stage in cc);
      most_frames = 19457;
      within =
          subst (λ (stage : Stage). IsWithin 19457 (next_of core.deal core.placed stage)) (sym c.requires.new.stage)
          (within_receiver core.deal core.placed c.requires.deal);
      free = c.in_ok-frame.ensures;
    }
