-- A receiver's end that took nothing yet.
use Rattle.std.proofs.Common.{◌≡◌, ◌++◌, true, sym, subst}
use Rattle.psi_spec.specs.Deals.{IsReceiverDeal}
use Rattle.psi_frames.specs.Script.{IsSettled, IsWithin, goes_on}
use Rattle.psi_receiver.specs.Running.{IsNewReceiver, ReceiverState, Stage, is_new_at, next_of, state_of}
use Rattle.psi_receiver.specs.Script.{receiver_script}
use Rattle.psi_receiver.proofs.Within.{within_receiver}

-- it begins its script
pub begins_script : (s : ReceiverState) → IsNewReceiver s → state_of s ≡ goes_on true (receiver_script s.deal s.placed)
unfolding receiver_script
begins_script s new =
    λ i. record {
      owes = new.pending i ++ new.rest i;
      next = next_of s.deal s.placed (new.stage i);
      is_new = is_new_at (new.stage i);
    }

-- it awaits few frames, each of which fits an inbox
pub new_receiver_within : (s : ReceiverState) → IsNewReceiver s → IsReceiverDeal s.deal → IsWithin 19457 (state_of s).next
new_receiver_within s new is = subst (λ (stage : Stage). IsWithin 19457 (next_of s.deal s.placed stage)) (sym new.stage) (within_receiver s.deal s.placed is)

-- and it sends nothing before the first that is not pending
pub new_receiver_settled : (s : ReceiverState) → IsNewReceiver s → IsSettled (state_of s).next
new_receiver_settled s new = subst (λ (stage : Stage). IsSettled (next_of s.deal s.placed stage)) (sym new.stage) tt
