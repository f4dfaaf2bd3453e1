-- Bytes that are added to an outbox, one after another.
use Rattle.std.proofs.Common.{◌≡◌, ◌-◌, ℕ, List, ◌++◌, length, ap₂, arith, append_assoc, length-append}
use Rattle.psi_frames.specs.Boxes.{OutboxState, with_added}

pub with_added_twice : (a b : List ℕ) (old : OutboxState) → with_added b (with_added a old) ≡ with_added (a ++ b) old
with_added_twice a b old =
    let spare : old.spare - length a - length b ≡ old.spare - length (a ++ b) = omega (arith, length-append a b) in
    ap₂ (λ (p : List ℕ) (s : ℕ). record old { pending = p; spare = s }) (append_assoc old.pending a b) spare
