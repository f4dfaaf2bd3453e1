use Rattle.std.proofs.Common.{◌≡◌, ◌<◌, ℕ, false, get_or}
use Rattle.psi_receiver.specs.Own.{IsShownAmong}
use Rattle.psi_receiver.proofs.carrying.carry_list.Given as goal

-- the items so far are shown where they are marked, and others as they were
abbrev pub invariant-loop-place : goal.invariant-loop-place
invariant-loop-place l = record {
  carried : (k : ℕ) → k < l.place → IsShownAmong l.items l.hits (get_or l.items k 0) (get_or l.shown (get_or l.items k 0) false);
  kept : (item : ℕ) → ((k : ℕ) → k < l.place → get_or l.items k 0 ≡ item → ⊥) → get_or l.shown item false ≡ get_or l.initial.shown item false;
}
