use Rattle.std.proofs.Common.{◌≡◌, ℕ, List, map, take}
use Rattle.psi_receiver.proofs.own.split.Given as goal

-- the tags and the items so far
abbrev pub invariant-loop-place : goal.invariant-loop-place
invariant-loop-place l = record {
  tags : take l.place l.tags ≡ map (λ (t : List ℕ × ℕ). t.0) (take l.place l.tagged);
  items : take l.place l.items ≡ map (λ (t : List ℕ × ℕ). t.1) (take l.place l.tagged);
}
