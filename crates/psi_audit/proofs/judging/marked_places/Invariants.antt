use Rattle.std.proofs.Common.{◌≡◌, take}
use Rattle.psi_spec.specs.Collisions.{places_from}
use Rattle.psi_audit.proofs.judging.marked_places.Given as goal

-- the places so far
abbrev pub invariant-loop-place : goal.invariant-loop-place
invariant-loop-place l = l.places ≡ places_from 0 (take l.place l.marks)
