use Rattle.std.proofs.Common.{◌≡◌, map, take}
use Rattle.psi_spec.specs.Formulas.{item_digest}
use Rattle.psi_items.proofs.items.Items.digests.Given as goal

-- the digests so far
abbrev pub invariant-loop-place : goal.invariant-loop-place
invariant-loop-place l = l.digests.items ≡ map item_digest (take l.place l.self)
