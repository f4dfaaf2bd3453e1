use Rattle.std.proofs.Common.{◌<◌, ◌*◌, ℕ}
use Rattle.psi_lanes.specs.Tile.{MakesPair}
use Rattle.psi_lanes.proofs.tile.exchange.Given as goal

-- the pairs so far
abbrev pub invariant-loop-quarter : goal.invariant-loop-quarter
invariant-loop-quarter l = (k : ℕ) → k < 4 * l.quarter → MakesPair l.shift l.mask l.from l.to k
