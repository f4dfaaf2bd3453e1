use Rattle.std.proofs.Common.{◌≡◌, ◌*◌, length, take}
use Rattle.sha2.specs.Sha256.{digest_bytes}
use Rattle.psi_lanes.proofs.digests.digest.Given as goal

-- the bytes of the words so far
abbrev pub invariant-loop-i : goal.invariant-loop-i
invariant-loop-i l = record {
  long : length l.bytes ≡ 32;
  value : take (4 * l.i) l.bytes ≡ digest_bytes l.hash_value l.i;
}
