use Rattle.std.proofs.Common.{◌≡◌, ◌*◌, ◌-◌, length}
use Rattle.psi_spec.specs.Frames as spec
use Rattle.psi_spec.proofs.Frames.{below_from}
use Rattle.psi_frames.proofs.tags.first_below.Given as goal

-- the first of the tags that are left is the first of all
abbrev pub invariant-loop-at : goal.invariant-loop-at
invariant-loop-at l = record {
  long : length l.rest ≡ (l.count - l.at) * l.tag_length;
  first : below_from l.at l.before (spec.tags_of (l.count - l.at) l.tag_length l.rest) ≡ spec.first_below l.floor (spec.tags_of l.count l.tag_length l.tags);
}
