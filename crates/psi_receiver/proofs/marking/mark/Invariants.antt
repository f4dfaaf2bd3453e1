use Rattle.std.proofs.Common.{◌≡◌, ◌-◌, ◌<◌, ◌≤◌, ◌||◌, ℕ, true, false, [], length, get_or, take}
use Rattle.std.specs.Str.{bytes_eq}
use Rattle.psi_spec.specs.Frames.{is_below}
use Rattle.psi_receiver.specs.Marking.{is_among, not_above, padded_tags, tags_in}
use Rattle.psi_receiver.proofs.marking.mark.Given as goal

-- the own tags before the place are not above the next tag of the block, and those that are equal to it are among the
-- tags so far; own tags from the first place on are marked by these
abbrev pub invariant-loop-index : goal.invariant-loop-index
invariant-loop-index l = record {
  within : l.at ≤ length l.own;
  from : l.from ≤ l.at;
  passed : (j : ℕ) → j < l.at → l.index < tags_in l.tag_length l.bytes
      → is_below (get_or (padded_tags l.tag_length l.bytes) l.index []) (get_or l.own j []) ≡ false;
  met : (j : ℕ) → l.from ≤ j → j < l.at → l.index < tags_in l.tag_length l.bytes
      → bytes_eq (get_or l.own j []) (get_or (padded_tags l.tag_length l.bytes) l.index []) ≡ true
      → is_among (take l.index (padded_tags l.tag_length l.bytes)) (get_or l.own j []) ≡ true;
  kept : (j : ℕ) → j < l.from → get_or l.hits j false ≡ get_or l.initial.hits j false;
  marked : (j : ℕ) → l.from ≤ j → j < length l.own
      → get_or l.hits j false
      ≡ (get_or l.initial.hits j false || is_among (take l.index (padded_tags l.tag_length l.bytes)) (get_or l.own j []));
  count : 1 ≤ l.index → l.at ≡ not_above (get_or (padded_tags l.tag_length l.bytes) (l.index - 1) []) l.own;
}
