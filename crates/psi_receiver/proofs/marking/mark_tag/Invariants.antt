use Rattle.std.proofs.Common.{◌≡◌, ◌<◌, ◌≤◌, ◌||◌, ℕ, false, [], length, get_or}
use Rattle.std.specs.Str.{bytes_eq}
use Rattle.psi_spec.specs.Frames.{is_below}
use Rattle.psi_receiver.proofs.marking.mark_tag.Given as goal

-- the own tags so far are not above the tag, and of these those from the place on are marked
abbrev pub invariant-loop-i : goal.invariant-loop-i
invariant-loop-i l = record {
  size : length l.hits ≡ length l.own;
  below : (j : ℕ) → j < l.i → is_below l.tag (get_or l.own j []) ≡ false;
  kept : (j : ℕ) → j < l.from → get_or l.hits j false ≡ get_or l.initial.hits j false;
  marked : (j : ℕ) → l.from ≤ j → j < l.i
      → get_or l.hits j false ≡ (get_or l.initial.hits j false || bytes_eq (get_or l.own j []) l.tag);
  later : (j : ℕ) → l.i ≤ j → get_or l.hits j false ≡ get_or l.initial.hits j false;
}
