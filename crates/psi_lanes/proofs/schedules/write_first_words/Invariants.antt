use Rattle.std.proofs.Common.{◌≡◌, ◌<◌, ◌*◌, ℕ, [], length, slice_index, slice_index_or}
use Rattle.sha2.specs.Sha256.{word_at}
use Rattle.psi_lanes.specs.Rounds.{word_list}
use Rattle.psi_lanes.proofs.schedules.write_first_words.Given as goal

-- the words so far are those of the blocks
abbrev pub invariant-loop-i : goal.invariant-loop-i
invariant-loop-i l = record {
  long : length l.words ≡ 64;
  value : (j k : ℕ) → j < 8 → k < l.i → slice_index (word_list j l.words) k ≡ word_at (slice_index_or l.blocks j []) (4 * k);
}
