-- How far the rounds on a block have come, by the SHA-256 of FIPS 180-4.
use Rattle.std.specs.Prelude.{◌≡◌, ◌<◌, ◌+◌, ℕ, List, slice_index, map}
use Rattle.psi_lanes.specs.declared.schedule_words.ScheduleWord.{ScheduleWord}
use Rattle.sha2.specs.Sha256.{rounds, schedule}

-- the words of message j in a list of schedule words
abbrev pub word_list : ℕ → List ScheduleWord → List ℕ
word_list j words = map (λ w. slice_index w.lanes j) words

-- the first n of these words are those of the message schedule of block b
abbrev pub IsScheduled : ℕ → List ℕ → List ℕ → Type 0
IsScheduled n b words = (k : ℕ) → k < n → slice_index words k ≡ slice_index (schedule b 48) k

-- after t rounds of block b from the hash value h, the words have 16 words of the schedule more than
-- were used, and the working variables are v
abbrev pub IsAfterRounds : List ℕ → List ℕ → List ℕ → List ℕ → ℕ → Type 0
IsAfterRounds b h words v t = IsScheduled (t + 16) b words × (v ≡ rounds h (schedule b 48) t)
