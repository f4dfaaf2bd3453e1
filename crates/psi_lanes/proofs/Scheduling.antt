-- The schedule of a block, word by word.
use Rattle.std.proofs.Common.{◌≡◌, ◌<◌, ◌≤◌, ◌+◌, ◌-◌, ℕ, List, length, slice_index, slice_index_or, slice_set, sym, subst, ◌∙◌, ap, ap₂, arith, inl, inr}
use Rattle.std.proofs.lemmas.Bool.{cases_lt}
use Rattle.std.proofs.lemmas.List.{get_or-map, get_or-set_same, get_or-set_other, length-map, map-set}
use Rattle.sha2.specs.Sha256.{add32, next_word, round, round_constants, rounds, schedule, small_sigma0, small_sigma1}
use Rattle.sha2.proofs.Schedule256.{rounds_next, slice_index-schedule_next}
use Rattle.psi_lanes.specs.Rounds.{IsAfterRounds, IsScheduled, word_list}
use Rattle.psi_lanes.specs.declared.schedule_words.ScheduleWord.{ScheduleWord}

-- a word that is made of the schedule's words is the schedule's
scheduled_next : (b words : List ℕ) (t : ℕ) → 16 ≤ t → t < 64 → IsScheduled t b words → next_word words t ≡ slice_index (schedule b 48) t
scheduled_next b words t low high held =
    let first = ap small_sigma1 (held (t - 2) (omega arith)) in
    let second = held (t - 7) (omega arith) in
    let third = ap small_sigma0 (held (t - 15) (omega arith)) in
    let fourth = held (t - 16) (omega arith) in
    ap₂ add32 (ap₂ add32 (ap₂ add32 first second) third) fourth ∙ sym (slice_index-schedule_next b 48 t low (omega arith))

-- a list whose first words are those that f makes, after one more
pub more_words : (f : ℕ → ℕ) (words : List ℕ) (t x : ℕ) → t < length words → x ≡ f t → ((k : ℕ) → k < t → slice_index words k ≡ f k)
    → (k : ℕ) → k < t + 1 → slice_index (slice_set words t x) k ≡ f k
more_words f words t x lt made held k below = elim (cases_lt k t) [
  | inl a ↦ get_or-set_other words t k x 0 (omega arith) ∙ held k a
  | inr b ↦
      let here : t ≡ k = omega arith in
      subst (λ n. slice_index (slice_set words t x) n ≡ f n) here (get_or-set_same words t x 0 lt ∙ made)
]

-- the next word of a schedule, written at its place
pub scheduled_more : (b words : List ℕ) (t x : ℕ) → 16 ≤ t → t < 64 → length words ≡ 64 → x ≡ next_word words t → IsScheduled t b words → IsScheduled (t + 1) b (slice_set words t x)
scheduled_more b words t x low high long made held =
    more_words (slice_index (schedule b 48)) words t x (omega arith) (made ∙ scheduled_next b words t low high held) held

-- one round with the words of the schedule
pub round_next : (b h words v next : List ℕ) (t constant word : ℕ) → v ≡ rounds h (schedule b 48) t → constant ≡ slice_index round_constants t
    → word ≡ slice_index words t → IsScheduled (t + 1) b words → next ≡ round v constant word → next ≡ rounds h (schedule b 48) (t + 1)
round_next b h words v next t constant word before same_constant same_word held made =
    made ∙ ((λ i. round (before i) (same_constant i) ((same_word ∙ held t (omega arith)) i)) ∙ sym (rounds_next h (schedule b 48) t))

-- a word of the schedule of message j
pub word_list-at : (j i : ℕ) (words : List ScheduleWord) (x : ScheduleWord) → i < length words
    → slice_index (slice_index_or words i x).lanes j ≡ slice_index (word_list j words) i
word_list-at j i words x lt = sym (get_or-map (λ w. slice_index w.lanes j) words i x 0 lt)

-- the words of message j after a write
pub word_list-set : (j i : ℕ) (words : List ScheduleWord) (x : ScheduleWord) → word_list j (slice_set words i x) ≡ slice_set (word_list j words) i (slice_index x.lanes j)
word_list-set j i words x = map-set (λ w. slice_index w.lanes j) words i x

pub length-word_list : (j : ℕ) (words : List ScheduleWord) → length (word_list j words) ≡ length words
length-word_list j words = length-map words (λ w. slice_index w.lanes j)

-- fewer words of a schedule
pub scheduled_at : (n k : ℕ) (b words : List ℕ) → k ≤ n → IsScheduled n b words → IsScheduled k b words
scheduled_at n k b words le held i lt = held i (omega arith)

-- the same number of rounds, written in another way
pub after_rounds_at : (b h words v : List ℕ) (n k : ℕ) → n ≡ k → IsAfterRounds b h words v n → IsAfterRounds b h words v k
after_rounds_at b h words v n k same held = subst (λ t. IsAfterRounds b h words v t) same held
