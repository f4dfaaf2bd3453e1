-- The pair of deals that the words of a command name.
use Rattle.std.specs.Prelude.{◌≡◌, ◌+◌, ℕ, List, true}
use Rattle.psi_spec.specs.Deals.{ReceiverDeal, SenderDeal, dealt_receiver, dealt_sender}
use Rattle.psi_words.specs.Words.{are_sizes, is_seed, is_session, number_of, seed_of, stash_of, tag_length_of, word_at}

-- three words name a pair of deals: a seed at this place, and behind it the number of a session and the sizes
pub record NameDeals (words : List (List ℕ)) (at : ℕ) : Type 0 where
  pub seed : is_seed (word_at words at) ≡ true
  pub session : is_session (word_at words (at + 1)) ≡ true
  pub sizes : are_sizes (word_at words (at + 2)) ≡ true

-- the receiver's deal of that pair
unfoldable pub receiver_of_words : List (List ℕ) → ℕ → ReceiverDeal
receiver_of_words words at =
    dealt_receiver (seed_of (word_at words at)) (number_of (word_at words (at + 1)))
    (tag_length_of (word_at words (at + 2))) (stash_of (word_at words (at + 2)))

-- the sender's deal of that pair
unfoldable pub sender_of_words : List (List ℕ) → ℕ → SenderDeal
sender_of_words words at =
    dealt_sender (seed_of (word_at words at)) (number_of (word_at words (at + 1)))
    (tag_length_of (word_at words (at + 2))) (stash_of (word_at words (at + 2)))
