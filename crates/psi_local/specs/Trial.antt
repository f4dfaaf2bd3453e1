-- What `trial` does: it makes two lists by rule, places the receiver's, runs a whole session in memory, and prints how
-- large all was.
use Rattle.std.specs.Prelude.{ℕ, ◌++◌, Bool, count_by, true, false, List, [], ◌∷◌, length, Some, codes, decimal}
use Rattle.sha2.specs.Sha256.{sha256}
use Rattle.psi_spec.specs.Deals.{ReceiverDeal, SenderDeal, dealt_receiver, dealt_sender}
use Rattle.psi_spec.specs.Limits.{bins_for, rows_for, usual_stash}
use Rattle.psi_spec.specs.Meeting.{Setup, placed_of, shown}
use Rattle.psi_spec.specs.Placement.{Slot}
use Rattle.psi_spec.specs.SessionLaws.{pair_setup}
use Rattle.psi_spec.specs.Sessions.{dealt_masked, session_bytes}
use Rattle.psi_spec.specs.Streams.{sender_stream}
use Rattle.psi_items.specs.Made.{made_items}
use Rattle.psi_receiver.specs.Laws.{own_stream}
use Rattle.psi_words.specs.Words.{number_of, seed_of, word_at}
use Rattle.psi_walk.specs.Placing.{placing_of}
use Rattle.psi_local.specs.Transcript.{receiver_stream_size, sender_stream_size}
use Rattle.psi_walk.specs.Tree.{says, Tree, places, ends}
use Rattle.psi_local.specs.declared.trial.Summary.{Summary}

-- the lines of a file that `make` writes for these words with the number 0: of the first or of the second
unfoldable pub trial_items : Bool → List (List ℕ) → List (List ℕ)
trial_items is_second words = made_items is_second (number_of (word_at words 1)) (number_of (word_at words 2)) 0

-- the pair of deals of the seed, with session 0, tags of 16 bytes and the usual stash
unfoldable pub trial_receiver : List (List ℕ) → ReceiverDeal
trial_receiver words = dealt_receiver (seed_of (word_at words 3)) 0 16 usual_stash

unfoldable pub trial_sender : List (List ℕ) → SenderDeal
trial_sender words = dealt_sender (seed_of (word_at words 3)) 0 16 usual_stash

-- the setup of that pair and of the receiver's items in their slots
abbrev pub trial_setup : List (List ℕ) → List (List ℕ) → List Slot → Setup
trial_setup words xs slots = pair_setup (trial_receiver words) (trial_sender words) xs slots

-- the bytes that both ends exchange, in order
unfoldable pub trial_session : List (List ℕ) → List (List ℕ) → List Slot → List (List ℕ) → List ℕ
trial_session words xs slots ys = session_bytes (trial_receiver words) (trial_sender words) (placed_of xs slots) ys

-- the stream of each end of that session
abbrev pub trial_to_sender : List (List ℕ) → List (List ℕ) → List Slot → List ℕ
trial_to_sender words xs slots = own_stream (trial_receiver words) (placed_of xs slots)

abbrev pub trial_to_receiver : List (List ℕ) → List (List ℕ) → List Slot → List (List ℕ) → List ℕ
trial_to_receiver words xs slots ys =
    sender_stream (trial_sender words) (length xs) (dealt_masked (trial_receiver words) (placed_of xs slots)) ys

-- a line of a name and a number
abbrev pub numbered : List ℕ → ℕ → List ℕ
numbered name number = name ++ decimal number ++ codes "\n"

-- the lines of a summary
abbrev pub summary_text : Summary → List ℕ
summary_text s =
    numbered (codes "items ") s.items ++ numbered (codes "bins ") s.bins ++ numbered (codes "rows ") s.rows
    ++ numbered (codes "to-sender ") s.to_sender ++ numbered (codes "to-receiver ") s.to_receiver
    ++ numbered (codes "shown ") s.shown

-- what is measured of a session of a deal: by the numbers of the items of both ends, and the marks of those shown
abbrev pub measured : ReceiverDeal → ℕ → ℕ → List Bool → Summary
measured deal own peer marks = record {
  items = own;
  bins = bins_for own;
  rows = rows_for deal.stash own;
  to_sender = receiver_stream_size deal own;
  to_receiver = sender_stream_size deal peer;
  shown = count_by (λ is. is) marks;
}

-- how large all was: the items of the receiver, the bins and rows, both streams in bytes, and the items that are shown
abbrev pub trial_summary : List (List ℕ) → List (List ℕ) → List Slot → List (List ℕ) → Summary
trial_summary words xs slots ys = record {
  items = length xs;
  bins = bins_for (length xs);
  rows = rows_for usual_stash (length xs);
  to_sender = length (trial_to_sender words xs slots);
  to_receiver = length (trial_to_receiver words xs slots ys);
  shown = length (shown (trial_setup words xs slots) ys);
}

-- what `trial` prints
unfoldable pub trial_text : List (List ℕ) → List (List ℕ) → List Slot → List (List ℕ) → List ℕ
trial_text words xs slots ys = summary_text (trial_summary words xs slots ys)

-- what is left of `trial` with both lists and the slots of the receiver's items: the session, of which the digest is
-- answered, and the text
abbrev pub trial_rest : List (List ℕ) → List (List ℕ) → List (List ℕ) → List Slot → Tree
trial_rest words xs ys slots =
    ends (Some (sha256 (trial_session words xs slots ys))) (says (trial_text words xs slots ys) ∷ [])

-- what is left of it with both lists, which are of no file
abbrev pub trial_set : List (List ℕ) → List (List ℕ) → List (List ℕ) → Tree
trial_set words xs ys = places 0 (placing_of (trial_receiver words) xs) (λ slots. trial_rest words xs ys slots)

-- the placement of the made items, and the rest
abbrev pub trial_tree : List (List ℕ) → Tree
trial_tree words = trial_set words (trial_items false words) (trial_items true words)
