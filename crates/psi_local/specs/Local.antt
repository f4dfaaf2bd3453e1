-- What `local` does: it reads both lists, places the receiver's items, runs a whole session in memory, prints the
-- receiver's items that are shown, and writes the record of the session where a word names a file for it.
use Rattle.std.specs.Prelude.{ℕ, List, [], ◌∷◌, length, Some, nat_lt, if◌then◌else◌}
use Rattle.sha2.specs.Sha256.{sha256}
use Rattle.psi_spec.specs.Deals.{ReceiverDeal, SenderDeal}
use Rattle.psi_spec.specs.Meeting.{Setup, placed_of, shown}
use Rattle.psi_spec.specs.Placement.{Slot}
use Rattle.psi_spec.specs.Records.{record_file}
use Rattle.psi_spec.specs.SessionLaws.{pair_setup}
use Rattle.psi_spec.specs.Sessions.{session_bytes}
use Rattle.psi_spec.specs.Texts.{lines_text}
use Rattle.psi_walk.specs.Files.{reads_items}
use Rattle.psi_walk.specs.NamedDeals.{receiver_of_words, sender_of_words}
use Rattle.psi_walk.specs.Placing.{placing_of}
use Rattle.psi_walk.specs.Tree.{Effect, says, puts, Tree, places, ends}

-- the pair of deals that the words of `local` name from the third on
abbrev pub local_receiver : List (List ℕ) → ReceiverDeal
local_receiver words = receiver_of_words words 3

abbrev pub local_sender : List (List ℕ) → SenderDeal
local_sender words = sender_of_words words 3

-- the setup of that pair and of the receiver's items in their slots
abbrev pub local_setup : List (List ℕ) → List (List ℕ) → List Slot → Setup
local_setup words xs slots = pair_setup (local_receiver words) (local_sender words) xs slots

-- what `local` prints: the receiver's items that meet some item of the sender, a line each
unfoldable pub local_text : List (List ℕ) → List (List ℕ) → List Slot → List (List ℕ) → List ℕ
local_text words xs slots ys = lines_text (shown (local_setup words xs slots) ys)

-- the bytes that both ends exchange, in order
unfoldable pub local_session : List (List ℕ) → List (List ℕ) → List Slot → List (List ℕ) → List ℕ
local_session words xs slots ys = session_bytes (local_receiver words) (local_sender words) (placed_of xs slots) ys

-- the record is written where there is a word for its file
abbrev pub keeps : List (List ℕ) → List ℕ → List Effect
keeps words file = if nat_lt 6 (length words) then puts 6 file ∷ [] else []

-- what is left of `local` with both lists and the slots of the receiver's items: the session, of which the digest is
-- answered, the text and the record
abbrev pub local_rest : List (List ℕ) → List (List ℕ) → List (List ℕ) → List Slot → Tree
local_rest words xs ys slots =
    ends (Some (sha256 (local_session words xs slots ys)))
    (says (local_text words xs slots ys) ∷ keeps words (record_file slots (local_session words xs slots ys)))

-- what is left of it with both lists
abbrev pub local_set : List (List ℕ) → List (List ℕ) → List (List ℕ) → Tree
local_set words xs ys = places 1 (placing_of (local_receiver words) xs) (λ slots. local_rest words xs ys slots)

-- the receiver's items, the sender's, the placement and the rest
abbrev pub local_tree : List (List ℕ) → Tree
local_tree words = reads_items 1 (λ xs. reads_items 2 (λ ys. local_set words xs ys))
