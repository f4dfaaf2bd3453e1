-- What `twin` does: it reads two lists and both deals, places both lists, and writes the receiver's stream of the first
-- list over the dealt columns, and the changed columns, over which the second list has that same stream.
use Rattle.std.specs.Prelude.{ℕ, ◌==◌, List, [], ◌∷◌, length, Option, Some, None, Result, Ok, Err, if◌then◌else◌}
use Rattle.psi_spec.specs.Changes.{change, columns_file}
use Rattle.psi_spec.specs.ColumnSets.{ColumnSets, masked_columns}
use Rattle.psi_spec.specs.Deals.{ReceiverDeal, SenderDeal}
use Rattle.psi_spec.specs.HidingLaws.{change_between}
use Rattle.psi_spec.specs.Limits.{rows_for}
use Rattle.psi_spec.specs.Meeting.{Placed, placed_of}
use Rattle.psi_spec.specs.Placement.{Slot}
use Rattle.psi_spec.specs.Streams.{columns_stream, dealt_sets, receiver_stream}
use Rattle.psi_deal.specs.Differences.{first_difference}
use Rattle.psi_deal.specs.declared.errors.DealField.{DealField}
use Rattle.psi_walk.specs.Files.{reads_items, reads_receiver, reads_sender}
use Rattle.psi_walk.specs.Placing.{placing_of}
use Rattle.psi_walk.specs.Tree.{Effect, puts, Placing, Tree, decides, places, ends}
use Rattle.psi_walk.specs.Walk.{Places}
use Rattle.psi_texts.specs.declared.status.Status.{Status}
use Rattle.psi_texts.specs.declared.status.Status.TheVariants.{DealsDiffer, SizesDiffer}

-- ---- what is judged

-- two lists with these numbers of items have one number of items, or are refused with both
abbrev pub sizes_in : ℕ → ℕ → Result (Unit {0}) Status
sizes_in first second = if first == second then Ok tt else Err (SizesDiffer first second)

-- two deals that differ first in a field are refused with it; where they are a pair the lists are judged
abbrev pub pair_in : ℕ → ℕ → Option DealField → Result (Unit {0}) Status
pair_in first second (Some field) = Err (DealsDiffer field)
pair_in first second None = sizes_in first second

-- the deals are a pair and the lists have one number of items, or why not
unfoldable pub twins_in : ReceiverDeal → SenderDeal → List (List ℕ) → List (List ℕ) → Result (Unit {0}) Status
twins_in receiver sender xs others = pair_in (length xs) (length others) (first_difference receiver sender)

-- ---- what is written

-- the columns of the receiver's deal for so many items
abbrev pub dealt_for : ReceiverDeal → ℕ → ColumnSets
dealt_for receiver count = dealt_sets receiver (rows_for receiver.stash count)

-- with both placed sets the stream of the first is written, and then the changed columns
abbrev pub twin_files : ReceiverDeal → SenderDeal → List Placed → List Placed → ColumnSets → List Effect
twin_files receiver sender placed others sets =
    puts 5 (receiver_stream receiver placed sets)
    ∷ puts 6 (columns_file (change_between receiver sender.choice placed others sets))
    ∷ []

-- the same by the number of the items and the row words of both sets
abbrev pub files_of_words : ReceiverDeal → SenderDeal → ℕ → List (List ℕ) → List (List ℕ) → List Effect
files_of_words receiver sender count words others =
    puts 5 (columns_stream receiver.id receiver.session count (masked_columns words (dealt_for receiver count)))
    ∷ puts 6 (columns_file (change sender.choice words others (dealt_for receiver count)))
    ∷ []

-- ---- the steps

-- what is left of `twin` with both placements
abbrev pub twin_rest
    : ReceiverDeal → SenderDeal → List (List ℕ) → List Slot → List (List ℕ) → List Slot → Tree
twin_rest receiver sender xs slots others other_slots =
    ends None
    (twin_files receiver sender (placed_of xs slots) (placed_of others other_slots) (dealt_for receiver (length xs)))

-- what is left of it with the first placement
abbrev pub twin_second : ReceiverDeal → SenderDeal → List (List ℕ) → List Slot → List (List ℕ) → Tree
twin_second receiver sender xs slots others =
    places 2 (placing_of receiver others) (λ other_slots. twin_rest receiver sender xs slots others other_slots)

-- what is left of it once all is judged
abbrev pub twin_first : ReceiverDeal → SenderDeal → List (List ℕ) → List (List ℕ) → Tree
twin_first receiver sender xs others =
    places 1 (placing_of receiver xs) (λ slots. twin_second receiver sender xs slots others)

-- what is left of it once all is read
abbrev pub twin_sets : ReceiverDeal → SenderDeal → List (List ℕ) → List (List ℕ) → Tree
twin_sets receiver sender xs others =
    decides (twins_in receiver sender xs others) (λ _. twin_first receiver sender xs others)

-- the first list, the second, the receiver's deal, the sender's, and the rest
abbrev pub twin_tree : Tree
twin_tree =
    reads_items 1
    (λ xs. reads_items 2
    (λ others. reads_receiver 3 (λ receiver. reads_sender 4 (λ sender. twin_sets receiver sender xs others))))

-- ---- what its functions answer

-- what a step may answer that places the set of a word, and makes more of its slots
abbrev pub PlacesAnd : {A : Type 0} → ℕ → Placing → Result (List Slot × A) Status → Type 0
PlacesAnd word set (Ok made) = Places word set (Ok made.0)
PlacesAnd word set (Err why) = Places word set (Err why)
