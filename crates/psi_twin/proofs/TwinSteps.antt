-- The steps of `twin` from what its functions answer.
use Rattle.std.proofs.Common.{◌≡◌, ◌∙◌, ℕ, false, List, [], ◌∷◌, length, None, Ok, Err, sym, subst}
use Rattle.psi_spec.specs.Changes.{change, columns_file}
use Rattle.psi_spec.specs.ColumnSets.{masked_columns}
use Rattle.psi_spec.specs.Deals.{ReceiverDeal, SenderDeal}
use Rattle.psi_spec.specs.Meeting.{placed_of}
use Rattle.psi_spec.specs.Placement.{Slot}
use Rattle.psi_spec.specs.Streams.{columns_stream, receiver_stream, words_of}
use Rattle.psi_base.specs.Outside.{Known, Outside}
use Rattle.psi_walk.specs.Placing.{placing_of}
use Rattle.psi_walk.specs.Tree.{carrying, ends, puts, stopped}
use Rattle.psi_twin.specs.Twin.{dealt_for, files_of_words, twin_files, twin_first, twin_rest, twin_second}
use Rattle.psi_twin.specs.TwinPromises.{IsPlacedWith}
use Rattle.psi_walk.specs.Walk.{Makes, Places, Runs}
use Rattle.psi_texts.specs.declared.status.Status.{Status}
use Rattle.psi_texts.specs.declared.status.Status.TheVariants as status
use Rattle.psi_walk.proofs.Carried.{carries_all, places_last, runs_unrefused}
use Rattle.psi_walk.proofs.Unplaced.{ends_place_none}
use Rattle.psi_walk.proofs.Walks.{ends_done, places_on, places_out, starves}
use Rattle.psi_walk.proofs.Placings.{length-placed_with}

-- both files were written
pub both_written : (known : Known) (words : List (List ℕ)) (before mid after : Outside) (stream stream' columns columns' : List ℕ) (x y : Unit {0}) → stream ≡ stream' → columns ≡ columns'
    → Makes known words false (puts 5 stream) before (Ok x) mid → Makes known words false (puts 6 columns) mid (Ok y) after
    → Runs known words (ends None (puts 5 stream' ∷ puts 6 columns' ∷ [])) before (stopped status.Done after)
both_written known words before mid after stream stream' columns columns' x y s c one two =
    let last = stopped status.Done after in
    subst (λ (bytes : List ℕ). Runs known words (ends None (puts 5 bytes ∷ puts 6 columns' ∷ [])) before last) s
    (subst (λ (bytes : List ℕ). Runs known words (ends None (puts 5 stream ∷ puts 6 bytes ∷ [])) before last) c
    (one None (puts 6 columns ∷ []) last (two None [] last (ends_done known words false after))))

-- the first set has its slots, and the second has none
pub second_unplaced : (known : Known) (words : List (List ℕ)) (receiver : ReceiverDeal) (sender : SenderDeal) (xs : List (List ℕ)) (slots : List Slot) (others : List (List ℕ))
    (before : Outside) (why : Status) → Places 1 (placing_of receiver xs) (Ok slots) → Places 2 (placing_of receiver others) (Err why)
    → Runs known words (twin_first receiver sender xs others) before (stopped why before)
second_unplaced known words receiver sender xs slots others before (status.NoPlacement place items touched) first second =
    places_on known words 1 (placing_of receiver xs) (λ chosen. twin_second receiver sender xs chosen others) before slots (stopped (status.NoPlacement place items touched) before) first
    (places_out known words 2 (placing_of receiver others) (λ chosen. twin_rest receiver sender xs slots others chosen) before (status.NoPlacement place items touched) second)
second_unplaced known words receiver sender xs slots others before status.NoMemory first second = starves known words (twin_first receiver sender xs others) before tt
second_unplaced known words receiver sender xs slots others before _ first second = absurd second

-- both sets have their slots, and the rest ended so
pub both_placed : (known : Known) (words : List (List ℕ)) (receiver : ReceiverDeal) (sender : SenderDeal) (xs : List (List ℕ)) (slots : List Slot) (others : List (List ℕ))
    (other_slots : List Slot) (before after : Outside) (why due : Status) → why ≡ due → Places 1 (placing_of receiver xs) (Ok slots)
    → Places 2 (placing_of receiver others) (Ok other_slots) → Runs known words (twin_rest receiver sender xs slots others other_slots) before (stopped due after)
    → Runs known words (twin_first receiver sender xs others) before (record { status = why; placed = slots ∷ other_slots ∷ []; wire = None; left = after })
both_placed known words receiver sender xs slots others other_slots before after why due e first second rest =
    let none = ends_place_none None (twin_files receiver sender (placed_of xs slots) (placed_of others other_slots) (dealt_for receiver (length xs))) in
    let inner = places_last known words 2 (placing_of receiver others) (λ chosen. twin_rest receiver sender xs slots others chosen) before other_slots (stopped due after) none second rest in
    let outer = places_on known words 1 (placing_of receiver xs) (λ chosen. twin_second receiver sender xs chosen others) before slots (carrying other_slots (stopped due after)) first inner in
    let all = carries_all due slots (other_slots ∷ []) (runs_unrefused known words false (twin_rest receiver sender xs slots others other_slots) before (stopped due after) none rest) in
    subst (λ (s : Status). Runs known words (twin_first receiver sender xs others) before (record { status = s; placed = slots ∷ other_slots ∷ []; wire = None; left = after })) (sym e)
    (subst (λ (placed : List (List Slot)). Runs known words (twin_first receiver sender xs others) before (record { status = due; placed = placed; wire = None; left = after })) all outer)

-- the files of both placed sets are those of their row words
pub rest_tree : (receiver : ReceiverDeal) (sender : SenderDeal) (xs : List (List ℕ)) (slots : List Slot) (others : List (List ℕ)) (other_slots : List Slot) (count : ℕ)
    (words words' : List (List ℕ)) → IsPlacedWith receiver xs slots → count ≡ length xs → words ≡ words_of receiver (placed_of xs slots)
    → words' ≡ words_of receiver (placed_of others other_slots)
    → ends None (files_of_words receiver sender count words words') ≡ twin_rest receiver sender xs slots others other_slots
unfolding receiver_stream
rest_tree receiver sender xs slots others other_slots count words words' placement total own other =
    let all : count ≡ length (placed_of xs slots) = total ∙ sym (length-placed_with receiver xs slots placement) in
    λ i. ends None
    (puts 5 (columns_stream receiver.id receiver.session (all i) (masked_columns (own i) (dealt_for receiver (total i))))
    ∷ puts 6 (columns_file (change sender.choice (own i) (other i) (dealt_for receiver (total i))))
    ∷ [])
