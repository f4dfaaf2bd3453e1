-- A session of the receiver that was done: what is printed and kept of it.
use Rattle.std.proofs.Common.{◌≡◌, ℕ, Bool, false, true, List, [], ◌∷◌, ◌++◌, length, None, Ok, Err, sym, ap, ap₂, ◌∙◌, subst}
use Rattle.std.specs.declared.result.Result.{Result}
use Rattle.psi_spec.specs.DealFiles.{sealed}
use Rattle.psi_spec.specs.Deals.{ReceiverDeal, IsReceiverDeal}
use Rattle.psi_spec.specs.Hits.{hit_items, receiver_side, marked}
use Rattle.psi_spec.specs.Limits.{bins_for}
use Rattle.psi_spec.specs.Meeting.{Placed, placed_of}
use Rattle.psi_spec.specs.Placement.{Slot, IsPlacementOf}
use Rattle.psi_spec.specs.Records.{record_front}
use Rattle.psi_spec.specs.Texts.{lines_text}
use Rattle.psi_spec.proofs.Dealing.{length-placement}
use Rattle.psi_base.specs.Outside.{Known, Outside}
use Rattle.psi_receiver.specs.Laws.{receiver_dialogue}
use Rattle.psi_receiver.proofs.Hearing.{hears_streams}
use Rattle.psi_receiver.specs.Receiving.{Received}
use Rattle.psi_link.specs.Receive.{IsHeard, session_record, shown_text, shows_and_keeps}
use Rattle.psi_walk.specs.Tree.{Effect, says, puts, Placing, Tree, places, talks, holds, ends, End, ended, stopped}
use Rattle.psi_walk.specs.declared.outcome.Placements.TheVariants as placements
use Rattle.psi_walk.specs.Walk.{Follows, Makes, Places, Runs, StepsTalk, status_of}
use Rattle.psi_texts.specs.declared.status.Status.{Status}
use Rattle.psi_texts.specs.declared.status.Status.TheVariants as status
use Rattle.psi_link.proofs.StreamLists.{lists_of_stream}
use Rattle.psi_walk.proofs.Walks.{ends_done, held_on, talks_on}
use Rattle.psi_walk.proofs.Carried.{places_last}
use Rattle.psi_walk.proofs.Unplaced.{PlacesNone}
use Rattle.psi_receiver.proofs.Marked.{length-hits_of, marked_hits}

-- ---- a session

-- a session as a step of the command
pub received_talks : (known : Known) (words : List (List ℕ)) (deal : ReceiverDeal) (placed : List Placed) (before : Outside) (log : List ℕ) (shown : List Bool) (log' : List ℕ) (after : Outside)
    → Received known deal placed before log shown log' after
    → StepsTalk known words (receiver_dialogue deal placed) (IsHeard deal placed log shown log') before (Ok tt) after
received_talks known words deal placed before log shown log' after h =
    talks_on known words (receiver_dialogue deal placed) (IsHeard deal placed log shown log') before after h.taken tt h.talked
    (record { count = h.count; lists = h.lists; stream = h.stream; hit = h.hit; logged = h.logged })

-- an end has a mark for each placed item
pub length-marks : (known : Known) (deal : ReceiverDeal) (placed : List Placed) (before : Outside) (log : List ℕ) (shown : List Bool) (log' : List ℕ) (after : Outside)
    → Received known deal placed before log shown log' after → length shown ≡ length placed
length-marks known deal placed before log shown log' after h = ap length h.hit ∙ length-hits_of deal placed h.lists

-- ---- what is left to do

heard_text : (xs : List (List ℕ)) (deal : ReceiverDeal) (slots : List Slot) (log : List ℕ) (shown : List Bool) (log' taken : List ℕ) → IsReceiverDeal deal → length xs ≡ length slots
    → IsHeard deal (placed_of xs slots) log shown log' taken → shown_text xs deal slots taken ≡ lines_text (marked shown xs)
unfolding shown_text
heard_text xs deal slots log shown log' taken is long h =
    ap (λ (lists : List (List (List ℕ))). lines_text (hit_items (receiver_side deal xs slots) lists)) (lists_of_stream deal (placed_of xs slots) h.count h.lists taken is h.stream)
    ∙ ap lines_text (sym (ap (λ (marks : List Bool). marked marks xs) h.hit ∙ marked_hits deal xs slots h.lists long))

heard_record : (xs : List (List ℕ)) (deal : ReceiverDeal) (slots : List Slot) (log : List ℕ) (shown : List Bool) (log' taken : List ℕ) → IsReceiverDeal deal → log ≡ record_front slots
    → IsHeard deal (placed_of xs slots) log shown log' taken → session_record xs deal slots taken ≡ sealed log'
unfolding session_record
heard_record xs deal slots log shown log' taken is front h =
    let placed : List Placed = placed_of xs slots in
    let wire = (hears_streams deal placed h.count h.lists taken is h.stream).wire in
    ap sealed (ap₂ (λ (before bytes : List ℕ). before ++ bytes) (sym front) wire ∙ sym h.logged)

-- what an end has to print and to keep once its session was run
abbrev pub to_do : List (List ℕ) → List Bool → List ℕ → List Effect
to_do xs shown log = says (lines_text (marked shown xs)) ∷ puts 4 (sealed log) ∷ []

heard_effects : (xs : List (List ℕ)) (deal : ReceiverDeal) (slots : List Slot) (log : List ℕ) (shown : List Bool) (log' taken : List ℕ) → IsReceiverDeal deal → length xs ≡ length slots → log ≡ record_front slots
    → IsHeard deal (placed_of xs slots) log shown log' taken → shows_and_keeps xs deal slots taken ≡ to_do xs shown log'
heard_effects xs deal slots log shown log' taken is long front h =
    ap₂ (λ (text file : List ℕ). says text ∷ puts 4 file ∷ []) (heard_text xs deal slots log shown log' taken is long h)
    (heard_record xs deal slots log shown log' taken is front h)

-- the session and what follows it, once the link is open
pub session_goes_on : (known : Known) (words : List (List ℕ)) (xs : List (List ℕ)) (deal : ReceiverDeal) (slots : List Slot) (log : List ℕ) (shown : List Bool) (log' : List ℕ) (before after : Outside) (end : End)
    → IsReceiverDeal deal → IsPlacementOf deal.stash deal.key (bins_for (length xs)) xs slots → log ≡ record_front slots
    → StepsTalk known words (receiver_dialogue deal (placed_of xs slots)) (IsHeard deal (placed_of xs slots) log shown log') before (Ok tt) after
    → Follows known words true (ends None (to_do xs shown log')) after end
    → Runs known words (talks (receiver_dialogue deal (placed_of xs slots)) (λ taken. holds (ends None (shows_and_keeps xs deal slots taken)))) before end
session_goes_on known words xs deal slots log shown log' before after end is placement front talk rest =
    let long = length-placement deal.stash deal.key (bins_for (length xs)) xs slots placement in
    talk.2 (λ taken. holds (ends None (shows_and_keeps xs deal slots taken))) end
    (held_on known words false (ends None (shows_and_keeps xs deal slots talk.0)) after end
    (subst (λ (effects : List Effect). Follows known words true (ends None effects) after end)
    (sym (heard_effects xs deal slots log shown log' talk.0 is long front talk.1)) rest))

-- the same of an end that has this deal and these items in their slots
pub session_on : (known : Known) (words : List (List ℕ)) (xs : List (List ℕ)) (deal : ReceiverDeal) (slots : List Slot) (own : ReceiverDeal) (placed : List Placed) (log : List ℕ) (shown : List Bool) (log' : List ℕ) (before after : Outside) (end : End)
    → IsReceiverDeal deal → IsPlacementOf deal.stash deal.key (bins_for (length xs)) xs slots → own ≡ deal → placed ≡ placed_of xs slots → log ≡ record_front slots
    → StepsTalk known words (receiver_dialogue own placed) (IsHeard own placed log shown log') before (Ok tt) after
    → Follows known words true (ends None (to_do xs shown log')) after end
    → Runs known words (talks (receiver_dialogue deal (placed_of xs slots)) (λ taken. holds (ends None (shows_and_keeps xs deal slots taken)))) before end
session_on known words xs deal slots own placed log shown log' before after end is placement same_deal same_placed front talk rest =
    session_goes_on known words xs deal slots log shown log' before after end is placement front
    (subst (λ (d : ReceiverDeal). StepsTalk known words (receiver_dialogue d (placed_of xs slots)) (IsHeard d (placed_of xs slots) log shown log') before (Ok tt) after) same_deal
    (subst (λ (ps : List Placed). StepsTalk known words (receiver_dialogue own ps) (IsHeard own ps log shown log') before (Ok tt) after) same_placed talk)) rest

-- the record is written last
pub kept : (known : Known) (words : List (List ℕ)) (bytes file : List ℕ) (before after : Outside) (r : Result (Unit {0}) Status) → bytes ≡ file
    → Makes known words true (puts 4 bytes) before r after → Follows known words true (ends None (puts 4 file ∷ [])) before (stopped (status_of r) after)
kept known words bytes file before after (Ok x) e h =
    subst (λ (b : List ℕ). Follows known words true (ends None (puts 4 b ∷ [])) before (stopped status.Done after)) e
    (h None [] (stopped status.Done after) (ends_done known words true after))
kept known words bytes file before after (Err why) e h =
    subst (λ (b : List ℕ). Follows known words true (ends None (puts 4 b ∷ [])) before (stopped why after)) e (h None [])

-- a set that got slots, and what came after it
pub then_placed : (known : Known) (words : List (List ℕ)) (word : ℕ) (set : Placing) (next : List Slot → Tree) (before after : Outside) (slots : List Slot) (why due : Status) → why ≡ due
    → PlacesNone (next slots) → Places word set (Ok slots) → Runs known words (next slots) before (stopped due after)
    → Runs known words (places word set next) before (ended (record { status = why; placements = placements.One slots; wire = None }) after)
then_placed known words word set next before after slots why due e none is rest =
    subst (λ (s : Status). Runs known words (places word set next) before (ended (record { status = s; placements = placements.One slots; wire = None }) after)) (sym e)
    (places_last known words word set next before slots (stopped due after) none is rest)
