-- A session on made lists that was run in memory: how large it was.
use Rattle.std.proofs.Common.{◌≡◌, ◌≤◌, ◌+◌, ◌*◌, ℕ, Bool, true, false, cond, count_by, List, [], ◌∷◌, length, Option, Some, refl, sym, ap, ap₂, ◌∙◌, subst, arith, Ok}
use Rattle.std.specs.declared.result.Result.{Result}
use Rattle.std.proofs.lemmas.List.Sums.{sum_by-cons}
use Rattle.sha2.specs.Hashers.{Holds256}
use Rattle.sha2.specs.Sha256.{sha256}
use Rattle.psi_spec.specs.ColumnSets.{masked_columns}
use Rattle.psi_spec.specs.Deals.{ArePair, ReceiverDeal, SenderDeal, dealt_receiver, dealt_sender}
use Rattle.psi_spec.specs.Limits.{bins_for, limit_items, rows_for, usual_stash}
use Rattle.psi_spec.specs.Meeting.{Placed, placed_of, shown}
use Rattle.psi_spec.specs.Placement.{Slot, IsPlacementOf}
use Rattle.psi_spec.specs.SessionLaws.{FindsShown}
use Rattle.psi_spec.specs.Sessions.{dealt_masked, session_bytes}
use Rattle.psi_spec.specs.Streams.{blocks_for, dealt_sets, receiver_stream, sender_side, sender_stream, words_of}
use Rattle.psi_spec.specs.TagLists.{tag_lists}
use Rattle.psi_spec.proofs.Dealing.{dealt_are_pairs, dealt_receiver_sizes, dealt_sender_sizes, length-placement}
use Rattle.psi_spec.proofs.DealtColumns.{dealt_sets_are}
use Rattle.psi_spec.proofs.Finding.{pairs_find_shown}
use Rattle.psi_spec.proofs.Forming.{receiver_streams_are_well_formed, sender_streams_are_well_formed}
use Rattle.psi_spec.proofs.Placing.{length-placed_of}
use Rattle.psi_spec.proofs.StreamSizes.{receiver_streams_have_sizes, sender_streams_have_sizes}
use Rattle.psi_base.specs.Outside.{Known, Outside}
use Rattle.psi_receiver.specs.Laws.{own_stream}
use Rattle.psi_words.specs.Words.{seed_of, word_at}
use Rattle.psi_walk.specs.Placing.{placing_of}
use Rattle.psi_local.specs.Transcript.{IsPlayed, receiver_stream_size, sender_stream_size}
use Rattle.psi_walk.specs.Tree.{says, closed, ends, carrying}
use Rattle.psi_local.specs.Trial.{measured, summary_text, trial_receiver, trial_rest, trial_sender, trial_session, trial_set, trial_setup, trial_summary, trial_text, trial_to_receiver, trial_to_sender}
use Rattle.psi_walk.specs.Walk.{Places, Runs}
use Rattle.psi_local.specs.declared.playing.PlayedSession.{PlayedSession}
use Rattle.psi_texts.specs.declared.status.Status.{Status}
use Rattle.psi_local.proofs.Played.{length-played, played_items}
use Rattle.psi_walk.proofs.Carried.{places_last}
use Rattle.psi_walk.proofs.Unplaced.{ends_place_none}
use Rattle.psi_spec.specs.Hits.{marked}

-- ---- the pair of deals

pub trial_pair : (words : List (List ℕ)) → ArePair (trial_receiver words) (trial_sender words)
unfolding trial_receiver trial_sender
trial_pair words = dealt_are_pairs (seed_of (word_at words 3)) 0 16 usual_stash

-- the sizes of both deals
record HasSizes (receiver : ReceiverDeal) (sender : SenderDeal) : Type 0 where
  id : length receiver.id ≡ 16
  seeds : length receiver.seeds ≡ 512
  peer_id : length sender.id ≡ 16
  choice : length sender.choice ≡ 64
  tag_length : sender.tag_length ≡ 16
  stash : receiver.stash ≡ usual_stash

trial_sizes : (words : List (List ℕ)) → HasSizes (trial_receiver words) (trial_sender words)
unfolding trial_receiver trial_sender dealt_receiver dealt_sender
trial_sizes words =
    let seed = seed_of (word_at words 3) in
    let own = dealt_receiver_sizes seed 0 16 usual_stash in
    let peer = dealt_sender_sizes seed 0 16 usual_stash in
    record { id = own.id; seeds = own.count; peer_id = peer.id; choice = peer.choice; tag_length = refl; stash = refl }

pub trial_finds : (words : List (List ℕ)) (xs ys : List (List ℕ)) (slots : List Slot)
    → IsPlacementOf (trial_receiver words).stash (trial_receiver words).key (bins_for (length xs)) xs slots
    → FindsShown (trial_receiver words) (trial_sender words) xs ys slots
trial_finds words xs ys slots placement =
    let sizes = trial_sizes words in
    pairs_find_shown (trial_receiver words) (trial_sender words) xs ys slots (trial_pair words) sizes.seeds sizes.choice placement

-- ---- how long the streams are

length-own_stream : (deal : ReceiverDeal) (placed : List Placed) → length deal.id ≡ 16 → length deal.seeds ≡ 512 → length placed ≤ limit_items
    → length (own_stream deal placed) ≡ receiver_stream_size deal (length placed)
length-own_stream deal placed id seeds few =
    let sets = dealt_sets deal (rows_for deal.stash (length placed)) in
    receiver_streams_have_sizes deal.stash deal.id deal.session (length placed) (masked_columns (words_of deal placed) sets) (receiver_stream deal placed sets) id
    (receiver_streams_are_well_formed deal placed sets few (dealt_sets_are deal (rows_for deal.stash (length placed)) seeds))

length-peer_stream : (receiver : ReceiverDeal) (sender : SenderDeal) (count : ℕ) (sent ys : List (List ℕ)) → ArePair receiver sender → length sender.id ≡ 16 → sender.tag_length ≤ 16
    → length ys ≤ limit_items → length (sender_stream sender count sent ys) ≡ sender_stream_size receiver (length ys)
length-peer_stream receiver sender count sent ys pair id short few =
    sender_streams_have_sizes sender.stash sender.id sender.session sender.tag_length (length ys) (tag_lists sender.stash (sender_side sender count sent) ys)
    (sender_stream sender count sent ys) id (sender_streams_are_well_formed sender count sent ys few short)
    ∙ ap₂ (λ (stash width : ℕ). 34 + (3 + stash) * (10 * blocks_for (length ys) + width * length ys)) (sym pair.stash) (sym pair.tag_length)

-- ---- how many items are shown

count_marked : (marks : List Bool) (xs : List (List ℕ)) → length marks ≡ length xs → count_by (λ is. is) marks ≡ length (marked marks xs)
count_marked [] xs l = refl
count_marked (b ∷ marks) [] l = absurd (omega arith)
count_marked (b ∷ marks) (x ∷ xs) l = by_case b (count_marked marks xs (omega arith))
  where
    by_case : (b : Bool) → count_by (λ is. is) marks ≡ length (marked marks xs)
        → count_by (λ is. is) (b ∷ marks) ≡ length (cond b (x ∷ marked marks xs) (marked marks xs))
    by_case true e =
        let more : count_by (λ is. is) (true ∷ marks) ≡ 1 + count_by (λ is. is) marks = sum_by-cons (λ (is : Bool). cond is 1 0) true marks in
        omega (arith, more, e)
    by_case false e =
        let more : count_by (λ is. is) (false ∷ marks) ≡ 0 + count_by (λ is. is) marks = sum_by-cons (λ (is : Bool). cond is 1 0) false marks in
        omega (arith, more, e)

-- ---- the text

-- what is measured is the summary of the session
is_summary : (words : List (List ℕ)) (xs : List (List ℕ)) (slots : List Slot) (ys : List (List ℕ)) (front : Option (List ℕ)) (played : PlayedSession)
    → length xs ≤ limit_items → length ys ≤ limit_items
    → IsPlacementOf (trial_receiver words).stash (trial_receiver words).key (bins_for (length xs)) xs slots
    → IsPlayed (trial_receiver words) (trial_sender words) xs slots ys front played
    → measured (trial_receiver words) (length xs) (length ys) played.receiver.shown ≡ trial_summary words xs slots ys
is_summary words xs slots ys front played few few' placement is =
    let receiver = trial_receiver words in
    let sender = trial_sender words in
    let sizes = trial_sizes words in
    let long : length (placed_of xs slots) ≡ length xs =
    length-placed_of xs slots (length-placement receiver.stash receiver.key (bins_for (length xs)) xs slots placement) in
    let few_placed : length (placed_of xs slots) ≤ limit_items = omega (arith, long, few) in
    let rows : rows_for receiver.stash (length xs) ≡ rows_for usual_stash (length xs) = ap (λ (stash : ℕ). rows_for stash (length xs)) sizes.stash in
    let to_sender : receiver_stream_size receiver (length xs) ≡ length (trial_to_sender words xs slots) =
    ap (receiver_stream_size receiver) (sym long) ∙ sym (length-own_stream receiver (placed_of xs slots) sizes.id sizes.seeds few_placed) in
    let to_receiver : sender_stream_size receiver (length ys) ≡ length (trial_to_receiver words xs slots ys) =
    sym (length-peer_stream receiver sender (length xs) (dealt_masked receiver (placed_of xs slots)) ys (trial_pair words) sizes.peer_id (omega (arith, sizes.tag_length)) few') in
    let shown_count : count_by (λ is. is) played.receiver.shown ≡ length (shown (trial_setup words xs slots) ys) =
    count_marked played.receiver.shown xs (length-played receiver sender xs slots ys front played placement is)
    ∙ ap length (played_items receiver sender xs slots ys played.receiver.shown placement (trial_finds words xs ys slots placement) is.shown) in
    λ i. record {
      items = length xs;
      bins = bins_for (length xs);
      rows = rows i;
      to_sender = to_sender i;
      to_receiver = to_receiver i;
      shown = shown_count i;
    }

text_is : (words : List (List ℕ)) (xs : List (List ℕ)) (slots : List Slot) (ys : List (List ℕ)) → summary_text (trial_summary words xs slots ys) ≡ trial_text words xs slots ys
unfolding trial_text
text_is words xs slots ys = refl

same_session : (words : List (List ℕ)) (xs : List (List ℕ)) (slots : List Slot) (ys : List (List ℕ))
    → session_bytes (trial_receiver words) (trial_sender words) (placed_of xs slots) ys ≡ trial_session words xs slots ys
unfolding trial_session
same_session words xs slots ys = refl

-- ---- the run

-- what a run does that prints a text and answers the digest of a session which was run
abbrev pub DoesText : Known → List (List ℕ) → List ℕ → PlayedSession → Outside → Result (List ℕ) Status → Outside → Type 0
DoesText known words text played before result after =
    (bytes : List ℕ) → Holds256 played.transcript.hasher bytes → Runs known words (ends (Some (sha256 bytes)) (says text ∷ [])) before (closed result after)

-- the session was run over the pair of deals of the words, and is as large as a summary says
record WasTried (words : List (List ℕ)) (xs : List (List ℕ)) (slots : List Slot) (ys : List (List ℕ)) (receiver : ReceiverDeal) (sender : SenderDeal)
    (front : Option (List ℕ)) (played : PlayedSession) (text : List ℕ) : Type 0 where
  placement : IsPlacementOf receiver.stash receiver.key (bins_for (length xs)) xs slots
  places : Places 0 (placing_of receiver xs) (Ok slots)
  is : IsPlayed receiver sender xs slots ys front played
  said : text ≡ summary_text (measured receiver (length xs) (length ys) played.receiver.shown)

tried_on : (known : Known) (words : List (List ℕ)) (xs : List (List ℕ)) (slots : List Slot) (ys : List (List ℕ)) (front : Option (List ℕ)) (played : PlayedSession) (text : List ℕ)
    (before after : Outside) (result : Result (List ℕ) Status) → length xs ≤ limit_items → length ys ≤ limit_items
    → WasTried words xs slots ys (trial_receiver words) (trial_sender words) front played text → DoesText known words text played before result after
    → Runs known words (trial_set words xs ys) before (carrying slots (closed result after))
tried_on known words xs slots ys front played text before after result few few' was rest =
    let bytes = session_bytes (trial_receiver words) (trial_sender words) (placed_of xs slots) ys in
    let said : text ≡ trial_text words xs slots ys =
    was.said ∙ ap summary_text (is_summary words xs slots ys front played few few' was.placement was.is) ∙ text_is words xs slots ys in
    let ran : Runs known words (trial_rest words xs ys slots) before (closed result after) =
    subst (λ (wire : List ℕ). Runs known words (ends (Some (sha256 wire)) (says (trial_text words xs slots ys) ∷ [])) before (closed result after)) (same_session words xs slots ys)
    (subst (λ (t : List ℕ). Runs known words (ends (Some (sha256 bytes)) (says t ∷ [])) before (closed result after)) said (rest bytes was.is.hash)) in
    places_last known words 0 (placing_of (trial_receiver words) xs) (λ slots. trial_rest words xs ys slots) before slots (closed result after)
    (ends_place_none (Some (sha256 (trial_session words xs slots ys))) (says (trial_text words xs slots ys) ∷ [])) was.places ran

-- the set was placed, its session was run, and the text was printed
pub trial_on : (known : Known) (words : List (List ℕ)) (xs : List (List ℕ)) (slots : List Slot) (ys : List (List ℕ)) (receiver : ReceiverDeal) (sender : SenderDeal) (front : Option (List ℕ))
    (played : PlayedSession) (text : List ℕ) (before after : Outside) (result : Result (List ℕ) Status) → receiver ≡ trial_receiver words → sender ≡ trial_sender words
    → length xs ≤ limit_items → length ys ≤ limit_items → IsPlacementOf receiver.stash receiver.key (bins_for (length xs)) xs slots
    → Places 0 (placing_of receiver xs) (Ok slots) → IsPlayed receiver sender xs slots ys front played
    → text ≡ summary_text (measured receiver (length xs) (length ys) played.receiver.shown) → DoesText known words text played before result after
    → Runs known words (trial_set words xs ys) before (carrying slots (closed result after))
trial_on known words xs slots ys receiver sender front played text before after result of_receiver of_sender few few' placement places is said rest =
    tried_on known words xs slots ys front played text before after result few few'
    (subst (λ (r : ReceiverDeal). WasTried words xs slots ys r (trial_sender words) front played text) of_receiver
    (subst (λ (s : SenderDeal). WasTried words xs slots ys receiver s front played text) of_sender
    (record { placement = placement; places = places; is = is; said = said }))) rest
