-- A session that was run in memory: what is printed and kept of it.
use Rattle.std.proofs.Common.{◌≡◌, ℕ, Bool, true, false, if◌then◌else◌, nat_lt, List, [], ◌∷◌, ◌++◌, length, Option, Some, None, option_map, Ok, Err, refl, sym, ap, ap₂, ◌∙◌, subst, append_assoc}
use Rattle.std.proofs.lemmas.List.{append-nil}
use Rattle.std.specs.declared.result.Result.{Result}
use Rattle.sha2.specs.Hashers.{Holds256}
use Rattle.sha2.specs.Sha256.{sha256}
use Rattle.psi_spec.specs.DealFiles.{sealed}
use Rattle.psi_spec.specs.Deals.{ReceiverDeal, SenderDeal}
use Rattle.psi_spec.specs.Hits.{hit_items, receiver_side, marked}
use Rattle.psi_spec.specs.Limits.{bins_for}
use Rattle.psi_spec.specs.Meeting.{Placed, placed_of, shown}
use Rattle.psi_spec.specs.Placement.{Slot, IsPlacementOf}
use Rattle.psi_spec.specs.Records.{record_file, record_front}
use Rattle.psi_spec.specs.SessionLaws.{FindsShown, pair_lists, pair_setup}
use Rattle.psi_spec.specs.Sessions.{dealt_masked, session_bytes}
use Rattle.psi_spec.specs.Streams.{sender_side}
use Rattle.psi_spec.specs.TagLists.{tag_lists}
use Rattle.psi_spec.specs.Texts.{lines_text}
use Rattle.psi_spec.proofs.Dealing.{length-placement}
use Rattle.psi_spec.proofs.Placing.{length-placed_of}
use Rattle.psi_base.specs.Outside.{Known, Outside}
use Rattle.psi_log.specs.Recording.{RecorderState}
use Rattle.psi_receiver.specs.Receiving.{hits_of}
use Rattle.psi_spec.specs.Sessions.{dealt_lists}
use Rattle.psi_local.specs.Local.{keeps, local_receiver, local_rest, local_sender, local_session, local_set, local_text}
use Rattle.psi_walk.specs.Placing.{placing_of}
use Rattle.psi_local.specs.Transcript.{IsPlayed, WentOn, front_for, log_of, writes}
use Rattle.psi_walk.specs.Tree.{Effect, says, puts, closed, ends, carrying}
use Rattle.psi_walk.specs.Walk.{Does, Follows, Makes, MakesAll, Places, Runs, all_done}
use Rattle.psi_local.specs.declared.playing.PlayedSession.{PlayedSession}
use Rattle.psi_texts.specs.declared.status.Status.{Status}
use Rattle.psi_local.specs.declared.transcript.SessionTranscript.{SessionTranscript}
use Rattle.psi_local.proofs.LocalLaws.{local_finds}
use Rattle.psi_walk.proofs.Carried.{places_last}
use Rattle.psi_walk.proofs.Unplaced.{ends_place_none}
use Rattle.psi_receiver.proofs.Marked.{length-hits_of, marked_hits}

-- ---- the transcript

-- bytes that are added to a record, and then more
log_on : (log : Option (List ℕ)) (before bytes : List ℕ)
    → option_map (λ (front : List ℕ). front ++ bytes) (option_map (λ (front : List ℕ). front ++ before) log) ≡ option_map (λ (front : List ℕ). front ++ (before ++ bytes)) log
log_on None before bytes = refl
log_on (Some front) before bytes = ap Some (append_assoc front before bytes)

log_same : (log : Option (List ℕ)) → log ≡ option_map (λ (front : List ℕ). front ++ []) log
log_same None = refl
log_same (Some front) = ap Some (sym (append-nil front))

-- a transcript has taken nothing since itself
pub went_nowhere : (t : SessionTranscript) → WentOn t t []
went_nowhere t = record {
  hash = λ before h. subst (λ (bytes : List ℕ). Holds256 t.hasher bytes) (sym (append-nil before)) h;
  log = log_same (log_of t.log);
}

-- a transcript that took bytes and then more
pub went_further : (first now later : SessionTranscript) (before bytes : List ℕ) → WentOn first now before
    → ((m : List ℕ) → Holds256 now.hasher m → Holds256 later.hasher (m ++ bytes)) → log_of later.log ≡ option_map (λ (front : List ℕ). front ++ bytes) (log_of now.log)
    → WentOn first later (before ++ bytes)
went_further first now later before bytes went hash log = record {
  hash = λ m h. subst (λ (all : List ℕ). Holds256 later.hasher all) (append_assoc m before bytes) (hash (m ++ before) (went.hash m h));
  log = log ∙ ap (λ (l : Option (List ℕ)). option_map (λ (front : List ℕ). front ++ bytes) l) went.log ∙ log_on (log_of first.log) before bytes;
}

-- ---- a session that was run

-- what an end tells and a transcript has taken, by the deals, the placed items and the sender's items
abbrev pub Plays : ReceiverDeal → SenderDeal → List Placed → List (List ℕ) → Option (List ℕ) → PlayedSession → Type 0
Plays receiver sender placed ys front played =
    (played.receiver.shown ≡ hits_of receiver placed (dealt_lists receiver sender placed ys))
    × Holds256 played.transcript.hasher (session_bytes receiver sender placed ys)
    × (log_of played.transcript.log ≡ option_map (λ (start : List ℕ). start ++ session_bytes receiver sender placed ys) front)

-- a transcript that took all bytes of a session since it had none
transcribed : (receiver : ReceiverDeal) (sender : SenderDeal) (placed : List Placed) (ys : List (List ℕ)) (front : Option (List ℕ)) (first : SessionTranscript) (played : PlayedSession)
    → played.receiver.shown ≡ hits_of receiver placed (dealt_lists receiver sender placed ys) → Holds256 first.hasher [] → log_of first.log ≡ front
    → WentOn first played.transcript (session_bytes receiver sender placed ys) → Plays receiver sender placed ys front played
transcribed receiver sender placed ys front first played marks empty at went = (
  marks,
  went.hash [] empty,
  went.log ∙ ap (λ (l : Option (List ℕ)). option_map (λ (start : List ℕ). start ++ session_bytes receiver sender placed ys) l) at,
)

-- the same of ends that have these deals and items
pub is_played : (receiver own : ReceiverDeal) (sender peer : SenderDeal) (xs : List (List ℕ)) (slots : List Slot) (placed : List Placed) (ys items : List (List ℕ)) (front : Option (List ℕ))
    (first : SessionTranscript) (played : PlayedSession) → own ≡ receiver → peer ≡ sender → placed ≡ placed_of xs slots → items ≡ ys
    → played.receiver.shown ≡ hits_of own placed (dealt_lists own peer placed items) → Holds256 first.hasher [] → log_of first.log ≡ front
    → WentOn first played.transcript (session_bytes own peer placed items) → IsPlayed receiver sender xs slots ys front played
is_played receiver own sender peer xs slots placed ys items front first played of_receiver of_sender of_placed of_items marks empty at went =
    let all : Plays receiver sender (placed_of xs slots) ys front played =
    subst (λ (r : ReceiverDeal). Plays r sender (placed_of xs slots) ys front played) of_receiver
    (subst (λ (s : SenderDeal). Plays own s (placed_of xs slots) ys front played) of_sender
    (subst (λ (ps : List Placed). Plays own peer ps ys front played) of_placed
    (subst (λ (zs : List (List ℕ)). Plays own peer placed zs front played) of_items (transcribed own peer placed items front first played marks empty at went)))) in
    record { shown = all.0; hash = all.1; log = all.2 }

-- ---- what is printed and written

-- the lists of the session are those of the pair of deals
same_lists : (receiver : ReceiverDeal) (sender : SenderDeal) (xs : List (List ℕ)) (slots : List Slot) (ys : List (List ℕ)) → length xs ≡ length slots
    → dealt_lists receiver sender (placed_of xs slots) ys ≡ pair_lists receiver sender xs slots ys
same_lists receiver sender xs slots ys long =
    ap (λ (n : ℕ). tag_lists sender.stash (sender_side sender n (dealt_masked receiver (placed_of xs slots))) ys) (length-placed_of xs slots long)

-- the marked items are those that are shown
pub played_items : (receiver : ReceiverDeal) (sender : SenderDeal) (xs : List (List ℕ)) (slots : List Slot) (ys : List (List ℕ)) (marks : List Bool)
    → IsPlacementOf receiver.stash receiver.key (bins_for (length xs)) xs slots → FindsShown receiver sender xs ys slots
    → marks ≡ hits_of receiver (placed_of xs slots) (dealt_lists receiver sender (placed_of xs slots) ys)
    → marked marks xs ≡ shown (pair_setup receiver sender xs slots) ys
played_items receiver sender xs slots ys marks placement finds shown_is =
    let long = length-placement receiver.stash receiver.key (bins_for (length xs)) xs slots placement in
    ap (λ (bs : List Bool). marked bs xs) shown_is
    ∙ (marked_hits receiver xs slots (dealt_lists receiver sender (placed_of xs slots) ys) long
    ∙ (ap (λ (lists : List (List (List ℕ))). hit_items (receiver_side receiver xs slots) lists) (same_lists receiver sender xs slots ys long)
    ∙ finds.hit))

-- and so their lines are what `local` prints
pub played_text : (words : List (List ℕ)) (xs : List (List ℕ)) (slots : List Slot) (ys : List (List ℕ)) (marks : List Bool)
    → IsPlacementOf (local_receiver words).stash (local_receiver words).key (bins_for (length xs)) xs slots
    → marks ≡ hits_of (local_receiver words) (placed_of xs slots) (dealt_lists (local_receiver words) (local_sender words) (placed_of xs slots) ys)
    → lines_text (marked marks xs) ≡ local_text words xs slots ys
unfolding local_text
played_text words xs slots ys marks placement shown_is =
    ap lines_text (played_items (local_receiver words) (local_sender words) xs slots ys marks placement (local_finds words xs ys slots placement) shown_is)

-- the record of the session is written where there is a word for it
played_record : (words : List (List ℕ)) (slots : List Slot) (wire : List ℕ) (log : Option RecorderState)
    → log_of log ≡ option_map (λ (front : List ℕ). front ++ wire) (front_for words slots) → writes log ≡ keeps words (record_file slots wire)
played_record words slots wire log e = by_word (nat_lt 6 (length words)) log e
  where
    by_word : (b : Bool) (log : Option RecorderState) → log_of log ≡ option_map (λ (front : List ℕ). front ++ wire) (if b then Some (record_front slots) else None)
        → writes log ≡ (if b then puts 6 (record_file slots wire) ∷ [] else [])
    by_word true (Some log) e = ap (λ (bytes : List ℕ). puts 6 (sealed bytes) ∷ []) (let f : log.bytes ≡ record_front slots ++ wire = cc e in f)
    by_word true None e = cc e
    by_word false (Some log) e = cc e
    by_word false None e = refl

-- all that is left to do
pub played_effects : (words : List (List ℕ)) (xs : List (List ℕ)) (slots : List Slot) (ys : List (List ℕ)) (played : PlayedSession)
    → IsPlacementOf (local_receiver words).stash (local_receiver words).key (bins_for (length xs)) xs slots
    → IsPlayed (local_receiver words) (local_sender words) xs slots ys (front_for words slots) played
    → says (lines_text (marked played.receiver.shown xs)) ∷ writes played.transcript.log
    ≡ says (local_text words xs slots ys) ∷ keeps words (record_file slots (local_session words xs slots ys))
unfolding local_session
played_effects words xs slots ys played placement is =
    ap₂ (λ (text : List ℕ) (rest : List Effect). says text ∷ rest) (played_text words xs slots ys played.receiver.shown placement is.shown)
    (played_record words slots (session_bytes (local_receiver words) (local_sender words) (placed_of xs slots) ys) played.transcript.log is.log)

-- each item has a mark
pub length-played : (receiver : ReceiverDeal) (sender : SenderDeal) (xs : List (List ℕ)) (slots : List Slot) (ys : List (List ℕ)) (front : Option (List ℕ)) (played : PlayedSession)
    → IsPlacementOf receiver.stash receiver.key (bins_for (length xs)) xs slots → IsPlayed receiver sender xs slots ys front played
    → length played.receiver.shown ≡ length xs
length-played receiver sender xs slots ys front played placement is =
    let long = length-placement receiver.stash receiver.key (bins_for (length xs)) xs slots placement in
    ap length is.shown ∙ (length-hits_of receiver (placed_of xs slots) (dealt_lists receiver sender (placed_of xs slots) ys) ∙ length-placed_of xs slots long)

-- ---- the run

-- one effect is all
makes_one : (known : Known) (words : List (List ℕ)) (taken : Bool) (effect : Effect) (before after : Outside) (result : Result (Unit {0}) Status)
    → Makes known words taken effect before result after → MakesAll known words taken (effect ∷ []) before result after
makes_one known words taken effect before after (Ok x) h = λ wire end later. h wire [] end later
makes_one known words taken effect before after (Err why) h = λ wire. h wire []

-- a record that is there was written
pub record_kept : (known : Known) (words : List (List ℕ)) (taken : Bool) (log : Option RecorderState) (recorder : RecorderState) (file : List ℕ) (before after : Outside)
    (result : Result (Unit {0}) Status) → log ≡ Some recorder → file ≡ sealed recorder.bytes → Makes known words taken (puts 6 file) before result after
    → MakesAll known words taken (writes log) before result after
record_kept known words taken log recorder file before after result is e h =
    subst (λ (l : Option RecorderState). MakesAll known words taken (writes l) before result after) (sym is)
    (subst (λ (bytes : List ℕ). MakesAll known words taken (puts 6 bytes ∷ []) before result after) e (makes_one known words taken (puts 6 file) before after result h))

-- a run that has done all of its session
pub closes : (known : Known) (words : List (List ℕ)) (digest wire : List ℕ) (after : Outside) → digest ≡ wire
    → Follows known words false (ends (Some wire) []) after (closed (Ok digest) after)
unfolding Follows Does
closes known words digest wire after e = all_done (ap (λ (d : List ℕ). closed (Ok d) after) e)

-- what a run does that has a session which was run
abbrev pub DoesRest : Known → List (List ℕ) → List (List ℕ) → PlayedSession → Outside → Result (List ℕ) Status → Outside → Type 0
DoesRest known words xs played before result after =
    (bytes : List ℕ) → Holds256 played.transcript.hasher bytes
    → Runs known words (ends (Some (sha256 bytes)) (says (lines_text (marked played.receiver.shown xs)) ∷ writes played.transcript.log)) before (closed result after)

same_session : (words : List (List ℕ)) (xs : List (List ℕ)) (slots : List Slot) (ys : List (List ℕ))
    → session_bytes (local_receiver words) (local_sender words) (placed_of xs slots) ys ≡ local_session words xs slots ys
unfolding local_session
same_session words xs slots ys = refl

rest_on : (known : Known) (words : List (List ℕ)) (xs : List (List ℕ)) (slots : List Slot) (ys : List (List ℕ)) (played : PlayedSession) (before after : Outside) (result : Result (List ℕ) Status)
    → IsPlacementOf (local_receiver words).stash (local_receiver words).key (bins_for (length xs)) xs slots
    → IsPlayed (local_receiver words) (local_sender words) xs slots ys (front_for words slots) played
    → DoesRest known words xs played before result after → Runs known words (local_rest words xs ys slots) before (closed result after)
rest_on known words xs slots ys played before after result placement is rest =
    let bytes = session_bytes (local_receiver words) (local_sender words) (placed_of xs slots) ys in
    subst (λ (wire : List ℕ). Runs known words (ends (Some (sha256 wire)) (says (local_text words xs slots ys) ∷ keeps words (record_file slots (local_session words xs slots ys)))) before (closed result after))
    (same_session words xs slots ys)
    (subst (λ (effects : List Effect). Runs known words (ends (Some (sha256 bytes)) effects) before (closed result after))
    (played_effects words xs slots ys played placement is) (rest bytes is.hash))

-- the set was placed, its session was run, and the rest was done
pub played_on : (known : Known) (words : List (List ℕ)) (xs : List (List ℕ)) (slots : List Slot) (ys : List (List ℕ)) (receiver : ReceiverDeal) (sender : SenderDeal) (played : PlayedSession)
    (before after : Outside) (result : Result (List ℕ) Status) → receiver ≡ local_receiver words → sender ≡ local_sender words
    → Places 1 (placing_of receiver xs) (Ok slots) → IsPlacementOf receiver.stash receiver.key (bins_for (length xs)) xs slots
    → IsPlayed receiver sender xs slots ys (front_for words slots) played → DoesRest known words xs played before result after
    → Runs known words (local_set words xs ys) before (carrying slots (closed result after))
played_on known words xs slots ys receiver sender played before after result of_receiver of_sender places placement is rest =
    places_last known words 1 (placing_of (local_receiver words) xs) (λ slots. local_rest words xs ys slots) before slots (closed result after)
    (ends_place_none (Some (sha256 (local_session words xs slots ys)))
    (says (local_text words xs slots ys) ∷ keeps words (record_file slots (local_session words xs slots ys))))
    (subst (λ (r : ReceiverDeal). Places 1 (placing_of r xs) (Ok slots)) of_receiver places)
    (rest_on known words xs slots ys played before after result
    (subst (λ (r : ReceiverDeal). IsPlacementOf r.stash r.key (bins_for (length xs)) xs slots) of_receiver placement)
    (subst (λ (r : ReceiverDeal). IsPlayed r (local_sender words) xs slots ys (front_for words slots) played) of_receiver
    (subst (λ (s : SenderDeal). IsPlayed receiver s xs slots ys (front_for words slots) played) of_sender is)) rest)
