-- Which runs may end with the digest of a session.
use Rattle.std.proofs.Common.{◌≡◌, ◌⊎◌, inl, inr, ℕ, Bool, true, false, List, [], ◌∷◌, Option, None, Ok, Err, refl, ap, ◌∙◌}
use Rattle.std.specs.declared.result.Result.{Result}
use Rattle.psi_spec.specs.Placement.{Slot}
use Rattle.psi_words.specs.Words.{word_at}
use Rattle.psi_base.specs.Outside.{Known, Outside, Writes, PrintsAll, Opens}
use Rattle.psi_frames.specs.Dialogue.{Talks}
use Rattle.psi_walk.specs.Files.{items_in, old_deal_in, reads_file, reads_items, reads_old, reads_receiver, reads_record, reads_sender, receiver_in, record_in, sender_in}
use Rattle.psi_walk.specs.Tree.{Effect, says, puts, Placing, Tree, reads, refuses, places, opens, talks, holds, ends, decides, End, stopped}
use Rattle.psi_walk.specs.Walk.{AtCall, AtPlace, AtRefusal, AtEnd, starved, cut, passed, hungry, crowded, placed, given_up, refused, gave_up, all_done, Does, Follows, Gives, read_status, write_status, print_status, open_status, talk_status}
use Rattle.psi_texts.specs.declared.status.Status.{Status}
use Rattle.psi_texts.specs.declared.status.Status.TheVariants as status
use Rattle.psi_spec.specs.Deals.{ReceiverDeal, SenderDeal}
use Rattle.psi_spec.specs.Records.{LoggedSession}
use Rattle.psi_deal.specs.declared.old_files.OldDeal.{OldDeal}

-- an end without a digest, or a run that is done and may have one
MayHave : Bool → End → Type 0
MayHave may end = (end.wire ≡ None) ⊎ ((may ≡ true) × (end.status ≡ status.Done))

stopped_wired : (may : Bool) (why : Status) (after : Outside) (end : End) → end ≡ stopped why after → MayHave may end
unfolding MayHave
stopped_wired may why after end e = inl (ap (λ (d : End). d.wire) e)

-- what a tree ends with: a digest only where one may be had
unfoldable pub MayBeWired : Bool → Tree → Type 0
MayBeWired may (reads word limit next) = (bytes : List ℕ) → MayBeWired may (next bytes)
MayBeWired may (refuses verdict) = Unit {0}
MayBeWired may (places word set next) = (slots : List Slot) → MayBeWired may (next slots)
MayBeWired may (opens link next) = MayBeWired may next
MayBeWired may (talks d next) = (bytes : List ℕ) → MayBeWired may (next bytes)
MayBeWired may (holds next) = MayBeWired may next
MayBeWired may (ends wire effects) = (may ≡ true) ⊎ (wire ≡ None)

call_wired : {A E : Type 0} (may taken : Bool) (Calls : Result A E → Outside → Type 0) (status_of : E → Status) (before : Outside) (end : End)
    (Rest : A → Outside → Type 0) → ((x : A) (after : Outside) → Rest x after → MayHave may end) → AtCall taken Calls status_of before end Rest → MayHave may end
call_wired may taken Calls status_of before end Rest ok (starved t e) = stopped_wired may status.NoMemory before end e
call_wired may taken Calls status_of before end Rest ok (cut why after h e) = stopped_wired may (status_of why) after end e
call_wired may taken Calls status_of before end Rest ok (passed x after h more) = ok x after more

end_wired : (may taken : Bool) (wire : Option (List ℕ)) (before : Outside) (end : End) → (may ≡ true) ⊎ (wire ≡ None) → AtEnd taken wire before end → MayHave may end
unfolding MayHave
end_wired may taken wire before end m (gave_up t e) = stopped_wired may status.NoMemory before end e
end_wired may taken wire before end (inl m) (all_done e) = inr (m, ap (λ (d : End). d.status) e)
end_wired may taken wire before end (inr none) (all_done e) = inl (ap (λ (d : End). d.wire) e ∙ none)

does_wired : (may : Bool) (known : Known) (words : List (List ℕ)) (taken : Bool) (wire : Option (List ℕ)) (effects : List Effect) (before : Outside) (end : End) → (may ≡ true) ⊎ (wire ≡ None)
    → Does known words taken wire effects before end → MayHave may end
unfolding Does
does_wired may known words taken wire [] before end m h = end_wired may taken wire before end m h
does_wired may known words taken wire (says text ∷ rest) before end m h =
    call_wired may taken (PrintsAll before text) print_status before end (λ _ after. Does known words taken wire rest after end) (λ x after more. does_wired may known words taken wire rest after end m more) h
does_wired may known words taken wire (puts word bytes ∷ rest) before end m h =
    call_wired may taken (Writes known before (word_at words word) bytes) (write_status word) before end (λ _ after. Does known words taken wire rest after end)
    (λ x after more. does_wired may known words taken wire rest after end m more) h

refusal_wired : (may taken : Bool) (verdict : Status) (before : Outside) (end : End) → AtRefusal taken verdict before end → MayHave may end
refusal_wired may taken verdict before end (given_up t e) = stopped_wired may status.NoMemory before end e
refusal_wired may taken verdict before end (refused v e) = stopped_wired may verdict before end e

place_wired : (may taken : Bool) (word : ℕ) (set : Placing) (before : Outside) (end : End) (Rest : List Slot → End → Type 0)
    → ((slots : List Slot) (later : End) → Rest slots later → MayHave may later) → AtPlace taken word set before end Rest → MayHave may end
unfolding MayHave
place_wired may taken word set before end Rest ok (hungry t e) = stopped_wired may status.NoMemory before end e
place_wired may taken word set before end Rest ok (crowded items h e) = inl (ap (λ (d : End). d.wire) e)
place_wired may taken word set before end Rest ok (placed slots later h e more) = so (ok slots later more)
  where
    so : (later.wire ≡ None) ⊎ ((may ≡ true) × (later.status ≡ status.Done)) → (end.wire ≡ None) ⊎ ((may ≡ true) × (end.status ≡ status.Done))
    so (inl none) = inl (ap (λ (d : End). d.wire) e ∙ none)
    so (inr done) = inr (done.0, ap (λ (d : End). d.status) e ∙ done.1)

follows_wired : (may : Bool) (known : Known) (words : List (List ℕ)) (taken : Bool) (tree : Tree) (before : Outside) (end : End) → MayBeWired may tree
    → Follows known words taken tree before end → MayHave may end
unfolding Follows MayBeWired
follows_wired may known words taken (reads word limit next) before end m h =
    call_wired may taken (Gives known before (word_at words word) limit) (read_status word) before end (λ bytes after. Follows known words taken (next bytes) after end)
    (λ bytes after more. follows_wired may known words taken (next bytes) after end (m bytes) more) h
follows_wired may known words taken (refuses verdict) before end m h = refusal_wired may taken verdict before end h
follows_wired may known words taken (places word set next) before end m h =
    place_wired may taken word set before end (λ slots later. Follows known words taken (next slots) before later)
    (λ slots later more. follows_wired may known words taken (next slots) before later (m slots) more) h
follows_wired may known words taken (opens link next) before end m h =
    call_wired may taken (Opens known before link) open_status before end (λ _ after. Follows known words taken next after end)
    (λ x after more. follows_wired may known words taken next after end m more) h
follows_wired may known words taken (talks d next) before end m h =
    call_wired may taken (Talks known d before) talk_status before end (λ bytes after. Follows known words taken (next bytes) after end)
    (λ bytes after more. follows_wired may known words taken (next bytes) after end (m bytes) more) h
follows_wired may known words taken (holds next) before end m h = follows_wired may known words true next before end m h
follows_wired may known words taken (ends wire effects) before end m h = does_wired may known words taken wire effects before end m h

-- ---- steps that read and judge a file

pub decides_wired : {A : Type 0} (may : Bool) (due : Result A Status) (next : A → Tree) → ((x : A) → MayBeWired may (next x)) → MayBeWired may (decides due next)
unfolding MayBeWired decides
decides_wired may (Ok x) next h = h x
decides_wired may (Err why) next h = tt

pub items_wired : (may : Bool) (word : ℕ) (next : List (List ℕ) → Tree) → ((items : List (List ℕ)) → MayBeWired may (next items)) → MayBeWired may (reads_items word next)
unfolding MayBeWired reads_file
items_wired may word next h = λ bytes. decides_wired may (items_in word bytes) next h

pub receiver_wired : (may : Bool) (word : ℕ) (next : ReceiverDeal → Tree) → ((deal : ReceiverDeal) → MayBeWired may (next deal)) → MayBeWired may (reads_receiver word next)
unfolding MayBeWired reads_file
receiver_wired may word next h = λ bytes. decides_wired may (receiver_in word bytes) next h

pub sender_wired : (may : Bool) (word : ℕ) (next : SenderDeal → Tree) → ((deal : SenderDeal) → MayBeWired may (next deal)) → MayBeWired may (reads_sender word next)
unfolding MayBeWired reads_file
sender_wired may word next h = λ bytes. decides_wired may (sender_in word bytes) next h

pub old_wired : (may : Bool) (word : ℕ) (next : OldDeal → Tree) → ((deal : OldDeal) → MayBeWired may (next deal)) → MayBeWired may (reads_old word next)
unfolding MayBeWired reads_file
old_wired may word next h = λ bytes. decides_wired may (old_deal_in word bytes) next h

pub record_wired : (may : Bool) (word : ℕ) (next : LoggedSession → Tree) → ((log : LoggedSession) → MayBeWired may (next log)) → MayBeWired may (reads_record word next)
unfolding MayBeWired reads_record
record_wired may word next h = λ bytes. decides_wired may (record_in bytes) next h

-- ---- what a run ends with

-- every tree ends with a digest or without one
any_wired : (tree : Tree) → MayBeWired true tree
unfolding MayBeWired
any_wired (reads word limit next) = λ bytes. any_wired (next bytes)
any_wired (refuses verdict) = tt
any_wired (places word set next) = λ slots. any_wired (next slots)
any_wired (opens link next) = any_wired next
any_wired (talks d next) = λ bytes. any_wired (next bytes)
any_wired (holds next) = any_wired next
any_wired (ends wire effects) = inl refl

-- only a run that is done has a digest
pub runs_wired : (known : Known) (words : List (List ℕ)) (tree : Tree) (before : Outside) (end : End) → Follows known words false tree before end
    → (end.wire ≡ None) ⊎ (end.status ≡ status.Done)
unfolding MayHave
runs_wired known words tree before end h = so (follows_wired true known words false tree before end (any_wired tree) h)
  where
    so : (end.wire ≡ None) ⊎ ((true ≡ true) × (end.status ≡ status.Done)) → (end.wire ≡ None) ⊎ (end.status ≡ status.Done)
    so (inl none) = inl none
    so (inr done) = inr done.1

-- a tree that runs no session of both ends has none
pub runs_unwired : (known : Known) (words : List (List ℕ)) (tree : Tree) (before : Outside) (end : End) → MayBeWired false tree → Follows known words false tree before end
    → end.wire ≡ None
unfolding MayHave
runs_unwired known words tree before end m h = so (follows_wired false known words false tree before end m h)
  where
    so : (end.wire ≡ None) ⊎ ((false ≡ true) × (end.status ≡ status.Done)) → end.wire ≡ None
    so (inl none) = none
    so (inr done) = absurd (cc done.0)

-- an end without a digest
pub ends_wired : (may : Bool) (effects : List Effect) → MayBeWired may (ends None effects)
unfolding MayBeWired
ends_wired may effects = inr refl
