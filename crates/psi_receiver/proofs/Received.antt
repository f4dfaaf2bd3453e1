-- A session of a receiver that was done: what it showed and wrote down.
use Rattle.std.proofs.Common.{◌≡◌, ◌++◌, ◌∙◌, ℕ, All, List, [], length, Ok, Err, OnOk, refl, sym, ap, ap₂, subst}
use Rattle.std.specs.declared.result.Result.{Result}
use Rattle.std.specs.List.{flat_map}
use Rattle.std.proofs.lemmas.List.{append-nil}
use Rattle.psi_spec.specs.Deals.{ReceiverDeal, IsReceiverDeal}
use Rattle.psi_spec.specs.Frames.{AreBytes, Frame, layout, receiver_hello}
use Rattle.psi_spec.specs.Meeting.{Placed}
use Rattle.psi_spec.specs.Sessions.{wire_bytes}
use Rattle.psi_base.specs.Outside.{Known, Outside}
use Rattle.psi_frames.specs.declared.turns.EndFault.{EndFault}
use Rattle.psi_frames.specs.Converse.{ConversesWith, KeepsAll}
use Rattle.psi_frames.specs.Dialogue.{Talks}
use Rattle.psi_frames.specs.Script.{IsRead, Script, dialogue_of, over, script_of, sends, wire_for}
use Rattle.psi_spec.specs.TagLists.{IsTagList}
use Rattle.psi_receiver.specs.Own.{AreMarked}
use Rattle.psi_receiver.specs.Laws.{IsStreamFor, moves_heard, receiver_dialogue}
use Rattle.psi_receiver.specs.Logging.{KeptLog, LoggedState}
use Rattle.psi_receiver.specs.Receiving.{Received, Receives, hits_of}
use Rattle.psi_receiver.specs.Running.{IsNewReceiver, KeptSince, ReceiverState, Stage, next_of, state_of}
use Rattle.psi_receiver.specs.Script.{receiver_script}
use Rattle.psi_receiver.proofs.Hearing.{AreStream, stream_frames, were_stream, wired_whole}
use Rattle.psi_receiver.proofs.Hits.{shown_are_hits}
use Rattle.psi_receiver.proofs.Holding.{never_over}

-- an end that took nothing yet is one with the receiver's script
pub new_script : (s : ReceiverState) → IsNewReceiver s → script_of (state_of s) ≡ receiver_script s.deal s.placed
unfolding receiver_script
new_script s new =
    ap₂ (λ (owes : List ℕ) (stage : Stage). sends owes (next_of s.deal s.placed stage))
    (ap₂ (λ (pending rest : List ℕ). pending ++ rest) new.pending new.rest ∙ append-nil (layout (receiver_hello s.deal.id s.deal.session (length s.placed)))) new.stage

-- it was itself at first
pub kept_new : (s : ReceiverState) → IsNewReceiver s → KeptSince s s []
kept_new s new = record {
  deal = refl;
  placed = refl;
  marks = λ list m at i l. new.marks list m at i;
  found = λ done. absurd (never_over (sym (ap (next_of s.deal s.placed) new.stage) ∙ done));
  shown = λ done. absurd (never_over (sym (ap (next_of s.deal s.placed) new.stage) ∙ done));
}

-- what is kept once all was taken
pub received : (known : Known) (old new : LoggedState) (before after : Outside) (taken : List ℕ) (frames : List Frame) → IsReceiverDeal old.core.deal
    → Talks known (receiver_dialogue old.core.deal old.core.placed) before (Ok taken) after → IsRead (receiver_script old.core.deal old.core.placed) frames taken
    → KeptLog old new frames (old.log ++ wire_for (receiver_script old.core.deal old.core.placed) frames) → (state_of new.core).owes ≡ [] → (state_of new.core).next ≡ over
    → Received known old.core.deal old.core.placed before old.log new.core.shown new.log after
received known old new before after taken frames is talks read kept none done =
    let deal : ReceiverDeal = old.core.deal in
    let placed : List Placed = old.core.placed in
    let core : KeptSince old.core new.core frames = kept.core in
    let bytes : AreBytes (flat_map layout frames) = subst AreBytes read.bytes talks.0.are_bytes in
    let found : AreStream deal frames = were_stream deal placed frames is bytes read.due in
    let shown = core.found done in
    let hits : new.core.shown ≡ hits_of new.core.deal new.core.placed found.lists =
    shown_are_hits new.core.deal new.core.placed found.count found.lists new.core.lists new.core.shown (subst (λ (d : ReceiverDeal). IsReceiverDeal d) (sym core.deal) is) shown.places
    (subst (λ (d : ReceiverDeal). All (IsTagList d.tag_length found.count) found.lists) (sym core.deal) found.stream.each)
    (subst (λ (fs : List Frame). AreMarked new.core.deal.tag_length fs new.core.lists)
    (found.frames_are ∙ ap (λ (d : ReceiverDeal). stream_frames d found.count found.lists) (sym core.deal)) core.marks)
    shown.many shown.found shown.long in
    let wire : wire_for (receiver_script deal placed) frames ≡ wire_bytes (moves_heard deal placed found.count found.lists) =
    ap (wire_for (receiver_script deal placed)) found.frames_are
    ∙ wired_whole deal placed found.count found.lists (flat_map layout frames) found.stream in
    record {
      count = found.count;
      lists = found.lists;
      taken = taken;
      stream = subst (IsStreamFor deal found.count found.lists) (sym read.bytes) found.stream;
      talked = talks;
      hit = hits ∙ ap₂ (λ (d : ReceiverDeal) (p : List Placed). hits_of d p found.lists) core.deal core.placed;
      logged = kept.log ∙ ap (λ (xs : List ℕ). old.log ++ xs) wire;
    }

-- what a session may answer and leave
pub receives : (known : Known) (old new : LoggedState) (before after : Outside) (r : Result (Unit {0}) EndFault) → IsNewReceiver old.core → IsReceiverDeal old.core.deal
    → ConversesWith known (script_of (state_of old.core)) (KeepsAll (script_of (state_of old.core)) (λ first. KeptLog first old) (λ first. KeptLog first new)) before r after
    → OnOk r ((state_of new.core).owes ≡ []) → OnOk r ((state_of new.core).next ≡ over)
    → Receives known old.core.deal old.core.placed before old.log r new.core.shown new.log after
unfolding receiver_dialogue
receives known old new before after (Ok u) fresh is h none done =
    let told = subst (λ (s : Script). ConversesWith known s (KeepsAll s (λ first. KeptLog first old) (λ first. KeptLog first new)) before (Ok u) after) (new_script old.core fresh) h in
    received known old new before after told.0 told.2 is told.1 told.3 (told.4 old [] old.log (record { core = kept_new old.core fresh; log = refl })) none done
receives known old new before after (Err why) fresh is h none done =
    subst (λ (s : Script). Talks known (dialogue_of s) before (Err why) after) (new_script old.core fresh) h
