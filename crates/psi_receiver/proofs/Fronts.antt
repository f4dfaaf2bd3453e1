-- What a receiver sends is a front of its stream.
use Rattle.std.proofs.Common.{◌≡◌, ◌+◌, ◌∙◌, ℕ, suc, zero, Bool, true, false, List, [], ◌++◌, length, take, drop, nat_lt, Option, Some, None, refl, sym, ap, append_assoc}
use Rattle.std.proofs.lemmas.List.{append-nil, take-append-drop, take_at}
use Rattle.psi_spec.specs.Deals.{ReceiverDeal}
use Rattle.psi_spec.specs.Frames.{Frame, layout, receiver_hello, done_frame}
use Rattle.psi_spec.specs.Meeting.{Placed}
use Rattle.psi_spec.specs.Sessions.{dealt_masked}
use Rattle.psi_spec.specs.Streams.{layouts, blocks_for, column_frames, columns_stream, receiver_stream}
use Rattle.psi_frames.specs.declared.expect.Expect.{Expect}
use Rattle.psi_frames.specs.declared.expect.Expect.TheVariants as expect
use Rattle.psi_frames.specs.declared.reasons.Reason.{Reason}
use Rattle.psi_frames.specs.Expected.{frame_at, frame_length, wrong}
use Rattle.psi_frames.specs.Script.{Script, by_fault, by_front, owed}
use Rattle.psi_receiver.specs.Laws.{SendsItsStream, own_stream, receiver_dialogue}
use Rattle.psi_receiver.specs.Script.{answers_hello, awaits_blocks, awaits_lists, count_in, floor_after, no_floor, receiver_script, tags_at}

-- bytes begin with these
abbrev Leads : List ℕ → List ℕ → Type 0
Leads whole front = (rest : List ℕ) × (whole ≡ front ++ rest)

leads_on : (a whole front : List ℕ) → Leads whole front → Leads (a ++ whole) (a ++ front)
leads_on a whole front h = (h.0, ap (λ (xs : List ℕ). a ++ xs) h.1 ∙ sym (append_assoc a front h.0))

-- what was sent of a front is a front
front_of : (n : ℕ) (whole front : List ℕ) → Leads whole front → take (length (take n front)) whole ≡ take n front
front_of n whole front h =
    let sent : List ℕ = take n front in
    let left : List ℕ = drop n front in
    let split : whole ≡ sent ++ (left ++ h.0) =
    h.1 ∙ ap (λ (xs : List ℕ). xs ++ h.0) (sym (take-append-drop n front)) ∙ append_assoc sent left h.0 in
    ap (take (length sent)) split ∙ take_at sent (left ++ h.0) (length sent) refl

-- where a frame is due, nothing is owed, or what follows it
owed_then : (P : List ℕ → Type 0) (e : Expect) (bytes : List ℕ) (whole : Frame → List ℕ) → P [] → ((f : Frame) → P (whole f)) → P (by_front e bytes (λ why. []) [] whole)
owed_then P e bytes whole none some =
    by_case (wrong e (take (frame_length e) bytes)) (nat_lt (length bytes) (frame_length e)) (frame_at e (take (frame_length e) bytes))
  where
    by_case : (o : Option Reason) (few : Bool) (f : Frame) → P (by_fault o few (λ why. []) [] whole f)
    by_case (Some why) few f = none
    by_case None true f = none
    by_case None false f = some f

-- the end
abbrev end : List ℕ
end = layout done_frame

blocks_owe : (width count list block left : ℕ) (floor : List ℕ) (rest : Script) → ((bytes : List ℕ) → Leads end (owed rest bytes))
    → (bytes : List ℕ) → Leads end (owed (awaits_blocks width count list block left floor rest) bytes)
blocks_owe width count list block zero floor rest then bytes = then bytes
blocks_owe width count list block (suc left) floor rest then bytes =
    let e : Expect = expect.Tags list block (tags_at count block) width floor in
    owed_then (Leads end) e bytes (λ f. owed (awaits_blocks width count list (block + 1) left (floor_after width (tags_at count block) f) rest) (drop (frame_length e) bytes)) (end, refl)
    (λ f. blocks_owe width count list (block + 1) left (floor_after width (tags_at count block) f) rest then (drop (frame_length e) bytes))

lists_owe : (width count list left : ℕ) (bytes : List ℕ) → Leads end (owed (awaits_lists width count list left) bytes)
lists_owe width count list zero bytes = ([], sym (append-nil (end ++ []) ∙ append-nil end))
lists_owe width count list (suc left) bytes =
    blocks_owe width count list 0 (blocks_for count) no_floor (awaits_lists width count (list + 1) left) (lists_owe width count (list + 1) left) bytes

receiver_owes : (deal : ReceiverDeal) (placed : List Placed) (bytes : List ℕ) → Leads (own_stream deal placed) ((receiver_dialogue deal placed).owes bytes)
unfolding receiver_dialogue receiver_script receiver_stream columns_stream
receiver_owes deal placed bytes =
    let hello : List ℕ = layout (receiver_hello deal.id deal.session (length placed)) in
    let columns : List ℕ = layouts (column_frames 0 (dealt_masked deal placed)) in
    let e : Expect = expect.SenderHello deal.id deal.session in
    let rest : List ℕ = drop (frame_length e) bytes in
    let answers : Frame → List ℕ = λ f. owed (answers_hello deal placed (count_in f)) rest in
    let behind : Leads (columns ++ end) (by_front e bytes (λ why. []) [] answers) =
    owed_then (Leads (columns ++ end)) e bytes answers (columns ++ end, refl)
    (λ f. leads_on columns end (owed (awaits_lists deal.tag_length (count_in f) 0 (3 + deal.stash)) rest) (lists_owe deal.tag_length (count_in f) 0 (3 + deal.stash) rest)) in
    let all = leads_on hello (columns ++ end) (by_front e bytes (λ why. []) [] answers) behind in
    (all.0, append_assoc hello columns end ∙ all.1)

pub sends_its_stream : SendsItsStream
sends_its_stream deal placed taken n =
    front_of n (own_stream deal placed) ((receiver_dialogue deal placed).owes taken) (receiver_owes deal placed taken)
