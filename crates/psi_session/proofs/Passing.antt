-- A frame that one end owes and the other awaits.
use Rattle.std.proofs.Common.{◌≡◌, ◌≤◌, ◌∙◌, ℕ, List, [], length, take, Option, Some, Ok, sym, ap, subst, arith, length-take}
use Rattle.std.specs.declared.result.Result.{Result}
use Rattle.psi_spec.specs.Frames.{Frame, layout}
use Rattle.psi_frames.specs.declared.expect.Expect.{Expect}
use Rattle.psi_frames.specs.declared.frame.Frame as lent
use Rattle.psi_frames.specs.declared.reasons.BadFrame.{BadFrame}
use Rattle.psi_frames.specs.Boxes.{InboxState, with_lent}
use Rattle.psi_frames.specs.Converse.{KeepsFrame}
use Rattle.psi_frames.specs.Expected.{IsValid, IsWhole, frame_length, seen}
use Rattle.psi_frames.specs.Script.{EndState, Keeps, KeepsOn, MayCome, after_sending, after_taking, due_frame}
use Rattle.psi_session.specs.Playing.{HasPassed, Sends}
use Rattle.psi_session.specs.Transcripts.{Hearing, HearsOn}

-- a frame that one end sends is the one that is due, and so it may come
pub sent_valid : (e : Expect) (f : Frame) (from to : EndState) → due_frame to ≡ Some e → Sends f from to → IsValid e f
sent_valid e f from to due sends = subst (λ (o : Option Expect). MayCome o f) due sends.due

-- it is owed whole
pub sent_front : (e : Expect) (f : Frame) (from to : EndState) → due_frame to ≡ Some e → Sends f from to → take (frame_length e) from.owes ≡ layout f
sent_front e f from to due sends =
    let valid : IsValid e f = sent_valid e f from to due sends in
    ap (λ (n : ℕ). take n from.owes) (sym valid.long) ∙ sends.owes

pub owed_enough : (e : Expect) (f : Frame) (from to : EndState) → due_frame to ≡ Some e → Sends f from to → frame_length e ≤ length from.owes
owed_enough e f from to due sends =
    let valid : IsValid e f = sent_valid e f from to due sends in
    omega (arith, valid.long, ap length (sent_front e f from to due sends), length-take (frame_length e) from.owes)

-- so an inbox that holds it holds a whole frame
pub held_whole : (e : Expect) (f : Frame) (from to : EndState) (box box' : InboxState) → due_frame to ≡ Some e → Sends f from to → box' ≡ record box { held = take (frame_length e) from.owes } → IsWhole e box'.held f
held_whole e f from to box box' due sends filled =
    let held : box'.held ≡ layout f = ap (λ (b : InboxState). b.held) filled ∙ sent_front e f from to due sends in
    subst (λ (xs : List ℕ). IsWhole e xs f) (sym held) (sent_valid e f from to due sends)

-- a frame is answered
pub is_read : (r : Result (Option lent.Frame) BadFrame) (o : Option lent.Frame) (g : lent.Frame) → r ≡ Ok o → o ≡ Some g → r ≡ Ok (Some g)
is_read r o g is some = is ∙ ap (λ (x : Option lent.Frame). Ok x) some

-- once it is lent, the inbox is as it was, and stands behind the frame
pub lent_whole : (e : Expect) (owes : List ℕ) (box box' box'' : InboxState) → box' ≡ record box { held = take (frame_length e) owes } → box'' ≡ with_lent e box' → box'' ≡ with_lent e box
lent_whole e owes box box' box'' filled left = left ∙ ap (λ (b : InboxState). with_lent e b) filled

-- and then it was passed
pub passed_by : {F G T : Type 0} (e : Expect) (f : Frame) (g : lent.Frame) (from to : EndState) (keeps keeps' : Keeps F) (takes takes' : Keeps G) (hears hears' : Hearing T) (from' to' : EndState)
    → due_frame to ≡ Some e → Sends f from to → seen g ≡ f → KeepsOn keeps keeps' [] (take (frame_length e) from.owes) → KeepsFrame takes takes' (seen g)
    → HearsOn hears hears' (take (frame_length e) from.owes) → from' ≡ after_sending (frame_length e) from → to' ≡ after_taking (seen g) to
    → HasPassed from to keeps keeps' takes takes' hears hears' from' to'
passed_by e f g from to keeps keeps' takes takes' hears hears' from' to' due sends same kept took heard sent taken =
    let valid : IsValid e f = sent_valid e f from to due sends in
    let front : take (frame_length e) from.owes ≡ layout f = sent_front e f from to due sends in
    record {
      frame = f;
      sends = sends;
      sender = subst (λ (xs : List ℕ). KeepsOn keeps keeps' [] xs) front kept;
      taker = subst (λ (x : Frame). KeepsFrame takes takes' x) same took;
      heard = subst (λ (xs : List ℕ). HearsOn hears hears' xs) front heard;
      sent = sent ∙ ap (λ (n : ℕ). after_sending n from) (sym valid.long);
      taken = taken ∙ ap (λ (x : Frame). after_taking x to) same;
    }
