-- The loops of a session: what was sent so far, and what came so far.
use Rattle.std.proofs.Common.{◌≡◌, ◌<◌, ◌≤◌, ◌+◌, ◌-◌, ◌∙◌, ℕ, List, [], ◌++◌, length, take, drop, Option, Some, None, Ok, refl, sym, ap, ap₂, subst, arith, append_assoc, length-append}
use Rattle.std.specs.declared.result.Result.{Result}
use Rattle.std.specs.Option.{option_map_or}
use Rattle.std.proofs.Math.Seq.{take-add}
use Rattle.std.proofs.lemmas.List.{append-nil, drop-drop, length-drop, length-take, length-take-le, take-append-le, take-take, take_all}
use Rattle.psi_base.specs.Outside.{Known, Outside, Received, sent_too}
use Rattle.psi_spec.specs.Frames.{AreBytes, Frame}
use Rattle.psi_frames.specs.declared.expect.Expect.{Expect}
use Rattle.psi_frames.specs.declared.frame.Frame as lent
use Rattle.psi_frames.specs.declared.reasons.BadFrame.{BadFrame}
use Rattle.psi_frames.specs.Boxes.{IsNext, InboxState, Leaves, MayExpect, after_feed, missing_of, taken_of, with_lent}
use Rattle.psi_frames.specs.Converse.{Came, Heard, Took}
use Rattle.psi_frames.specs.Expected.{IsBegun, IsValid, IsWhole, frame_length, seen, wrong}
use Rattle.psi_frames.specs.Script.{EndState, IsPending, Keeps, KeepsOn, after_sending, after_taking}
use Rattle.psi_frames.proofs.Scripts.{wanted_of-begun}
use Rattle.psi_frames.proofs.Taken.{received, sent_twice, took_more, took_none}

-- ---- what an end keeps

-- it goes on with nothing
pub keeps_on-none : {X : Type 0} (keeps : Keeps X) → KeepsOn keeps keeps [] []
keeps_on-none keeps origin before wire h =
    subst (λ (xs : List ℕ). keeps origin (before ++ []) xs) (sym (append-nil wire)) (subst (λ (fs : List Frame). keeps origin fs wire) (sym (append-nil before)) h)

-- it goes on twice
pub keeps_on-more : {X : Type 0} (first mid last : Keeps X) (fs gs : List Frame) (xs ys : List ℕ) → KeepsOn first mid fs xs → KeepsOn mid last gs ys → KeepsOn first last (fs ++ gs) (xs ++ ys)
keeps_on-more first mid last fs gs xs ys a b origin before wire h =
    subst (λ (bytes : List ℕ). last origin (before ++ (fs ++ gs)) bytes) (append_assoc wire xs ys)
    (subst (λ (frames : List Frame). last origin frames (wire ++ xs ++ ys)) (append_assoc before fs gs) (b origin (before ++ fs) (wire ++ xs) (a origin before wire h)))

-- ---- what was sent so far

-- so many of the owed bytes were sent, and the rest is still owed
pub record SentSoFar {X : Type 0} (old : Outside) (state : EndState) (first : Keeps X) (now : Outside) (state' : EndState) (keeps : Keeps X) : Type 0 where
  pub count : ℕ
  pub within : count ≤ length state.owes
  pub sent : now ≡ sent_too old (take count state.owes)
  pub left : state' ≡ after_sending count state
  pub kept : KeepsOn first keeps [] (take count state.owes)

pub sent_more : {X : Type 0} (old mid new : Outside) (state state' state'' : EndState) (first keeps keeps' : Keeps X) (pending : List ℕ) (k : ℕ) → SentSoFar old state first mid state' keeps → IsPending pending state'.owes
    → k ≤ length pending → new ≡ sent_too mid (take k pending) → state'' ≡ after_sending k state' → KeepsOn keeps keeps' [] (take k pending) → SentSoFar old state first new state'' keeps'
sent_more old mid new state state' state'' first keeps keeps' pending k so_far is few sends after kept =
    let n = so_far.count in
    let owes : state'.owes ≡ drop n state.owes = ap (λ (s : EndState). s.owes) so_far.left in
    let front : take k pending ≡ take k (drop n state.owes) =
    ap (take k) (sym is.front) ∙ take-take k (length pending) state'.owes few ∙ ap (take k) owes in
    let long : length pending ≤ length state.owes - n =
    omega (arith, ap length is.front, length-take (length pending) state'.owes, ap length owes, length-drop n state.owes) in
    record {
      count = n + k;
      within = omega (arith, few, long, so_far.within);
      sent =
          sends ∙ ap₂ (λ (o : Outside) (xs : List ℕ). sent_too o xs) so_far.sent front
          ∙ (sent_twice old (take n state.owes) (take k (drop n state.owes)) ∙ ap (sent_too old) (sym (take-add n k state.owes)));
      left = after ∙ ap (after_sending k) so_far.left ∙ ap (λ (xs : List ℕ). record state { owes = xs }) (drop-drop k n state.owes);
      kept =
          subst (λ (xs : List ℕ). KeepsOn first keeps' [] xs) (ap (λ (xs : List ℕ). take n state.owes ++ xs) front ∙ sym (take-add n k state.owes))
          (keeps_on-more first keeps keeps' [] [] (take n state.owes) (take k pending) so_far.kept kept);
    }

missing_by : (refused : Option BadFrame) (n : ℕ) → option_map_or (λ (_ : BadFrame). 0) refused n ≤ n
missing_by None n = omega arith
missing_by (Some bad) n = omega arith

-- what one receive brings into the inbox
pub came_of : (known : Known) (e : Expect) (box box' : InboxState) (old new : Outside) (buffer rest : List ℕ) (count : ℕ)
    → Received known old count buffer new → 0 < count → MayExpect box e → IsBegun e box.held → length buffer ≤ missing_of box e → box' ≡ after_feed e (take count (buffer ++ rest)) box
    → AreBytes (take count (buffer ++ rest)) → Came known e box old box' new
came_of known e box box' old new buffer rest count took some may begun few fed small =
    let piece : List ℕ = take count buffer in
    let same : take count (buffer ++ rest) ≡ piece = take-append-le count buffer rest took.within in
    let long : length piece ≡ count = length-take-le count buffer took.within in
    let missing : missing_of box e ≤ frame_length e - length box.held = missing_by box.refused (frame_length e - length box.held) in
    let all : taken_of box e (length piece) ≡ length piece = omega (arith, long, few, took.within) in
    let held : take (taken_of box e (length piece)) piece ≡ piece = ap (λ (n : ℕ). take n piece) all ∙ take_all (length piece) piece (omega arith) in
    record {
      piece = piece;
      some = omega (arith, long, some);
      within = omega (arith, long, missing, few, took.within, length-append box.held piece, may.held, some);
      took = received known e box.held old new count buffer some (omega (arith, wanted_of-begun e box.held begun, missing, few, took.within)) (subst AreBytes same small) took;
      held = fed ∙ ap (λ (xs : List ℕ). after_feed e xs box) same ∙ ap (λ (xs : List ℕ). record box { held = box.held ++ xs }) held;
    }

-- what came so far begins the frame that is due, and is held
pub record CameSoFar (known : Known) (e : Expect) (box : InboxState) (old : Outside) (box' : InboxState) (now : Outside) : Type 0 where
  pub took : Took known e [] old box'.held now
  pub same : box' ≡ record box { held = box'.held }
  pub begun : IsBegun e box'.held
  pub may : MayExpect box' e

-- no frame is empty, and nothing is wrong with no bytes
pub nothing_wrong : (e : Expect) → wrong e [] ≡ None
unfolding wrong
nothing_wrong e = refl

pub came_none : (known : Known) (e : Expect) (box : InboxState) (o : Outside) → MayExpect box e → box.held ≡ [] → CameSoFar known e box o box o
came_none known e box o may empty = record {
  took = subst (λ (xs : List ℕ). Took known e [] o xs o) (sym empty) (took_none known e [] o);
  same = refl;
  begun = record { short = omega (arith, ap length empty); right = ap (wrong e) empty ∙ nothing_wrong e };
  may = may;
}

-- with what one receive brought
pub came_on : (known : Known) (e : Expect) (box box' box'' : InboxState) (old mid new : Outside) → CameSoFar known e box old box' mid → Came known e box' mid box'' new
    → Took known e [] old box''.held new × (box'' ≡ record box { held = box''.held })
came_on known e box box' box'' old mid new so_far more =
    let held : box''.held ≡ box'.held ++ more.piece = ap (λ (b : InboxState). b.held) more.held in (
      subst (λ (xs : List ℕ). Took known e [] old xs new) (sym held) (took_more known e old mid new [] box'.held more.piece so_far.took more.took),
      more.held ∙ ap (λ (b : InboxState). record b { held = box'.held ++ more.piece }) so_far.same ∙ ap (λ (xs : List ℕ). record box { held = xs }) (sym held),
    )

-- a whole frame is its layout
pub valid_of : (e : Expect) (bytes : List ℕ) (f : Frame) → IsWhole e bytes f → IsValid e f
valid_of e bytes f whole = subst (λ (xs : List ℕ). IsWhole e xs f) (sym whole.values) whole

-- the frame that came whole is the one that is due
pub heard_of : (known : Known) (e : Expect) (Told : Frame → Type 0) (state state' : EndState) (box box' box'' : InboxState) (old new : Outside) (frame : lent.Frame) (r : Result (Option lent.Frame) BadFrame)
    → Took known e [] old box'.held new × (box' ≡ record box { held = box'.held }) → r ≡ Ok (Some frame) → IsNext box' e r → Leaves box' e r box''
    → state' ≡ after_taking (seen frame) state → Told (seen frame) → Heard known e Told state box old state' box'' new
heard_of known e Told state state' box box' box'' old new frame r on is answer leaves takes told =
    let whole : IsWhole e box'.held (seen frame) = subst (λ (x : Result (Option lent.Frame) BadFrame). IsNext box' e x) is answer in
    let left : box'' ≡ with_lent e box' = subst (λ (x : Result (Option lent.Frame) BadFrame). Leaves box' e x box'') is leaves in
    record {
      frame = seen frame;
      valid = valid_of e box'.held (seen frame) whole;
      took = subst (λ (xs : List ℕ). Took known e [] old xs new) (sym whole.values) on.0;
      goes_on = takes;
      lent = left ∙ ap (with_lent e) on.1;
      told = told;
    }
