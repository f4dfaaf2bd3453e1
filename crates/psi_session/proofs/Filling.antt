-- A frame that is brought into an inbox, piece by piece.
use Rattle.std.proofs.Common.{◌≡◌, ◌<◌, ◌≤◌, ◌+◌, ◌-◌, ◌∙◌, ℕ, List, [], ◌∷◌, ◌++◌, length, take, drop, min, Option, None, refl, sym, ap, ap₂, subst, arith, append_assoc, length-append}
use Rattle.std.specs.Option.{option_map_or}
use Rattle.std.proofs.Math.Seq.{take-add}
use Rattle.std.proofs.lemmas.List.{append-nil, drop-drop, length-drop, length-take, length-take-le, take-take}
use Rattle.psi_frames.specs.declared.expect.Expect.{Expect}
use Rattle.psi_frames.specs.declared.reasons.BadFrame.{BadFrame}
use Rattle.psi_frames.specs.Boxes.{InboxState, MayExpect, after_feed, missing_of, taken_of}
use Rattle.psi_frames.specs.Expected.{frame_length}
use Rattle.psi_frames.specs.Script.{EndState, IsPending, Keeps, KeepsOn, after_sending}
use Rattle.psi_frames.proofs.Sending.{keeps_on-more, keeps_on-none}
use Rattle.psi_session.specs.Transcripts.{Hearing, HearsOn}

-- ---- what a transcript heard

-- it goes on with nothing
pub hears_on-none : {T : Type 0} (hears : Hearing T) → HearsOn hears hears []
hears_on-none hears first before h = subst (λ (xs : List ℕ). hears first xs) (sym (append-nil before)) h

-- it goes on twice
pub hears_on-more : {T : Type 0} (first mid last : Hearing T) (xs ys : List ℕ) → HearsOn first mid xs → HearsOn mid last ys → HearsOn first last (xs ++ ys)
hears_on-more first mid last xs ys a b origin before h =
    subst (λ (bytes : List ℕ). last origin bytes) (append_assoc before xs ys) (b origin (before ++ xs) (a origin before h))

-- ---- what came so far

-- what came into the inbox is a front of what was owed, was sent, and was heard by the transcript
pub record FilledSoFar {X T : Type 0} (e : Expect) (state : EndState) (first : Keeps X) (box : InboxState) (hears : Hearing T) (state' : EndState) (keeps : Keeps X) (box' : InboxState) (hears' : Hearing T) : Type 0 where
  pub may : MayExpect box' e
  pub calm : box'.refused ≡ None
  pub same : box' ≡ record box { held = box'.held }
  pub front : box'.held ≡ take (length box'.held) state.owes
  pub left : state' ≡ after_sending (length box'.held) state
  pub kept : KeepsOn first keeps [] box'.held
  pub heard : HearsOn hears hears' box'.held

pub filled_none : {X T : Type 0} (e : Expect) (state : EndState) (keeps : Keeps X) (box : InboxState) (hears : Hearing T) → MayExpect box e → box.held ≡ [] → box.refused ≡ None
    → FilledSoFar e state keeps box hears state keeps box hears
filled_none e state keeps box hears may empty calm = record {
  may = may;
  calm = calm;
  same = refl;
  front = empty ∙ ap (λ (xs : List ℕ). take (length xs) state.owes) (sym empty);
  left = ap (λ (xs : List ℕ). after_sending (length xs) state) (sym empty);
  kept = subst (λ (xs : List ℕ). KeepsOn keeps keeps [] xs) (sym empty) (keeps_on-none keeps);
  heard = subst (λ (xs : List ℕ). HearsOn hears hears xs) (sym empty) (hears_on-none hears);
}

-- what a calm inbox still wants
pub missing_calm : (e : Expect) (box : InboxState) → box.refused ≡ None → missing_of box e ≡ frame_length e - length box.held
missing_calm e box calm = ap (λ (o : Option BadFrame). option_map_or (λ (_ : BadFrame). 0) o (frame_length e - length box.held)) calm

-- something is owed while the inbox wants more
pub some_owed : {X T : Type 0} (e : Expect) (state state' : EndState) (first keeps : Keeps X) (box box' : InboxState) (hears hears' : Hearing T) (pending : List ℕ)
    → FilledSoFar e state first box hears state' keeps box' hears' → frame_length e ≤ length state.owes → 0 < missing_of box' e → IsPending pending state'.owes → 0 < length pending
some_owed e state state' first keeps box box' hears hears' [] so_far enough wanted is =
    let owes : state'.owes ≡ drop (length box'.held) state.owes = ap (λ (s : EndState). s.owes) so_far.left in
    let none : state'.owes ≡ [] = is.some refl in
    absurd (omega (arith, ap length none, ap length owes, length-drop (length box'.held) state.owes, missing_calm e box' so_far.calm, enough, wanted))
some_owed e state state' first keeps box box' hears hears' (x ∷ pending) so_far enough wanted is = omega arith

-- and so less is wanted after each piece
pub less_wanted : {X T : Type 0} (e : Expect) (state state' : EndState) (first keeps : Keeps X) (box box' box'' : InboxState) (hears hears' : Hearing T) (pending : List ℕ) → FilledSoFar e state first box hears state' keeps box' hears'
    → frame_length e ≤ length state.owes → 0 < missing_of box' e → IsPending pending state'.owes → box'' ≡ after_feed e pending box' → frame_length e - length box''.held < frame_length e - length box'.held
less_wanted e state state' first keeps box box' box'' hears hears' pending so_far enough wanted is fed =
    let some = some_owed e state state' first keeps box box' hears hears' pending so_far enough wanted is in
    let count : ℕ = taken_of box' e (length pending) in
    let held : length box''.held ≡ length box'.held + length (take count pending) =
    ap (λ (b : InboxState). length b.held) fed ∙ length-append box'.held (take count pending) in
    let long : length (take count pending) ≡ min count (length pending) = length-take count pending in
    omega (arith, some, held, long, missing_calm e box' so_far.calm, wanted)

-- one more piece came
pub filled_more : {X T : Type 0} (e : Expect) (state state' state'' : EndState) (first keeps keeps' : Keeps X) (box box' box'' : InboxState) (hears hears' hears'' : Hearing T) (pending : List ℕ) (count : ℕ)
    → FilledSoFar e state first box hears state' keeps box' hears' → IsPending pending state'.owes → count ≡ taken_of box' e (length pending) → box'' ≡ after_feed e pending box' → MayExpect box'' e
    → state'' ≡ after_sending count state' → KeepsOn keeps keeps' [] (take count pending) → HearsOn hears' hears'' (take count pending)
    → FilledSoFar e state first box hears state'' keeps' box'' hears''
filled_more e state state' state'' first keeps keeps' box box' box'' hears hears' hears'' pending count so_far is counts fed may after kept heard =
    let n = length box'.held in
    let piece : List ℕ = take count pending in
    let held : box''.held ≡ box'.held ++ piece =
    ap (λ (b : InboxState). b.held) fed ∙ ap (λ (k : ℕ). box'.held ++ take k pending) (sym counts) in
    let few : count ≤ length pending = omega (arith, counts) in
    let owes : state'.owes ≡ drop n state.owes = ap (λ (s : EndState). s.owes) so_far.left in
    let front : piece ≡ take count (drop n state.owes) =
    ap (take count) (sym is.front) ∙ take-take count (length pending) state'.owes few ∙ ap (take count) owes in
    let long : length box''.held ≡ n + count = omega (arith, ap length held, length-append box'.held piece, length-take-le count pending few) in
    record {
      may = may;
      calm = ap (λ (b : InboxState). b.refused) fed ∙ so_far.calm;
      same = fed ∙ ap (λ (b : InboxState). record b { held = (after_feed e pending box').held }) so_far.same ∙ ap (λ (xs : List ℕ). record box { held = xs }) (sym (ap (λ (b : InboxState). b.held) fed));
      front = held ∙ ap₂ (λ (xs ys : List ℕ). xs ++ ys) so_far.front front ∙ sym (take-add n count state.owes) ∙ ap (λ (k : ℕ). take k state.owes) (sym long);
      left = after ∙ ap (after_sending count) so_far.left ∙ ap (λ (xs : List ℕ). record state { owes = xs }) (drop-drop count n state.owes) ∙ ap (λ (k : ℕ). after_sending k state) (sym long);
      kept = subst (λ (xs : List ℕ). KeepsOn first keeps' [] xs) (sym held) (keeps_on-more first keeps keeps' [] [] box'.held piece so_far.kept kept);
      heard = subst (λ (xs : List ℕ). HearsOn hears hears'' xs) (sym held) (hears_on-more hears hears' hears'' box'.held piece so_far.heard heard);
    }

-- a frame was brought into the inbox: it is what was owed first
pub record Filled {X T : Type 0} (e : Expect) (old : EndState) (kept : Keeps X) (box : InboxState) (hears : Hearing T) (new : EndState) (kept' : Keeps X) (box' : InboxState) (hears' : Hearing T) : Type 0 where
  pub filled : box' ≡ record box { held = take (frame_length e) old.owes }
  pub may : MayExpect box' e
  pub state : new ≡ after_sending (frame_length e) old
  pub keeps : KeepsOn kept kept' [] (take (frame_length e) old.owes)
  pub heard : HearsOn hears hears' (take (frame_length e) old.owes)

-- so it is once no more is wanted
pub filled_all : {X T : Type 0} (e : Expect) (state state' : EndState) (first keeps : Keeps X) (box box' : InboxState) (hears hears' : Hearing T)
    → FilledSoFar e state first box hears state' keeps box' hears' → missing_of box' e ≡ 0 → Filled e state first box hears state' keeps box' hears'
filled_all e state state' first keeps box box' hears hears' so_far none =
    let long : length box'.held ≡ frame_length e = omega (arith, none, missing_calm e box' so_far.calm, so_far.may.held) in
    let all : box'.held ≡ take (frame_length e) state.owes = so_far.front ∙ ap (λ (n : ℕ). take n state.owes) long in
    record {
      filled = so_far.same ∙ ap (λ (xs : List ℕ). record box { held = xs }) all;
      may = so_far.may;
      state = so_far.left ∙ ap (λ (n : ℕ). after_sending n state) long;
      keeps = subst (λ (xs : List ℕ). KeepsOn first keeps [] xs) all so_far.kept;
      heard = subst (λ (xs : List ℕ). HearsOn hears hears' xs) all so_far.heard;
    }
