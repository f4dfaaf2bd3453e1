use Rattle.std.proofs.Common.{◌≡◌, ◌≤◌, ◌∙◌, ℕ, ◌+◌, List, [], length, take, None, Some, Option, refl, ap, ap₂, sym, subst, arith}
use Rattle.std.proofs.lemmas.List.{length-take-le}
use Rattle.psi_frames.specs.declared.reasons.BadFrame.{BadFrame}
use Rattle.psi_frames.specs.Boxes.{InboxState, with_lent}
use Rattle.psi_frames.specs.Expected.{IsWhole, seen, frame_length, wrong}
use Rattle.psi_frames.proofs.inbox.Inbox.next.Goals as goal

-- an option that is no Some is None
none_left : {A : Type 0} (o : Option A) → ((x : A) → o ≡ Some x → ⊥) → o ≡ None
none_left None h = refl
none_left (Some x) h = absurd (h x refl)

pub returns : goal.returns
returns c =
    let e = c.args.expect.now in
    let inside = c.self.inside in
    let old = c.args.self.now in
    let bytes : List ℕ = inside.bytes.items in
    let kept = c.self.invariant in
    let long : length (take inside.held bytes) ≡ inside.held = length-take-le inside.held bytes kept.0 in
    let is_long : c.frame_length-length.result ≡ frame_length e = c.frame_length-length.ensures in
    let most : length (take inside.held bytes) ≤ frame_length e =
    subst (λ (box : InboxState). length box.held ≤ frame_length e) (sym c.self.view_is) c.requires.held in
    let count : c.frame_length-length.result ≡ inside.held = omega (arith, long, is_long, most, c.if-self-length.false) in
    let none : inside.refused ≡ None = none_left inside.refused c.in_default.not-Some in
    let right : wrong e (take inside.held bytes) ≡ None =
    sym (c.first_fault.ensures ∙ ap (λ (xs : List ℕ). wrong e (take inside.held xs)) c.deref.ensures.value) ∙ none_left c.first_fault.result c.in_default-first_fault.not-Some in
    let whole : IsWhole e (take inside.held bytes) (seen c.frame_of.result) =
    subst (λ (n : ℕ). IsWhole e (take n bytes) (seen c.frame_of.result)) count
    (subst (λ (xs : List ℕ). IsWhole e (take c.frame_length-length.result xs) (seen c.frame_of.result)) c.deref-2.ensures.value c.frame_of.ensures) in
    let view : InboxState = record { room = length bytes; held = take inside.held bytes; offset = inside.offset; refused = inside.refused } in
    let is_none : old.refused ≡ None = sym (ap (λ (box : InboxState). box.refused) c.self.view_is) ∙ none in (
      (
        refl,
        (λ _. tt),
        ap₂ (λ (n : ℕ) (refused : Option BadFrame). record view { held = []; offset = inside.offset + n; refused = refused }) is_long none
            ∙ ap (with_lent e) c.self.view_is,
      ),
      record {
        answer = subst (λ (box : InboxState). IsWhole e box.held (seen c.frame_of.result)) c.self.view_is whole;
        again = rw is_none tt;
        after = tt;
      },
    )
