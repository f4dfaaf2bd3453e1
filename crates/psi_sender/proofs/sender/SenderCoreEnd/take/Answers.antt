use Rattle.std.proofs.Common.{◌≡◌, ◌≤◌, None, sym, ap, subst, ◌∙◌}
use Rattle.psi_spec.specs.Frames.{Frame}
use Rattle.psi_spec.specs.Limits.{limit_items}
use Rattle.psi_frames.specs.declared.expect.Expect.TheVariants as expect
use Rattle.psi_frames.specs.declared.frame.Frame as lent
use Rattle.psi_frames.specs.Expected.{IsValid, seen}
use Rattle.psi_frames.specs.Script.{EndState, MayCome, due_frame}
use Rattle.psi_frames.proofs.FrameAt.{frame_at_layout}
use Rattle.psi_sender.specs.Script.{count_in}
use Rattle.psi_sender.specs.Running.{state_of, state_in, mid_state, begun}
use Rattle.psi_sender.proofs.Coming.{count_that_comes, is_hello}
use Rattle.psi_sender.proofs.Going.{after_hello}
use Rattle.psi_sender.proofs.sender.SenderCoreEnd.take.Goals as goal
use Rattle.psi_sender.proofs.sender.SenderCoreEnd.take.Goals.{in-Some-1, in-None-1}

pub begin-requires : goal.begin-requires
begin-requires c =
    let s = c.self.inside in
    let f : Frame = seen c.args.frame.now in
    let was : state_in s.deal.now s.items.now None ≡ state_of c.args.self.now = ap (state_in s.deal.now s.items.now) (sym c.in-None.is) ∙ ap state_of c.self.view_is in
    let valid : IsValid (expect.ReceiverHello s.deal.now.id s.deal.now.session) f = subst (λ (state : EndState). MayCome (due_frame state) f) (sym was) c.requires in
    subst (λ n. n ≤ limit_items) (ap (λ (g : lent.Frame). count_in (seen g)) c.in-ReceiverHello.is) (count_that_comes s.deal.now.id s.deal.now.session f valid)

pub returns-in_ok-session-in-None-clause-taken : goal.returns-in_ok-session-in-None-clause-taken
returns-in_ok-session-in-None-clause-taken c =
    let s = c.self.inside in
    let f : Frame = seen c.args.frame.now in
    let was : state_in s.deal.now s.items.now None ≡ state_of c.args.self.now = ap (state_in s.deal.now s.items.now) (sym c.in-None.is) ∙ ap state_of c.self.view_is in
    let count = ap (λ (g : lent.Frame). count_in (seen g)) (sym c.in-ReceiverHello.is) in
    let new : mid_state c.in_ok-session-in-None.session ≡ mid_state (begun s.deal.now s.items.now (count_in f)) =
    ap mid_state (c.in_ok-session-in-None.ensures.begun ∙ ap (begun s.deal.now s.items.now) count) in
    let after = new ∙ after_hello s.deal.now s.items.now f (state_of c.args.self.now) c.in_ok-session-in-None.ensures.columns was in
    elim c.match-self-2.branch [ in-Some-1 w ↦ ap state_of w.self-is ∙ after | in-None-1 w ↦ ap state_of w.self-is ∙ after ]

pub returns-in_default : goal.returns-in_default
returns-in_default c =
    let s = c.self.inside in
    let f : Frame = seen c.args.frame.now in
    let was : state_in s.deal.now s.items.now None ≡ state_of c.args.self.now = ap (state_in s.deal.now s.items.now) (sym c.in-None.is) ∙ ap state_of c.self.view_is in
    let valid : IsValid (expect.ReceiverHello s.deal.now.id s.deal.now.session) f = subst (λ (state : EndState). MayCome (due_frame state) f) (sym was) c.requires in
    absurd (is_hello c.args.frame.now _ _ _ c.in_default.not-ReceiverHello (sym (frame_at_layout (expect.ReceiverHello s.deal.now.id s.deal.now.session) f valid)))
