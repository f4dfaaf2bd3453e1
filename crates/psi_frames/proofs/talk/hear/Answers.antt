use Rattle.std.proofs.Common.{Err, Ok, IsTrue, List, [], ℕ, Option, ap, refl, subst, sym, ◌∙◌}
use Rattle.std.specs.declared.result.Result.{Result}
use Rattle.std.proofs.lemmas.Result.{err_from_is_err_and}
use Rattle.psi_frames.specs.declared.expect.Expect.{Expect}
use Rattle.psi_frames.specs.declared.frame.Frame as lent
use Rattle.psi_frames.specs.declared.reasons.BadFrame.{BadFrame}
use Rattle.psi_frames.specs.declared.turns.EndFault.{EndFault}
use Rattle.psi_frames.specs.Boxes.{IsNext, InboxState, Leaves}
use Rattle.psi_frames.specs.Converse.{Hears, KeepsFrame, Took}
use Rattle.psi_frames.specs.Expected.{seen}
use Rattle.psi_frames.specs.Script.{EndState, MayCome, after_taking, due_frame}
use Rattle.psi_frames.proofs.Sending.{CameSoFar, came_none, came_on, heard_of, valid_of}
use Rattle.psi_frames.proofs.talk.hear.Goals as goal

pub loop-inbox-init : goal.loop-inbox-init
loop-inbox-init g c = record {
  came = came_none g.W.World.known c.args.expect.now c.args.inbox.now (g.W.World.outside c.args.world.now) c.requires.may c.requires.empty;
  same = refl;
}

pub returns-in_err-frame : goal.returns-in_err-frame
returns-in_err-frame g c =
    let outside = g.W.World.outside in
    let known = g.W.World.known in
    let state = g.E.End.state in
    let on = came_on known c.args.expect.now c.args.inbox.now c.loop-inbox.inbox c.receive.new.inbox (outside c.args.world.now) (outside c.loop-inbox.world) (outside c.receive.new.world) c.loop-inbox.invariant.came c.in_ok-receive.ensures.fills in
    let refusal = c.in_err-frame.ensures.answer in
    let failed = err_from_is_err_and c.from_residual-in_err-frame.result c.from_residual-in_err-frame.ensures.1 in
    subst (λ (r : Result (Unit {0}) EndFault). Hears known c.args.expect.now (KeepsFrame (g.E.End.keeps c.args.end.now) (g.E.End.keeps c.loop-inbox.end)) (state c.args.end.now) c.args.inbox.now (outside c.args.world.now) r (state c.loop-inbox.end) c.next.follows.lender-at-none (outside c.receive.new.world))
    (sym (failed.1 ∙ ap (λ (e : EndFault). Err e) failed.2))
    (record {
      bytes = c.receive.new.inbox.held;
      within = c.in_ok-receive.ensures.due.held;
      first = refusal.first;
      place = refusal.place ∙ ap (λ (b : InboxState). b.offset) on.1;
      took = on.0;
    })

pub take-requires : goal.take-requires
take-requires g c =
    let e = c.args.expect.now in
    let due = ap due_frame (ap g.E.End.state c.loop-inbox.invariant.same) ∙ c.requires.due in
    let whole = subst (λ (r : Option lent.Frame). IsNext c.receive.new.inbox e (Ok r)) c.in-Some.is c.in_ok-frame.ensures.answer in
    subst (λ (o : Option Expect). MayCome o (seen c.in-Some.frame)) (sym due) (valid_of e c.receive.new.inbox.held (seen c.in-Some.frame) whole)

pub returns-in_err-take : goal.returns-in_err-take
returns-in_err-take g c =
    let outside = g.W.World.outside in
    let known = g.W.World.known in
    let state = g.E.End.state in
    let e = c.args.expect.now in
    let on = came_on known e c.args.inbox.now c.loop-inbox.inbox c.receive.new.inbox (outside c.args.world.now) (outside c.loop-inbox.world) (outside c.receive.new.world) c.loop-inbox.invariant.came c.in_ok-receive.ensures.fills in
    let whole = subst (λ (r : Option lent.Frame). IsNext c.receive.new.inbox e (Ok r)) c.in-Some.is c.in_ok-frame.ensures.answer in
    let failed = err_from_is_err_and c.from_residual-in_err-take.result c.from_residual-in_err-take.ensures.1 in
    subst (λ (r : Result (Unit {0}) EndFault). Hears known e (KeepsFrame (g.E.End.keeps c.args.end.now) (g.E.End.keeps c.take.new.self)) (state c.args.end.now) c.args.inbox.now (outside c.args.world.now) r (state c.take.new.self) c.next.follows.lender-at-none (outside c.receive.new.world))
    (sym (failed.1 ∙ ap (λ (e : EndFault). Err e) failed.2))
    (record {
      frame = seen c.in-Some.frame;
      valid = valid_of e c.receive.new.inbox.held (seen c.in-Some.frame) whole;
      took = subst (λ (xs : List ℕ). Took known e [] (outside c.args.world.now) xs (outside c.receive.new.world)) (sym whole.values) on.0;
      early = subst (λ (s : EndState). IsTrue s.is_new) (ap g.E.End.state c.loop-inbox.invariant.same) c.in_err-take.ensures.early;
    })

pub returns-in-Some : goal.returns-in-Some
returns-in-Some g c =
    let outside = g.W.World.outside in
    let known = g.W.World.known in
    let state = g.E.End.state in
    let e = c.args.expect.now in
    let on = came_on known e c.args.inbox.now c.loop-inbox.inbox c.receive.new.inbox (outside c.args.world.now) (outside c.loop-inbox.world) (outside c.receive.new.world) c.loop-inbox.invariant.came c.in_ok-receive.ensures.fills in
    heard_of known e (KeepsFrame (g.E.End.keeps c.args.end.now) (g.E.End.keeps c.take.new.self)) (state c.args.end.now) (state c.take.new.self) c.args.inbox.now c.receive.new.inbox c.next.follows.lender-at-none (outside c.args.world.now) (outside c.receive.new.world) c.in-Some.frame c.next.result
    on (c.in_ok-frame.was ∙ ap (λ (r : Option lent.Frame). Ok r) c.in-Some.is) c.next.follows.claims.0 c.next.follows.holds-at-none
    (c.in_ok-take.ensures.taken ∙ ap (after_taking (seen c.in-Some.frame)) (ap g.E.End.state c.loop-inbox.invariant.same))
    (subst (λ end. KeepsFrame (g.E.End.keeps end) (g.E.End.keeps c.take.new.self) (seen c.in-Some.frame)) c.loop-inbox.invariant.same c.in_ok-take.ensures.keeps)

pub loop-inbox-preserved : goal.loop-inbox-preserved
loop-inbox-preserved g c =
    let outside = g.W.World.outside in
    let known = g.W.World.known in
    let e = c.args.expect.now in
    let on = came_on known e c.args.inbox.now c.loop-inbox.inbox c.receive.new.inbox (outside c.args.world.now) (outside c.loop-inbox.world) (outside c.receive.new.world) c.loop-inbox.invariant.came c.in_ok-receive.ensures.fills in
    let begun = subst (λ (r : Option lent.Frame). IsNext c.receive.new.inbox e (Ok r)) c.in_default.is c.in_ok-frame.ensures.answer in
    let left = subst (λ (r : Result (Option lent.Frame) BadFrame). Leaves c.receive.new.inbox e r c.next.follows.lender-at-none)
    (c.in_ok-frame.was ∙ ap (λ (r : Option lent.Frame). Ok r) c.in_default.is) c.next.follows.holds-at-none in
    record {
      came = subst (λ (b : InboxState). CameSoFar known e c.args.inbox.now (outside c.args.world.now) b (outside c.receive.new.world)) (sym left)
          (record { took = on.0; same = on.1; begun = begun; may = c.in_ok-receive.ensures.due });
      same = c.loop-inbox.invariant.same;
    }
