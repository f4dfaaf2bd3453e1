use Rattle.std.proofs.Common.{◌≡◌, ◌-◌, ◌+◌, Err, arith, ap, refl, subst, sym, ◌∙◌, ℕ}
use Rattle.std.specs.declared.result.Result.{Result}
use Rattle.std.proofs.lemmas.Result.{err_from_is_err_and}
use Rattle.psi_frames.specs.declared.turns.EndFault.{EndFault}
use Rattle.psi_frames.specs.Converse.{ConversesWith, KeepsAll, KeepsFrame}
use Rattle.psi_frames.specs.Script.{script_of}
use Rattle.psi_frames.proofs.Standing.{At, at_cut, at_last, at_done, at_next, at_sent, at_start, at_unsent, not_begun}
use Rattle.psi_frames.proofs.talk.converse.Goals as goal

pub returns-in_err-inbox-clause-converses : goal.returns-in_err-inbox-clause-converses
returns-in_err-inbox-clause-converses g c =
    let script = script_of (g.E.End.state c.args.end.now) in
    let before = g.W.World.outside c.args.world.now in
    let failed = err_from_is_err_and c.from_residual.result c.from_residual.ensures.1 in
    subst (λ (r : Result (Unit {0}) EndFault). ConversesWith g.W.World.known script (KeepsAll script (g.E.End.keeps c.args.end.now) (g.E.End.keeps c.args.end.now)) before r before)
    (sym (failed.1 ∙ ap (λ (e : EndFault). Err e) failed.2)) (not_begun g.W.World.known script before)

pub loop-init : goal.loop-init
loop-init g c =
    let known = g.W.World.known in
    let state = g.E.End.state c.args.end.now in
    let before = g.W.World.outside c.args.world.now in
    let box = c.in_ok-inbox.inbox in
    let all : c.args.most_frames ≡ c.args.most_frames - 0 = omega arith in
    record {
      at =
          subst (λ (n : ℕ). At (g.E.End.keeps c.args.end.now) (g.E.End.keeps c.args.end.now) known (script_of state) before 0 n state box before) all
          (at_start (g.E.End.keeps c.args.end.now) known before c.args.most_frames state box c.requires.settled c.requires.few c.in_ok-inbox.ensures);
      buffer = refl;
    }

pub returns-in_err-send_owed-clause-converses : goal.returns-in_err-send_owed-clause-converses
returns-in_err-send_owed-clause-converses g c =
    let known = g.W.World.known in
    let outside = g.W.World.outside in
    let script = script_of (g.E.End.state c.args.end.now) in
    let failed = err_from_is_err_and c.from_residual-in_err-send_owed.result c.from_residual-in_err-send_owed.ensures.1 in
    subst (λ (r : Result (Unit {0}) EndFault). ConversesWith known script (KeepsAll script (g.E.End.keeps c.args.end.now) (g.E.End.keeps c.send_owed.new.end)) (outside c.args.world.now) r (outside c.send_owed.new.world))
    (sym (failed.1 ∙ ap (λ (e : EndFault). Err e) failed.2))
    (at_unsent (g.E.End.keeps c.args.end.now) (g.E.End.keeps c.loop.end) known script (outside c.args.world.now) c.loop.counter (c.args.most_frames - c.loop.counter) (g.E.End.state c.loop.end) c.loop.inbox (outside c.loop.world) (outside c.send_owed.new.world)
    c.in_err-send_owed.field-0.0 c.loop.invariant.at c.in_err-send_owed.ensures.sends)

pub returns-in_default-clause-converses : goal.returns-in_default-clause-converses
returns-in_default-clause-converses g c =
    let outside = g.W.World.outside in
    let state = g.E.End.state in
    at_done (g.E.End.keeps c.args.end.now) (g.E.End.keeps c.loop.end) (g.E.End.keeps c.send_owed.new.end) g.W.World.known (script_of (state c.args.end.now)) (outside c.args.world.now) c.loop.counter (c.args.most_frames - c.loop.counter) (state c.loop.end) (state c.send_owed.new.end)
    c.loop.inbox (outside c.loop.world) (outside c.send_owed.new.world) c.loop.invariant.at c.in_ok-send_owed.ensures.sends c.in_ok-send_owed.ensures.state c.in_ok-send_owed.ensures.keeps
    (sym c.expect.ensures ∙ c.in_default.is)

pub returns-in_err-hear-clause-converses : goal.returns-in_err-hear-clause-converses
returns-in_err-hear-clause-converses g c =
    let known = g.W.World.known in
    let outside = g.W.World.outside in
    let state = g.E.End.state in
    let script = script_of (state c.args.end.now) in
    let left = c.args.most_frames - c.loop.counter in
    let here = at_sent (g.E.End.keeps c.args.end.now) (g.E.End.keeps c.loop.end) (g.E.End.keeps c.send_owed.new.end) known script (outside c.args.world.now) c.loop.counter left (state c.loop.end) (state c.send_owed.new.end) c.loop.inbox (outside c.loop.world) (outside c.send_owed.new.world)
    c.loop.invariant.at c.in_ok-send_owed.ensures.sends c.in_ok-send_owed.ensures.state c.in_ok-send_owed.ensures.keeps in
    let failed = err_from_is_err_and c.from_residual-in_err-hear.result c.from_residual-in_err-hear.ensures.1 in
    subst (λ (r : Result (Unit {0}) EndFault). ConversesWith known script (KeepsAll script (g.E.End.keeps c.args.end.now) (g.E.End.keeps c.hear.new.end)) (outside c.args.world.now) r (outside c.hear.new.world))
    (sym (failed.1 ∙ ap (λ (e : EndFault). Err e) failed.2))
    (at_cut (g.E.End.keeps c.args.end.now) (g.E.End.keeps c.send_owed.new.end) (KeepsFrame (g.E.End.keeps c.send_owed.new.end) (g.E.End.keeps c.hear.new.end)) known script (outside c.args.world.now) c.loop.counter left (state c.send_owed.new.end) (state c.hear.new.end) c.loop.inbox c.hear.new.inbox (outside c.send_owed.new.world) (outside c.hear.new.world)
    c.in-Some.expect c.in_err-hear.field-0.0 here (sym c.expect.ensures ∙ c.in-Some.is) c.in_err-hear.ensures)

pub loop-preserved : goal.loop-preserved
loop-preserved g c =
    let known = g.W.World.known in
    let outside = g.W.World.outside in
    let state = g.E.End.state in
    let script = script_of (state c.args.end.now) in
    let left = c.args.most_frames - c.loop.counter in
    let here = at_sent (g.E.End.keeps c.args.end.now) (g.E.End.keeps c.loop.end) (g.E.End.keeps c.send_owed.new.end) known script (outside c.args.world.now) c.loop.counter left (state c.loop.end) (state c.send_owed.new.end) c.loop.inbox (outside c.loop.world) (outside c.send_owed.new.world)
    c.loop.invariant.at c.in_ok-send_owed.ensures.sends c.in_ok-send_owed.ensures.state c.in_ok-send_owed.ensures.keeps in
    let next = at_next (g.E.End.keeps c.args.end.now) (g.E.End.keeps c.send_owed.new.end) (g.E.End.keeps c.hear.new.end) known script (outside c.args.world.now) c.loop.counter left (state c.send_owed.new.end) (state c.hear.new.end) c.loop.inbox c.hear.new.inbox (outside c.send_owed.new.world) (outside c.hear.new.world)
    c.in-Some.expect here (sym c.expect.ensures ∙ c.in-Some.is) c.in_ok-hear.ensures in
    let one_less : left - 1 ≡ c.args.most_frames - (c.loop.counter + 1) = omega arith in
    record {
      at = subst (λ (n : ℕ). At (g.E.End.keeps c.args.end.now) (g.E.End.keeps c.hear.new.end) known script (outside c.args.world.now) (c.loop.counter + 1) n (state c.hear.new.end) c.hear.new.inbox (outside c.hear.new.world)) one_less next;
      buffer = omega (arith, c.hear.auto.buffer, c.loop.invariant.buffer);
    }

pub returns-clause-converses : goal.returns-clause-converses
returns-clause-converses g c =
    let known = g.W.World.known in
    let outside = g.W.World.outside in
    let state = g.E.End.state in
    let script = script_of (state c.args.end.now) in
    let none : c.args.most_frames - c.loop.counter ≡ 0 = omega arith in
    let here = subst (λ (n : ℕ). At (g.E.End.keeps c.args.end.now) (g.E.End.keeps c.loop.end) known script (outside c.args.world.now) c.loop.counter n (state c.loop.end) c.loop.inbox (outside c.loop.world)) none c.loop.invariant.at in
    at_last (g.E.End.keeps c.args.end.now) (g.E.End.keeps c.loop.end) (g.E.End.keeps c.send_owed-2.new.end) known script (outside c.args.world.now) c.loop.counter (state c.loop.end) (state c.send_owed-2.new.end) c.loop.inbox (outside c.loop.world) (outside c.send_owed-2.new.world) c.send_owed-2.result
    here c.send_owed-2.ensures.sends c.send_owed-2.ensures.state c.send_owed-2.ensures.keeps
