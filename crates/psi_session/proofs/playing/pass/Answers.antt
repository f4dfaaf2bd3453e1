use Rattle.std.proofs.Common.{Option, subst}
use Rattle.std.specs.declared.result.Result.{Result}
use Rattle.psi_frames.specs.declared.frame.Frame as lent
use Rattle.psi_frames.specs.declared.reasons.BadFrame.{BadFrame}
use Rattle.psi_frames.specs.Boxes.{IsNext, Leaves}
use Rattle.psi_frames.specs.Expected.{seen}
use Rattle.psi_session.proofs.Passing.{held_whole, is_read, lent_whole, owed_enough, passed_by}
use Rattle.psi_frames.proofs.Judged.{one_frame}
use Rattle.psi_session.proofs.playing.pass.Goals as goal

pub returns-clause-passed : goal.returns-clause-passed
returns-clause-passed g c =
    let e = c.args.expect.now in
    let from = g.F.End.state c.args.from.now in
    let to = g.G.End.state c.args.to.now in
    let sent = c.in_ok-fill.ensures in
    let takes = c.in_ok-take.ensures in
    let f = c.requires.sends.0 in
    let whole = held_whole e f from to c.args.inbox.now c.fill.new.inbox c.requires.due c.requires.sends.1 sent.filled in
    let read = subst (λ (r : Result (Option lent.Frame) BadFrame). IsNext c.fill.new.inbox e r) (is_read c.next.result c.in-Ok-Some.field-0 c.in-Ok-Some.frame c.in-Ok-Some.is c.in-Ok-Some.field-0-is) c.next.ensures.answer in
    passed_by e f c.in-Ok-Some.frame from to (g.F.End.keeps c.args.from.now) (g.F.End.keeps c.fill.new.from) (g.G.End.keeps c.args.to.now) (g.G.End.keeps c.take.new.self)
    (g.T.Transcript.hears c.args.transcript.now) (g.T.Transcript.hears c.fill.new.transcript) (g.F.End.state c.fill.new.from) (g.G.End.state c.take.new.self) c.requires.due c.requires.sends.1
    (one_frame e c.fill.new.inbox.held (seen c.in-Ok-Some.frame) f read whole) sent.keeps takes.keeps sent.heard sent.state takes.taken

pub returns-clause-lent : goal.returns-clause-lent
returns-clause-lent g c =
    let e = c.args.expect.now in
    let left = subst (λ (r : Result (Option lent.Frame) BadFrame). Leaves c.fill.new.inbox e r c.next.follows.lender-at-none) (is_read c.next.result c.in-Ok-Some.field-0 c.in-Ok-Some.frame c.in-Ok-Some.is c.in-Ok-Some.field-0-is) c.next.follows.holds-at-none in
    lent_whole e (g.F.End.state c.args.from.now).owes c.args.inbox.now c.fill.new.inbox c.next.follows.lender-at-none c.in_ok-fill.ensures.filled left

pub fill-requires-clause-enough : goal.fill-requires-clause-enough
fill-requires-clause-enough g c =
    owed_enough c.args.expect.now c.requires.sends.0 (g.F.End.state c.args.from.now) (g.G.End.state c.args.to.now) c.requires.due c.requires.sends.1
