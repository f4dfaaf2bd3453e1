use Rattle.std.proofs.Common.{◌∙◌, arith, sym}
use Rattle.psi_session.proofs.Progress.{first_sends, less_after_first, less_after_second, may_expect, played_all, played_by_first, played_by_second, played_none, second_sends}
use Rattle.psi_session.proofs.playing.play.Goals as goal

pub loop-expect-init : goal.loop-expect-init
loop-expect-init g c =
    played_none (g.A.End.state c.args.first.now) (g.B.End.state c.args.second.now) (g.A.End.keeps c.args.first.now) (g.B.End.keeps c.args.second.now) (g.T.Transcript.hears c.args.transcript.now) c.in_ok-inbox.inbox c.requires.can_play
    c.requires.few_for_first c.requires.few_for_second c.in_ok-inbox.ensures

pub pass-requires-clause-sends : goal.pass-requires-clause-sends
pass-requires-clause-sends g c =
    let next = first_sends c.in-Some.expect c.loop-expect.invariant.due (g.A.End.state c.loop-expect.first) (g.B.End.state c.loop-expect.second) (sym c.expect.ensures ∙ c.in-Some.is) c.loop-expect.invariant.left in
    (next.frame, next.sent)

pub pass-requires-clause-may : goal.pass-requires-clause-may
pass-requires-clause-may g c =
    let so_far = c.loop-expect.invariant in
    may_expect c.in-Some.expect c.loop-expect.inbox so_far.first_most so_far.second_most so_far.second_most (g.B.End.state c.loop-expect.second) so_far.roomy (omega arith) (sym c.expect.ensures ∙ c.in-Some.is) so_far.second_few

pub loop-expect-smaller-in-Continue-branch-2 : goal.loop-expect-smaller-in-Continue-branch-2
loop-expect-smaller-in-Continue-branch-2 g c =
    less_after_first c.in-Some.expect (g.A.End.state c.loop-expect.first) (g.B.End.state c.loop-expect.second) (g.A.End.state c.pass.new.from) (g.B.End.state c.pass.new.to) (g.A.End.keeps c.loop-expect.first) (g.A.End.keeps c.pass.new.from)
    (g.B.End.keeps c.loop-expect.second) (g.B.End.keeps c.pass.new.to) (g.T.Transcript.hears c.loop-expect.transcript) (g.T.Transcript.hears c.pass.new.transcript) (sym c.expect.ensures ∙ c.in-Some.is) c.in_ok-pass.ensures.passed

pub loop-expect-preserved-in-Continue-branch-2 : goal.loop-expect-preserved-in-Continue-branch-2
loop-expect-preserved-in-Continue-branch-2 g c =
    played_by_first c.in-Some.expect (g.A.End.state c.args.first.now) (g.B.End.state c.args.second.now) (g.A.End.state c.loop-expect.first) (g.B.End.state c.loop-expect.second) (g.A.End.state c.pass.new.from) (g.B.End.state c.pass.new.to)
    (g.A.End.keeps c.args.first.now) (g.A.End.keeps c.loop-expect.first) (g.A.End.keeps c.pass.new.from) (g.B.End.keeps c.args.second.now) (g.B.End.keeps c.loop-expect.second) (g.B.End.keeps c.pass.new.to)
    (g.T.Transcript.hears c.args.transcript.now) (g.T.Transcript.hears c.loop-expect.transcript) (g.T.Transcript.hears c.pass.new.transcript) c.loop-expect.inbox c.pass.new.inbox c.loop-expect.invariant (sym c.expect.ensures ∙ c.in-Some.is)
    c.in_ok-pass.ensures.passed c.in_ok-pass.ensures.lent

pub pass-requires-in-Some-expect-clause-sends : goal.pass-requires-in-Some-expect-clause-sends
pass-requires-in-Some-expect-clause-sends g c =
    let next = second_sends c.in-Some-expect.expect c.loop-expect.invariant.due (g.A.End.state c.loop-expect.first) (g.B.End.state c.loop-expect.second) (sym c.expect-in_default.ensures ∙ c.in-Some-expect.is) c.loop-expect.invariant.left in
    (next.frame, next.sent)

pub pass-requires-in-Some-expect-clause-may : goal.pass-requires-in-Some-expect-clause-may
pass-requires-in-Some-expect-clause-may g c =
    let so_far = c.loop-expect.invariant in
    may_expect c.in-Some-expect.expect c.loop-expect.inbox so_far.first_most so_far.second_most so_far.first_most (g.A.End.state c.loop-expect.first) so_far.roomy (omega arith) (sym c.expect-in_default.ensures ∙ c.in-Some-expect.is)
    so_far.first_few

pub loop-expect-smaller : goal.loop-expect-smaller
loop-expect-smaller g c =
    less_after_second c.in-Some-expect.expect (g.A.End.state c.loop-expect.first) (g.B.End.state c.loop-expect.second) (g.A.End.state c.pass-in-Some-expect.new.to) (g.B.End.state c.pass-in-Some-expect.new.from) (g.A.End.keeps c.loop-expect.first)
    (g.A.End.keeps c.pass-in-Some-expect.new.to) (g.B.End.keeps c.loop-expect.second) (g.B.End.keeps c.pass-in-Some-expect.new.from) (g.T.Transcript.hears c.loop-expect.transcript)
    (g.T.Transcript.hears c.pass-in-Some-expect.new.transcript) (sym c.expect-in_default.ensures ∙ c.in-Some-expect.is) c.in_ok-pass-2.ensures.passed

pub loop-expect-preserved : goal.loop-expect-preserved
loop-expect-preserved g c =
    played_by_second c.in-Some-expect.expect (g.A.End.state c.args.first.now) (g.B.End.state c.args.second.now) (g.A.End.state c.loop-expect.first) (g.B.End.state c.loop-expect.second) (g.A.End.state c.pass-in-Some-expect.new.to)
    (g.B.End.state c.pass-in-Some-expect.new.from) (g.A.End.keeps c.args.first.now) (g.A.End.keeps c.loop-expect.first) (g.A.End.keeps c.pass-in-Some-expect.new.to) (g.B.End.keeps c.args.second.now) (g.B.End.keeps c.loop-expect.second)
    (g.B.End.keeps c.pass-in-Some-expect.new.from) (g.T.Transcript.hears c.args.transcript.now) (g.T.Transcript.hears c.loop-expect.transcript) (g.T.Transcript.hears c.pass-in-Some-expect.new.transcript) c.loop-expect.inbox
    c.pass-in-Some-expect.new.inbox c.loop-expect.invariant (sym c.expect-in_default.ensures ∙ c.in-Some-expect.is) c.in_ok-pass-2.ensures.passed c.in_ok-pass-2.ensures.lent

pub returns-in_default-expect : goal.returns-in_default-expect
returns-in_default-expect g c = record {
  played =
      played_all (g.A.End.state c.args.first.now) (g.B.End.state c.args.second.now) (g.A.End.state c.loop-expect.first) (g.B.End.state c.loop-expect.second) (g.A.End.keeps c.args.first.now) (g.A.End.keeps c.loop-expect.first)
      (g.B.End.keeps c.args.second.now) (g.B.End.keeps c.loop-expect.second) (g.T.Transcript.hears c.args.transcript.now) (g.T.Transcript.hears c.loop-expect.transcript) c.loop-expect.inbox c.loop-expect.invariant
      (sym c.expect-in_default.ensures ∙ c.in_default-expect.is) (sym c.expect.ensures ∙ c.in_default.is);
}
