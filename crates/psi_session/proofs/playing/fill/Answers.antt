use Rattle.std.proofs.Common.{◌≡◌, ◌<◌, List, ℕ, arith, length, subst, take}
use Rattle.psi_frames.specs.Boxes.{after_feed, missing_of, taken_of}
use Rattle.psi_session.specs.Transcripts.{HearsOn}
use Rattle.psi_session.proofs.Filling.{filled_all, filled_more, less_wanted}
use Rattle.psi_session.proofs.playing.fill.Goals as goal

pub loop-from-preserved : goal.loop-from-preserved
loop-from-preserved g c =
    let state = g.F.End.state in
    let keeps = g.F.End.keeps in
    let hears = g.T.Transcript.hears in
    let e = c.args.expect.now in
    let pending = c.pending-pending.result.now in
    let front : pending ≡ g.F.End.front c.loop-from.from = c.pending-pending.ensures.gives in
    filled_more e (state c.args.from.now) (state c.loop-from.from) (state c.sent.new.self) (keeps c.args.from.now) (keeps c.loop-from.from) (keeps c.sent.new.self) c.args.inbox.now c.loop-from.inbox c.feed-count.new.self
    (hears c.args.transcript.now) (hears c.loop-from.transcript) (hears c.add.new.self) (g.F.End.front c.loop-from.from) c.feed-count.result c.loop-from.invariant c.pending-pending.ensures.pending
    (subst (λ (xs : List ℕ). c.feed-count.result ≡ taken_of c.loop-from.inbox e (length xs)) front c.feed-count.ensures.taken)
    (subst (λ (xs : List ℕ). c.feed-count.new.self ≡ after_feed e xs c.loop-from.inbox) front c.feed-count.ensures.fed) c.feed-count.ensures.more c.sent.ensures.state c.sent.ensures.keeps
    (subst (λ (xs : List ℕ). HearsOn (hears c.loop-from.transcript) (hears c.add.new.self) (take c.feed-count.result xs)) front c.in_ok-add.ensures)

pub loop-from-smaller : goal.loop-from-smaller
loop-from-smaller g c =
    let state = g.F.End.state in
    let keeps = g.F.End.keeps in
    let hears = g.T.Transcript.hears in
    let e = c.args.expect.now in
    let front : c.pending-pending.result.now ≡ g.F.End.front c.loop-from.from = c.pending-pending.ensures.gives in
    let wanted : 0 < missing_of c.loop-from.inbox e = omega (arith, c.loop-from-test.true, c.missing.ensures.exact) in
    less_wanted e (state c.args.from.now) (state c.loop-from.from) (keeps c.args.from.now) (keeps c.loop-from.from) c.args.inbox.now c.loop-from.inbox c.feed-count.new.self (hears c.args.transcript.now) (hears c.loop-from.transcript)
    (g.F.End.front c.loop-from.from) c.loop-from.invariant c.requires.enough wanted c.pending-pending.ensures.pending (subst (λ (xs : List ℕ). c.feed-count.new.self ≡ after_feed e xs c.loop-from.inbox) front c.feed-count.ensures.fed)

pub returns : goal.returns
returns g c =
    let none : missing_of c.loop-from.inbox c.args.expect.now ≡ 0 = omega (arith, c.loop-from-test.false, c.missing.ensures.exact) in
    let all =
    filled_all c.args.expect.now (g.F.End.state c.args.from.now) (g.F.End.state c.loop-from.from) (g.F.End.keeps c.args.from.now) (g.F.End.keeps c.loop-from.from) c.args.inbox.now c.loop-from.inbox
    (g.T.Transcript.hears c.args.transcript.now) (g.T.Transcript.hears c.loop-from.transcript) c.loop-from.invariant none in
    record { filled = all.filled; may = all.may; state = all.state; keeps = all.keeps; heard = all.heard }
