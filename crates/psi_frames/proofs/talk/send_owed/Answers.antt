use Rattle.std.proofs.Common.{subst, ◌≡◌, ◌≤◌, List, ℕ, length, take}
use Rattle.psi_base.specs.Outside.{sent_too}
use Rattle.psi_frames.proofs.Sending.{sent_more}
use Rattle.psi_frames.proofs.talk.send_owed.Goals as goal

pub loop-world-preserved : goal.loop-world-preserved
loop-world-preserved g c =
    let outside = g.W.World.outside in
    let state = g.E.End.state in
    let k = c.in_ok-count.count in
    let pending = c.pending-in-loop-world.ensures in
    let sends = c.in_ok-count.ensures in
    sent_more (outside c.args.world.now) (outside c.loop-world.world) (outside c.send.new.self) (state c.args.end.now) (state c.loop-world.end) (state c.sent.new.self)
    (g.E.End.keeps c.args.end.now) (g.E.End.keeps c.loop-world.end) (g.E.End.keeps c.sent.new.self) (g.E.End.front c.loop-world.end) k c.loop-world.invariant pending.pending
    (subst (λ (xs : List ℕ). k ≤ length xs) pending.gives sends.1) (subst (λ (xs : List ℕ). outside c.send.new.self ≡ sent_too (outside c.loop-world.world) (take k xs)) pending.gives sends.2) c.sent.ensures.state c.sent.ensures.keeps
