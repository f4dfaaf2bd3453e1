use Rattle.std.proofs.Common.{arith, drop, length-take}
use Rattle.psi_frames.proofs.Sending.{came_of}
use Rattle.psi_frames.proofs.talk.receive.Goals as goal

pub returns-clause-fills : goal.returns-clause-fills
returns-clause-fills g c =
    let outside = g.W.World.outside in
    let room = c.min-room.result in
    let buffer = c.args.buffer.now in
    came_of g.W.World.known c.args.expect.now c.args.inbox.now c.feed.new.self (outside c.args.world.now) (outside c.recv.new.self) c.recv.new.buf (drop room buffer)
    c.in_ok-count.count c.in_ok-count.ensures (omega arith) c.requires.due c.requires.begun (omega (arith, c.recv.auto.buf, c.min-room.ensures, c.missing.ensures.exact, length-take room buffer)) c.feed.ensures.fed c.feed.ensures.are_bytes
