use Rattle.std.proofs.Common.{◌≡◌, ◌++◌, ℕ, List, [], false, sym, ap, ◌∙◌}
use Rattle.psi_frames.specs.Boxes.{OutboxState}
use Rattle.psi_sender.specs.declared.memory.Memory.{Memory}
use Rattle.psi_sender.specs.declared.phase.Phase.{Phase}
use Rattle.psi_sender.specs.Running.{Running, running, mid_state, side_over, rest_in, next_of, stage_in}
use Rattle.psi_sender.proofs.Going.{after_tags, is_empty_list}
use Rattle.psi_sender.proofs.session.Session.refill.Goals as goal

pub put_tags-self-inside-requires-clause-answering : goal.put_tags-self-inside-requires-clause-answering
put_tags-self-inside-requires-clause-answering c = c.self.invariant.answering c.in-Tags.list c.in-Tags.block c.in-Tags.is

pub returns-in-Tags-clause-state : goal.returns-in-Tags-clause-state
returns-in-Tags-clause-state c =
    let s = c.self.inside in
    let deal = s.deal.now in
    let ys = s.items.now in
    let list = c.in-Tags.list in
    let block = c.in-Tags.block in
    let old : List (List ℕ) = s.memory.columns.columns in
    let made = c.put_tags-self-inside.new.memory in
    let shown : Phase → Running = running deal ys s.count s.memory in
    let answering = c.self.invariant.answering list block c.in-Tags.is in
    let none : s.memory.outbox.pending ≡ [] =
    ap (λ (r : Running). r.pending) c.self.view_is ∙ (sym c.pending.ensures ∙ is_empty_list c.pending.result.now c.is_empty.result c.if-not-is_empty.false c.is_empty.ensures) in
    let columns = ap (λ (m : Memory). m.columns.columns) c.put_tags-self-inside.ensures.memory in
    let pending = ap (λ (b : OutboxState). b.pending) c.put_tags-self-inside.ensures.outbox in
    let phase = c.put_tags-self-inside.ensures.phase in
    (λ i. record {
      owes = pending i ++ rest_in deal.stash (side_over deal s.count (columns i)) ys (phase i);
      next = next_of deal ys s.count (stage_in (columns i) (phase i));
      is_new = false;
    })
    ∙ (after_tags deal ys s.count s.memory list block none answering.lists answering.blocks
    ∙ ap mid_state (sym (ap shown c.in-Tags.is) ∙ c.self.view_is))
