use Rattle.std.proofs.Common.{◌≤◌, length, sym, ap, subst, ◌∙◌}
use Rattle.psi_frames.specs.Boxes.{OutboxState}
use Rattle.psi_sender.proofs.Going.{spare_after}
use Rattle.psi_sender.proofs.session.Session.sent.Goals as goal

pub invariant_of-self : goal.invariant_of-self
invariant_of-self c =
    let kept = c.self.invariant in
    let old : OutboxState = c.self.inside.memory.outbox in
    let sent = c.sent.ensures in
    let few : c.args.n ≤ length old.pending = subst (λ r. c.args.n ≤ length r.pending) (sym c.self.view_is) c.requires in
    record {
      few = kept.few;
      full = kept.full;
      holds = record {
        rows = kept.holds.rows;
        opened = kept.holds.opened;
        tag_length = kept.holds.tag_length;
        hashes = kept.holds.hashes;
        tags = kept.holds.tags;
        block = kept.holds.block;
        room = ap (λ (b : OutboxState). b.room) sent ∙ kept.holds.room;
        spare = λ none.
            ap (λ (b : OutboxState). b.spare) sent
            ∙ (spare_after c.args.n old few (ap (λ (b : OutboxState). b.pending) (sym sent) ∙ none)
            ∙ ap (λ (b : OutboxState). b.room) (sym sent));
      };
      column = kept.column;
      answering = λ list block e. let a = kept.answering list block e in record { lists = a.lists; blocks = a.blocks; rows = a.rows; made = a.made };
    }
