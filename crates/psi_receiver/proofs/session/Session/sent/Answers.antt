use Rattle.std.proofs.Common.{drop, ℕ, ◌+◌, ◌≤◌, length, sym, ap, subst, ◌∙◌}
use Rattle.psi_spec.specs.Columns.{column_bytes}
use Rattle.psi_frames.specs.Boxes.{OutboxState}
use Rattle.psi_receiver.proofs.Going.{spare_after}
use Rattle.psi_receiver.proofs.Holding.{drop_none, shows_while_sent}
use Rattle.psi_receiver.proofs.session.Session.sent.Goals as goal

pub invariant_of-self : goal.invariant_of-self
invariant_of-self c =
    let kept = c.self.invariant in
    let old : OutboxState = c.self.inside.memory.outbox in
    let sent = c.sent.ensures in
    let few : c.args.n ≤ length old.pending = subst (λ r. c.args.n ≤ length r.pending) (sym c.self.view_is) c.requires in
    let room = ap (λ (b : OutboxState). b.room) sent in
    record {
      few = kept.few;
      dealt = kept.dealt;
      placed = kept.placed;
      holds = record {
        sent = kept.holds.sent;
        columns = kept.holds.columns;
        own = kept.holds.own;
        shown = kept.holds.shown;
        hello_room = subst (λ n. 34 ≤ n) (sym room) kept.holds.hello_room;
        column_room = subst (λ (n : ℕ). 7 + column_bytes c.self.inside.memory.sent.rows ≤ n) (sym room) kept.holds.column_room;
        spare = λ none.
            ap (λ (b : OutboxState). b.spare) sent
            ∙ (spare_after c.args.n old few (ap (λ (b : OutboxState). b.pending) (sym sent) ∙ none)
            ∙ ap (λ (b : OutboxState). b.room) (sym sent));
      };
      stands = kept.stands;
      shows = shows_while_sent c.self.inside.deal.now c.self.inside.placement.now c.self.inside.memory c.self.inside.phase c.sent.new.self (λ none. ap (λ (b : OutboxState). b.pending) sent ∙ ap (drop c.args.n) none ∙ drop_none c.args.n) kept.shows;
    }
